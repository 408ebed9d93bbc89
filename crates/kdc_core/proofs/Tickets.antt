-- A run gets a client one reply with a ticket for each authenticator: the state is a machine that moves its replay
-- cache.
use Rattle.std.proofs.Common.{◌≡◌, ℕ, ℤ, Bool, true, false, cond, ◌&&◌, if◌then◌else◌, IfSome, List, [], ◌∷◌, length, Option, Some, None, option_map, refl, ap, sym, subst, ◌∙◌}
use Rattle.std.specs.Prelude.{⊤, nat_eq, nat_lt}
use Rattle.std.specs.Cmp.Lexicographic.{pointwise}
use Rattle.std.specs.FinMap as map
use Rattle.std.specs.FinMap.{get-insert, get-empty}
use Rattle.std.specs.Option.{unwrap_or}
use Rattle.std.specs.Ordering.{eq_by_cmp}
use Rattle.as_exchange.specs.Answer.{as_answer}
use Rattle.kdc_replies.specs.ErrorReply.{too_big}
use Rattle.kdc_replies.specs.Incoming.{Incoming}
use Rattle.krb_elements.specs.Codec.{written}
use Rattle.krb_fields.specs.Name.{Components, name_cmp, name_total, same_name}
use Rattle.krb_fields.specs.declared.moment.Moment.{Moment}
use Rattle.krb_types.specs.KrbError.{KrbError, krb_error}
use Rattle.krb_types.specs.ReqBody.{ReqBody}
use Rattle.replay.proofs.Resumed.{resumed_are}
use Rattle.replay.proofs.Runs.{GivesOf, one_for_each}
use Rattle.replay.specs.Kept.{nothing_kept}
use Rattle.replay.specs.Machine.{AllTakeOver, Change as CacheChange, Happens, IsGiven, IsGivenBy, Keeps, Resumes, TakesOver, happened, next_by, next_if}
use Rattle.replay.specs.Resumed.{resumed_cache}
use Rattle.replay.specs.Run.{CacheEvent, Checked, Counted, Restarted, Tidied, after_verdict, collected, with_any, RestartsFrom as CacheFrom, RestartsFollow as CachesFollow}
use Rattle.replay.specs.Stamp.{Stamp}
use Rattle.replay.specs.declared.failures.Failures.{Failures}
use Rattle.replay.specs.declared.keep.Bears.TheVariants.{Ticket}
use Rattle.replay.specs.declared.keep.Kept.{Kept}
use Rattle.replay.specs.declared.cache.ReplayCache.{ReplayCache}
use Rattle.replay.specs.declared.verdict.Verdict.{Verdict}
use Rattle.replay.specs.declared.verdict.Verdict.TheVariants.{Fresh, Skew, Repeat, Full as NoPlace}
use Rattle.tgs_exchange.specs.Answer.{TgsAnswer, answer_by, is_ticket, kept_of, kept_reply, refused, recording, tgs_answer, tgs_error, within_room}
use Rattle.tgs_exchange.specs.Decision.{decision, stamp_of, verdict_on}
use Rattle.tgs_exchange.specs.DecisionLaws.{HasSaid, has_said}
use Rattle.tgs_exchange.specs.View.{TgsView}
use Rattle.tgs_exchange.specs.declared.decision.Decision.{Decision}
use Rattle.tgs_exchange.specs.declared.decision.Decision.TheVariants.{Refuses, Records, Repeats, Issues}
use Rattle.tgs_opening.specs.declared.presented.Presented.{Presented}
use Rattle.ap_req.specs.declared.refusal.ApRefusal.TheVariants.{Repeated}
use Rattle.tgs_opening.specs.declared.refusal.TgsRefusal.TheVariants.{Ap}
use Rattle.replay.specs.Opening.{opening_floor}
use Rattle.replay.specs.Tidied.{empty_cache}
use Rattle.kdc_state.proofs.CachesSeen.{cache_resumed}
use Rattle.kdc_state.proofs.Tidied.{cache_tidied}
use Rattle.kdc_state.specs.State.{cache_of}
use Rattle.replay.specs.declared.opening.Opening.TheVariants.{Restart as OpenedAgain}
use Rattle.kdc_state.specs.declared.state.State.{State}
use Rattle.principals.specs.Change.{changed, refusal}
use Rattle.principals.specs.Database.{Principals}
use Rattle.principals.specs.declared.change.Change.{Change as PrincipalChange}
use Rattle.principals.specs.declared.change.ChangeFault.{ChangeFault}
use Rattle.kdc_core.specs.Answer.{contents_answer, counted, keep, after_incoming, stamped}
use Rattle.kdc_core.specs.Contents.{contents, names_answered, presented_in}
use Rattle.kdc_core.specs.ContentsLaws.{AreNamesOf, are_names_of, nothing_kept as as_it_was}
use Rattle.kdc_core.specs.Request.{request_of}
use Rattle.kdc_core.specs.Run.{after_event, unless_faulty}
use Rattle.kdc_core.specs.Struck.{is_client}
use Rattle.kdc_core.proofs.Marking.{error_bears_none}
use Rattle.kdc_core.specs.Tickets.{bears_ticket, OneTicket, RestartsFollow, RestartsFrom, ResumesFollow, ResumesWithAll, ticket_by, ticket_to}
use Rattle.kdc_core.specs.View.{Named, View, as_view, components_of, cache_named, named, presented_view, tgs_view, view, named_view}
use Rattle.kdc_core.specs.Held.{Contents}
use Rattle.kdc_core.specs.Held.Contents.{NoRequest, AsReq, RefusedTgsReq, TgsReq}
use Rattle.kdc_core.specs.declared.run.Event.{Event}
use Rattle.kdc_core.specs.declared.run.Event.TheVariants.{Request, Change, Replace, Tidy, Restart, Reopen, Resume}

-- ---- what a cache gives: a fresh authenticator gets the new reply, and the cache stores all of it or nothing;
-- ---- a repeated one gets the stored reply, if that bears a ticket

abbrev Give : Kept → Verdict Kept → List ℕ → Type 0
Give made Fresh octets = bears_ticket made.reply ≡ true → octets ≡ made.reply
Give made Skew octets = ⊥
Give made (Repeat kept) octets = (bears_ticket kept.reply ≡ true) × (octets ≡ kept.reply)
Give made NoPlace octets = ⊥

gives_kept : GivesOf Give
gives_kept = record {
  fresh = λ made x given other y again. again.1 ∙ sym (given again.0);
  repeat = λ made kept x given other y again. again.1 ∙ sym given.1;
  skew = λ made x given. given;
  full = λ made x given. given;
}

-- the reply with a ticket is what is stored, unless the request is too long for that
fresh_kept : (request octets : List ℕ) (long : Bool)
    → bears_ticket (if long then nothing_kept else record { request = request; reply = octets; bears = Ticket }).reply ≡ true
    → octets ≡ (if long then nothing_kept else record { request = request; reply = octets; bears = Ticket }).reply
fresh_kept request octets true bears = absurd cc
fresh_kept request octets false bears = refl

-- ---- errors bear no ticket

-- the bytes with a stamp, if they bear a ticket
abbrev handed : Stamp → List ℕ → Option (Stamp × List ℕ)
handed stamp octets = if bears_ticket octets then Some (stamp, octets) else None

handed_where : {X : Type 0} (b : Bool) (x : X) (P : X → Type 0) → P x → IfSome (if b then Some x else None) P
handed_where true x P p = p
handed_where false x P p = tt

handed_if : {X : Type 0} (b : Bool) (x : X) (P : X → Type 0) → (b ≡ true → P x) → IfSome (if b then Some x else None) P
handed_if true x P p = p refl
handed_if false x P p = tt

handed_none : {X : Type 0} (b : Bool) (x : X) (P : X → Type 0) → b ≡ false → IfSome (if b then Some x else None) P
handed_none true x P e = absurd cc
handed_none false x P e = tt

error_handed : (stamp : Stamp) (e : KrbError) (P : Stamp × List ℕ → Type 0) → IfSome (handed stamp (written krb_error e)) P
error_handed stamp e P = handed_none (bears_ticket (written krb_error e)) (stamp, written krb_error e) P (error_bears_none e)

-- ---- what the TGS exchange does to a client's cache

module _ (v : TgsView) (incoming : Incoming) (body : ReqBody) (p : Presented) where
  -- answers that leave no trace: these bytes, or the error that replaces a reply that is too long
  abbrev no_trace : List ℕ → TgsAnswer
  no_trace octets = record { reply = octets; kept = None }

  abbrev too_long : TgsAnswer
  too_long = no_trace (written krb_error (too_big v.realm incoming.at body))

  abbrev asked : Kept → CacheEvent Kept
  asked made = Checked incoming.at.sec (stamp_of p) made

  abbrev answered : Decision Kept → TgsAnswer
  answered decided = answer_by v incoming body p decided

  -- the cache is asked about an authenticator that is recorded with its reply, or that came before
  abbrev happens_by : Decision Kept → Option (CacheEvent Kept)
  happens_by (Refuses refusal) = None
  happens_by (Records refusal) = option_map asked (answered (Records refusal)).kept
  happens_by (Repeats kept) = Some (asked kept)
  happens_by (Issues admission) = option_map asked (answered (Issues admission)).kept

  abbrev happens_now : Option (CacheEvent Kept)
  happens_now = happens_by (decision v incoming.at.sec body p)

  fresh_moves : verdict_on v incoming.at.sec p ≡ Fresh → (k : Option Kept) → unwrap_or (stamped v.cache incoming.at.sec p k) v.cache ≡ next_if v.limits.remembered v.cache (option_map asked k)
  fresh_moves e (Some k) = sym (ap (after_verdict v.cache incoming.at.sec (stamp_of p) k) e)
  fresh_moves e None = refl

  kept_none : (octets : List ℕ) (b : Bool) → (if b then too_long else no_trace octets).kept ≡ None
  kept_none octets true = refl
  kept_none octets false = refl

  repeat_none : (kept : Kept) (same : Bool) → (if same then kept_reply v incoming body kept else refused v incoming.at body (Ap Repeated)).kept ≡ None
  repeat_none kept true = kept_none kept.reply (is_ticket kept.bears && nat_lt incoming.room (length kept.reply))
  repeat_none kept false = refl

  decision_moves : (decided : Decision Kept) → HasSaid v incoming.at.sec p decided → unwrap_or (stamped v.cache incoming.at.sec p (answered decided).kept) v.cache ≡ next_if v.limits.remembered v.cache (happens_by decided)
  decision_moves (Refuses refusal) said = refl
  decision_moves (Records refusal) said = fresh_moves said (answered (Records refusal)).kept
  decision_moves (Repeats kept) said =
      ap (λ k. unwrap_or (stamped v.cache incoming.at.sec p k) v.cache) (repeat_none kept (pointwise nat_eq incoming.octets kept.request))
      ∙ sym (ap (after_verdict v.cache incoming.at.sec (stamp_of p) kept) said)
  decision_moves (Issues admission) said = fresh_moves said (answered (Issues admission)).kept

  cache_moves : unwrap_or (stamped v.cache incoming.at.sec p (tgs_answer v incoming body p).kept) v.cache ≡ next_if v.limits.remembered v.cache happens_now
  cache_moves = decision_moves (decision v incoming.at.sec body p) (has_said v incoming.at.sec body p)

  -- ---- and what it hands out

  abbrev Gives : Option (CacheEvent Kept) → Stamp × List ℕ → Type 0
  Gives = IsGiven Give v.limits.remembered v.cache

  room_gives : verdict_on v incoming.at.sec p ≡ Fresh → (octets : List ℕ) → IfSome (handed (stamp_of p) (within_room v incoming body octets).reply) (Gives (option_map asked (within_room v incoming body octets).kept))
  room_gives e octets = by_length (nat_lt incoming.room (length octets))
    where
      by_length : (long : Bool)
          → IfSome (handed (stamp_of p) (if long then too_long else recording v incoming.octets Ticket octets).reply)
          (Gives (option_map asked (if long then too_long else recording v incoming.octets Ticket octets).kept))
      by_length true = error_handed (stamp_of p) (too_big v.realm incoming.at body) _
      by_length false = handed_where (bears_ticket octets) (stamp_of p, octets) _
          (refl, subst (λ w. Give (kept_of v.limits.kept incoming.octets Ticket octets) w octets) (sym e) (fresh_kept incoming.octets octets (nat_lt v.limits.kept (length incoming.octets))))

  kept_gives : (kept : Kept) → verdict_on v incoming.at.sec p ≡ Repeat kept → (long : Bool)
      → IfSome (handed (stamp_of p) (if long then too_long else no_trace kept.reply).reply) (Gives (Some (asked kept)))
  kept_gives kept e true = error_handed (stamp_of p) (too_big v.realm incoming.at body) _
  kept_gives kept e false =
      handed_if (bears_ticket kept.reply) (stamp_of p, kept.reply) _
      (λ borne. (refl, subst (λ v. Give kept v kept.reply) (sym e) (borne, refl)))

  repeat_gives : (kept : Kept) → verdict_on v incoming.at.sec p ≡ Repeat kept → (same : Bool)
      → IfSome (handed (stamp_of p) (if same then kept_reply v incoming body kept else refused v incoming.at body (Ap Repeated)).reply) (Gives (Some (asked kept)))
  repeat_gives kept e true = kept_gives kept e (is_ticket kept.bears && nat_lt incoming.room (length kept.reply))
  repeat_gives kept e false = error_handed (stamp_of p) (tgs_error v.realm incoming.at body (Ap Repeated)) _

  decision_gives : (decided : Decision Kept) → HasSaid v incoming.at.sec p decided → IfSome (handed (stamp_of p) (answered decided).reply) (Gives (happens_by decided))
  decision_gives (Refuses refusal) said = error_handed (stamp_of p) (tgs_error v.realm incoming.at body refusal) _
  decision_gives (Records refusal) said = error_handed (stamp_of p) (tgs_error v.realm incoming.at body refusal) _
  decision_gives (Repeats kept) said = repeat_gives kept said (pointwise nat_eq incoming.octets kept.request)
  decision_gives (Issues admission) said = room_gives said _

  cache_gives : IfSome (handed (stamp_of p) (tgs_answer v incoming body p).reply) (Gives happens_now)
  cache_gives = decision_gives (decision v incoming.at.sec body p) (has_said v incoming.at.sec body p)

-- ---- what events do to a client's cache

-- the cache that is stored for a name
pub cache_kept : (state : State) (c name : Components) (m : Option (ReplayCache Kept)) → cache_of (keep state (Some name) m) c ≡ cond (eq_by_cmp name_cmp c name) (unwrap_or m (cache_of state name)) (cache_of state c)
cache_kept state c name (Some m) = ap (λ o. unwrap_or o (empty_cache state.floor)) (get-insert name_total state.caches name m c) ∙ inside (eq_by_cmp name_cmp c name)
  where
    inside : (b : Bool) → unwrap_or (cond b (Some m) (map.get state.caches c)) (empty_cache state.floor) ≡ cond b m (cache_of state c)
    inside true = refl
    inside false = refl
cache_kept state c name None = by_test (eq_by_cmp name_cmp c name) refl
  where
    by_test : (b : Bool) → eq_by_cmp name_cmp c name ≡ b → cache_of state c ≡ cond b (cache_of state name) (cache_of state c)
    by_test true same = ap (cache_of state) (same_name c name same)
    by_test false apart = refl

module _ (c : Components) where
  -- only what happens to the client c
  abbrev for_name : Components → Option (CacheEvent Kept) → Option (CacheEvent Kept)
  for_name name o = if eq_by_cmp name_cmp c name then o else None

  abbrev happens_as : Option Components → Option Failures → Option (CacheEvent Kept)
  happens_as (Some name) failures = for_name name (option_map Counted failures)
  happens_as None failures = None

  abbrev happens_of : View → Incoming → Contents → Option (CacheEvent Kept)
  happens_of v incoming NoRequest = None
  happens_of v incoming (AsReq message) = happens_as (components_of message.body.value.cname) (as_answer (as_view v) incoming message).failures
  happens_of v incoming (RefusedTgsReq message rejected) = None
  happens_of v incoming (TgsReq message p) = for_name p.ticket.cname.components (happens_now (tgs_view v) incoming message.body.value p)

  abbrev happens_request : State → Incoming → Option (CacheEvent Kept)
  happens_request state incoming = happens_of (view state incoming.octets) incoming (contents (view state incoming.octets) (request_of incoming.octets))

  abbrev changes : State → Event → CacheChange Kept
  changes state (Request at random room octets) = Happens (happens_request state (record { at = at; random = random; room = room; octets = octets }))
  changes state (Change change) = Happens None
  changes state (Replace database) = Happens None
  changes state (Tidy at) = Happens (Some (Tidied at.sec))
  changes state (Restart at) = Happens (Some (Restarted at.sec))
  changes state (Reopen database limits at) = Happens (Some (Restarted at.sec))
  changes state (Resume database limits resumption) = Resumes (resumed_cache resumption c)

  abbrev happens : State → Event → Option (CacheEvent Kept)
  happens state event = happened (changes state event)

  -- ---- the cache moves as these events say

  moved_for : (limit : ℕ) (state : State) (name : Components) (m : Option (ReplayCache Kept)) (o : Option (CacheEvent Kept)) → unwrap_or m (cache_of state name) ≡ next_if limit (cache_of state name) o
      → cache_of (keep state (Some name) m) c ≡ next_if limit (cache_of state c) (for_name name o)
  moved_for limit state name m o moved = cache_kept state c name m ∙ by_test (eq_by_cmp name_cmp c name) refl
    where
      by_test : (b : Bool) → eq_by_cmp name_cmp c name ≡ b → cond b (unwrap_or m (cache_of state name)) (cache_of state c) ≡ next_if limit (cache_of state c) (if b then o else None)
      by_test true same = moved ∙ ap (λ n. next_if limit (cache_of state n) o) (sym (same_name c name same))
      by_test false apart = refl

  counted_moves : (limit : ℕ) (cache : ReplayCache Kept) (failures : Option Failures) → unwrap_or (counted cache failures) cache ≡ next_if limit cache (option_map Counted failures)
  counted_moves limit cache (Some failures) = refl
  counted_moves limit cache None = refl

  as_moves : (state : State) (o : Option Components) (cache : ReplayCache Kept) → IfSome o (λ name. cache ≡ cache_of state name) → (failures : Option Failures)
      → cache_of (keep state o (counted cache failures)) c ≡ next_if state.limits.remembered (cache_of state c) (happens_as o failures)
  as_moves state (Some name) cache is failures =
      moved_for state.limits.remembered state name (counted cache failures) (option_map Counted failures)
      (subst (λ m. unwrap_or (counted cache failures) m ≡ next_if state.limits.remembered m (option_map Counted failures)) is (counted_moves state.limits.remembered cache failures))
  as_moves state None cache is failures = refl

  pub named_cache : (state : State) (names : Named) → IfSome names.client (λ name. (named_view state names).cache ≡ cache_of state name)
  named_cache state names = by_name names.client
    where
      by_name : (o : Option Components) → IfSome o (λ name. cache_named state o ≡ cache_of state name)
      by_name (Some name) = refl
      by_name None = tt

  -- by what the request contains, with the names of the view
  abbrev Moves : State → Incoming → Named → Contents → Type 0
  Moves state incoming names held =
      cache_of (keep state names.client (contents_answer (named_view state names) incoming held).kept) c
      ≡ next_if state.limits.remembered (cache_of state c) (happens_of (named_view state names) incoming held)

  moves_of : (state : State) (incoming : Incoming) (names : Named) (held : Contents) → AreNamesOf names held → Moves state incoming names held
  moves_of state incoming names NoRequest names_are = ap (λ s. cache_of s c) (as_it_was state names.client)
  moves_of state incoming names (AsReq message) names_are =
      subst (λ (n : Named). Moves state incoming n (AsReq message)) (sym names_are)
      (as_moves state (components_of message.body.value.cname) (named_view state (names_answered (AsReq message))).cache (named_cache state (names_answered (AsReq message)))
      (as_answer (as_view (named_view state (names_answered (AsReq message)))) incoming message).failures)
  moves_of state incoming names (RefusedTgsReq message rejected) names_are = ap (λ s. cache_of s c) (as_it_was state names.client)
  moves_of state incoming names (TgsReq message p) names_are =
      let v = tgs_view (presented_view state message p) in
      subst (λ (n : Named). Moves state incoming n (TgsReq message p)) (sym names_are)
      (moved_for state.limits.remembered state p.ticket.cname.components (contents_answer (presented_view state message p) incoming (TgsReq message p)).kept _
      (cache_moves v incoming message.body.value p))

  moves_request : (state : State) (incoming : Incoming) → cache_of (after_incoming state incoming) c ≡ next_if state.limits.remembered (cache_of state c) (happens_request state incoming)
  moves_request state incoming =
      moves_of state incoming (named state incoming.octets) (contents (view state incoming.octets) (request_of incoming.octets)) (are_names_of state (request_of incoming.octets))

  pub unless_memory : (state : State) (change : PrincipalChange) (fault : Option ChangeFault) → cache_of (unless_faulty fault state (record state { database = changed state.database change })) c ≡ cache_of state c
  unless_memory state change (Some fault) = refl
  unless_memory state change None = refl

  pub replaced_cache : (state : State) (database : Principals) (b : Bool) → cache_of (if b then record state { database = database } else state) c ≡ cache_of state c
  replaced_cache state database true = refl
  replaced_cache state database false = refl

  opened_again : (at : Moment) → unwrap_or (map.get (map.empty {R = name_cmp}) c) (empty_cache {T = Kept} (opening_floor (OpenedAgain at))) ≡ empty_cache (opening_floor (OpenedAgain at))
  opened_again at = ap (λ o. unwrap_or o (empty_cache (opening_floor (OpenedAgain at)))) (get-empty name_cmp c)

  moves : (state : State) (event : Event) → cache_of (after_event state event) c ≡ next_by state.limits.remembered (cache_of state c) (changes state event)
  moves state (Request at random room octets) = moves_request state (record { at = at; random = random; room = room; octets = octets })
  moves state (Change change) = unless_memory state change (refusal state.database change)
  moves state (Replace database) = replaced_cache state database (pointwise nat_eq database.realm state.database.realm)
  moves state (Tidy at) = cache_tidied state at c
  moves state (Restart at) = opened_again at
  moves state (Reopen database limits at) = opened_again at
  moves state (Resume database limits resumption) = cache_resumed c database limits resumption

  -- ---- what is handed out is what the cache gives

  given_for : (limit : ℕ) (state : State) (name : Components) (handed : Option (Stamp × List ℕ)) (o : Option (CacheEvent Kept)) → IfSome handed (IsGiven Give limit (cache_of state name) o)
      → IfSome (if eq_by_cmp name_cmp c name then handed else None) (IsGiven Give limit (cache_of state c) (for_name name o))
  given_for limit state name handed o given = by_test (eq_by_cmp name_cmp c name) refl
    where
      by_test : (b : Bool) → eq_by_cmp name_cmp c name ≡ b → IfSome (if b then handed else None) (IsGiven Give limit (cache_of state c) (if b then o else None))
      by_test true same = subst (λ n. IfSome handed (IsGiven Give limit (cache_of state n) o)) (sym (same_name c name same)) given
      by_test false apart = tt

  nothing_given : (b : Bool) (P : Stamp × List ℕ → Type 0) → IfSome (if b then None else None) P
  nothing_given true P = tt
  nothing_given false P = tt

  abbrev HandsOut : State → Incoming → Named → Contents → Type 0
  HandsOut state incoming names held =
      IfSome (if is_client c names.client then ticket_by (presented_in held) (contents_answer (named_view state names) incoming held).reply else None)
      (IsGiven Give state.limits.remembered (cache_of state c) (happens_of (named_view state names) incoming held))

  gives_of : (state : State) (incoming : Incoming) (names : Named) (held : Contents) → AreNamesOf names held → HandsOut state incoming names held
  gives_of state incoming names NoRequest names_are = nothing_given (is_client c names.client) _
  gives_of state incoming names (AsReq message) names_are = nothing_given (is_client c names.client) _
  gives_of state incoming names (RefusedTgsReq message rejected) names_are = nothing_given (is_client c names.client) _
  gives_of state incoming names (TgsReq message p) names_are =
      let v = tgs_view (presented_view state message p) in
      let answered : TgsAnswer = tgs_answer v incoming message.body.value p in
      subst (λ (n : Named). HandsOut state incoming n (TgsReq message p)) (sym names_are)
      (given_for state.limits.remembered state p.ticket.cname.components (handed (stamp_of p) answered.reply) _ (cache_gives v incoming message.body.value p))

  gives_request : (state : State) (incoming : Incoming)
      → HandsOut state incoming (named state incoming.octets) (contents (view state incoming.octets) (request_of incoming.octets))
  gives_request state incoming =
      gives_of state incoming (named state incoming.octets) (contents (view state incoming.octets) (request_of incoming.octets)) (are_names_of state (request_of incoming.octets))

  gives : (state : State) (event : Event) → IfSome (ticket_to c state event) (IsGivenBy Give state.limits.remembered (cache_of state c) (changes state event))
  gives state (Request at random room octets) = gives_request state (record { at = at; random = random; room = room; octets = octets })
  gives state (Change change) = tt
  gives state (Replace database) = tt
  gives state (Tidy at) = tt
  gives state (Restart at) = tt
  gives state (Reopen database limits at) = tt
  gives state (Resume database limits resumption) = tt

  -- ---- restarts

  -- an authenticator is checked at the second of its request
  abbrev IsAt : ℤ → Option (CacheEvent Kept) → Type 0
  IsAt now None = ⊤
  IsAt now (Some (Checked second stamp made)) = second ≡ now
  IsAt now (Some (Counted failures)) = ⊤
  IsAt now (Some (Restarted at)) = ⊥
  IsAt now (Some (Tidied at)) = ⊥

  for_name_at : (now : ℤ) (b : Bool) (o : Option (CacheEvent Kept)) → IsAt now o → IsAt now (if b then o else None)
  for_name_at now true o at = at
  for_name_at now false o at = tt

  counted_at : (now : ℤ) (failures : Option Failures) → IsAt now (option_map Counted failures)
  counted_at now (Some failures) = tt
  counted_at now None = tt

  as_at : (now : ℤ) (o : Option Components) (failures : Option Failures) → IsAt now (happens_as o failures)
  as_at now (Some name) failures = for_name_at now (eq_by_cmp name_cmp c name) (option_map Counted failures) (counted_at now failures)
  as_at now None failures = tt

  module _ (v : TgsView) (incoming : Incoming) (body : ReqBody) (p : Presented) where
    asked_at : (k : Option Kept) → IsAt incoming.at.sec (option_map (asked v incoming body p) k)
    asked_at (Some k) = refl
    asked_at None = tt

    decision_at : (decided : Decision Kept) → IsAt incoming.at.sec (happens_by v incoming body p decided)
    decision_at (Refuses refusal) = tt
    decision_at (Records refusal) = refl
    decision_at (Repeats kept) = refl
    decision_at (Issues admission) = asked_at (answered v incoming body p (Issues admission)).kept

  at_of : (v : View) (incoming : Incoming) (held : Contents) → IsAt incoming.at.sec (happens_of v incoming held)
  at_of v incoming NoRequest = tt
  at_of v incoming (AsReq message) = as_at incoming.at.sec (components_of message.body.value.cname) (as_answer (as_view v) incoming message).failures
  at_of v incoming (RefusedTgsReq message rejected) = tt
  at_of v incoming (TgsReq message p) =
      for_name_at incoming.at.sec (eq_by_cmp name_cmp c p.ticket.cname.components) _
      (decision_at (tgs_view v) incoming message.body.value p (decision (tgs_view v) incoming.at.sec message.body.value p))

  at_request : (state : State) (incoming : Incoming) → IsAt incoming.at.sec (happens_request state incoming)
  at_request state incoming = at_of (view state incoming.octets) incoming (contents (view state incoming.octets) (request_of incoming.octets))

  from_any : (now second : ℤ) (o : Option (CacheEvent Kept)) (rest : List (CacheEvent Kept)) → IsAt second o → CacheFrom now rest → CacheFrom now (with_any o rest)
  from_any now second None rest at from = from
  from_any now second (Some (Checked time stamp made)) rest at from = from
  from_any now second (Some (Counted failures)) rest at from = from
  from_any now second (Some (Restarted time)) rest at from = absurd at
  from_any now second (Some (Tidied time)) rest at from = absurd at

  follow_any : (second : ℤ) (o : Option (CacheEvent Kept)) (rest : List (CacheEvent Kept)) → IsAt second o → CacheFrom second rest → CachesFollow rest → CachesFollow (with_any o rest)
  follow_any second None rest at from follow = follow
  follow_any second (Some (Checked time stamp made)) rest at from follow = (subst (λ now. CacheFrom now rest) (sym at) from, follow)
  follow_any second (Some (Counted failures)) rest at from follow = follow
  follow_any second (Some (Restarted time)) rest at from follow = absurd at
  follow_any second (Some (Tidied time)) rest at from follow = absurd at

  restarts_from : (now : ℤ) (state : State) (events : List Event) → RestartsFrom now events → CacheFrom now (collected after_event happens state events)
  restarts_from now state [] from = tt
  restarts_from now state (Request at random room request ∷ events) from =
      from_any now at.sec (happens state (Request at random room request)) _ (at_request state (record { at = at; random = random; room = room; octets = request }))
      (restarts_from now (after_event state (Request at random room request)) events from)
  restarts_from now state (Change change ∷ events) from = restarts_from now (after_event state (Change change)) events from
  restarts_from now state (Replace database ∷ events) from = restarts_from now (after_event state (Replace database)) events from
  restarts_from now state (Tidy at ∷ events) from = restarts_from now (after_event state (Tidy at)) events from
  restarts_from now state (Restart at ∷ events) from = (from.0, restarts_from now (after_event state (Restart at)) events from.1)
  restarts_from now state (Reopen database limits at ∷ events) from = (from.0, restarts_from now (after_event state (Reopen database limits at)) events from.1)
  restarts_from now state (Resume database limits resumption ∷ events) from = restarts_from now (after_event state (Resume database limits resumption)) events from

  restarts_follow : (state : State) (events : List Event) → RestartsFollow events → CachesFollow (collected after_event happens state events)
  restarts_follow state [] follow = tt
  restarts_follow state (Request at random room request ∷ events) follow =
      follow_any at.sec (happens state (Request at random room request)) _ (at_request state (record { at = at; random = random; room = room; octets = request }))
      (restarts_from at.sec (after_event state (Request at random room request)) events follow.0)
      (restarts_follow (after_event state (Request at random room request)) events follow.1)
  restarts_follow state (Change change ∷ events) follow = restarts_follow (after_event state (Change change)) events follow
  restarts_follow state (Replace database ∷ events) follow = restarts_follow (after_event state (Replace database)) events follow
  restarts_follow state (Tidy at ∷ events) follow = restarts_follow (after_event state (Tidy at)) events follow
  restarts_follow state (Restart at ∷ events) follow = restarts_follow (after_event state (Restart at)) events follow
  restarts_follow state (Reopen database limits at ∷ events) follow = restarts_follow (after_event state (Reopen database limits at)) events follow
  restarts_follow state (Resume database limits resumption ∷ events) follow = restarts_follow (after_event state (Resume database limits resumption)) events follow

  -- ---- resuming

  takes_over : (state : State) (event : Event) → ResumesWithAll state event → TakesOver Give (cache_of state c) (changes state event)
  takes_over state (Request at random room request) all = tt
  takes_over state (Change change) all = tt
  takes_over state (Replace database) all = tt
  takes_over state (Tidy at) all = tt
  takes_over state (Restart at) all = tt
  takes_over state (Reopen database limits at) all = tt
  takes_over state (Resume database limits resumption) all =
      (all c, resumed_are (λ kept. (made : Kept) (octets : List ℕ) → Give made (Repeat kept) octets → ⊥) (λ made octets given. let bears = given.0 in cc) resumption c)

  all_take_over : (state : State) (events : List Event) → ResumesFollow state events → AllTakeOver Give after_event (λ state. cache_of state c) changes state events
  all_take_over state [] follow = tt
  all_take_over state (event ∷ events) follow = (takes_over state event follow.0, all_take_over (after_event state event) events follow.1)

  keeps : Keeps Give (λ (state : State). state.limits.remembered) after_event (λ state. cache_of state c) changes (ticket_to c)
  keeps = record { moves = moves; gives = gives }

pub one_ticket : (state : State) (events : List Event) → OneTicket state events
one_ticket state events follow resumes c =
    one_for_each Give gives_kept (λ state. state.limits.remembered) after_event (λ state. cache_of state c) (changes c) (ticket_to c) (keeps c) state events
    (restarts_follow c state events follow) (all_take_over c state events resumes)
