-- What is stored for an authenticator says correctly whether its reply bears a ticket.
use Rattle.std.proofs.Common.{◌≡◌, ℕ, ℤ, Bool, true, false, cond, ◌&&◌, if◌then◌else◌, IfSome, List, [], ◌∷◌, length}
use Rattle.std.proofs.Common.{Option, Some, None, refl, ap, sym, subst}
use Rattle.std.specs.Prelude.{nat_eq, nat_lt}
use Rattle.std.specs.Cmp.Lexicographic.{pointwise}
use Rattle.std.specs.FinMap as map
use Rattle.std.specs.FinMap.{get-empty, get-insert, get-retain_keys}
use Rattle.std.specs.Option.{unwrap_or}
use Rattle.std.specs.Ordering.{eq_by_cmp}
use Rattle.as_exchange.specs.Answer.{as_answer}
use Rattle.kdc_replies.specs.Incoming.{Incoming}
use Rattle.krb_der.specs.Spelling.{tlv}
use Rattle.krb_elements.specs.Codec.{written}
use Rattle.krb_fields.specs.Name.{Components, name_cmp, name_total}
use Rattle.krb_types.specs.KdcRep.{KdcRep, kdc_rep}
use Rattle.krb_types.specs.KrbError.{KrbError, krb_error}
use Rattle.krb_types.specs.ReqBody.{ReqBody}
use Rattle.kdc_state.proofs.CachesSeen.{cache_resumed}
use Rattle.kdc_state.proofs.Tidied.{cache_tidied}
use Rattle.kdc_state.specs.State.{cache_of, opened_state}
use Rattle.kdc_state.specs.declared.state.State.{State}
use Rattle.principals.specs.Change.{changed, refusal}
use Rattle.principals.specs.Database.{Principals}
use Rattle.principals.specs.declared.change.Change.{Change as PrincipalChange}
use Rattle.principals.specs.declared.change.ChangeFault.{ChangeFault}
use Rattle.replay.proofs.Resumed.{resumed_are}
use Rattle.replay.proofs.Stamps.{stamp_exact, stamp_total}
use Rattle.replay.specs.Kept.{nothing_kept}
use Rattle.replay.specs.ReplayCache.{floor_at, recorded}
use Rattle.replay.specs.Opening.{opening_floor}
use Rattle.replay.specs.Tidied.{empty_cache, tidied}
use Rattle.replay.specs.Stamp.{Stamp, is_from, stamp_cmp}
use Rattle.replay.specs.declared.failures.Failures.{Failures}
use Rattle.replay.specs.declared.keep.Bears.{Bears}
use Rattle.replay.specs.declared.keep.Bears.TheVariants.{Ticket, Error}
use Rattle.replay.specs.declared.keep.Kept.{Kept}
use Rattle.replay.specs.declared.cache.ReplayCache.{ReplayCache}
use Rattle.replay.specs.declared.opening.Opening.TheVariants.{First, Restart as OpenedAgain}
use Rattle.tgs_exchange.specs.Answer.{TgsAnswer, answer_by, is_ticket, kept_of, tgs_answer, tgs_error}
use Rattle.tgs_exchange.specs.Decision.{decision}
use Rattle.tgs_exchange.specs.Issue.{tgs_rep}
use Rattle.tgs_exchange.specs.View.{TgsView}
use Rattle.tgs_exchange.specs.declared.decision.Decision.{Decision}
use Rattle.tgs_exchange.specs.declared.decision.Decision.TheVariants.{Refuses, Records, Repeats, Issues}
use Rattle.tgs_opening.specs.declared.presented.Presented.{Presented}
use Rattle.kdc_core.specs.Answer.{contents_answer, counted, keep, stamped}
use Rattle.kdc_core.specs.Contents.{contents}
use Rattle.kdc_core.specs.Marked.{AllMarked, AreMarked, IsMarked, KeepsMarked}
use Rattle.kdc_core.specs.Request.{request_of}
use Rattle.kdc_core.specs.Run.{after_event, run, unless_faulty}
use Rattle.kdc_core.specs.Tickets.{bears_ticket}
use Rattle.kdc_core.specs.View.{View, as_view, cache_named, named, tgs_view, view}
use Rattle.kdc_core.specs.Held.{Contents}
use Rattle.kdc_core.specs.Held.Contents.{NoRequest, AsReq, RefusedTgsReq, TgsReq}
use Rattle.kdc_core.specs.declared.run.Event.{Event}
use Rattle.kdc_core.specs.declared.run.Event.TheVariants.{Request, Change, Replace, Tidy, Restart, Reopen, Resume}

-- ---- replies

pub error_bears_none : (e : KrbError) → bears_ticket (written krb_error e) ≡ false
unfolding tlv
error_bears_none e = refl

reply_bears_one : (r : KdcRep 13) → bears_ticket (written (kdc_rep 13) r) ≡ true
unfolding tlv
reply_bears_one r = refl

-- ---- what the TGS exchange stores

-- a request and its reply, or nothing if the request is too long
kept_marked : (longest : ℕ) (request : List ℕ) (bears : Bears) (octets : List ℕ) → is_ticket bears ≡ bears_ticket octets
    → IsMarked (kept_of longest request bears octets)
kept_marked longest request bears octets is = by_length (nat_lt longest (length request))
  where
    by_length : (long : Bool)
        → IsMarked (if long then nothing_kept else record { request = request; reply = octets; bears = bears })
    by_length true = refl
    by_length false = is

module _ (v : TgsView) (incoming : Incoming) (body : ReqBody) (p : Presented) where
  -- neither of two answers stores anything, or what it stores is marked correctly
  either : (b : Bool) (x y : TgsAnswer) → IfSome x.kept IsMarked → IfSome y.kept IsMarked
      → IfSome (if b then x else y).kept IsMarked
  either true x y of_x of_y = of_x
  either false x y of_x of_y = of_y

  decision_marked : (decided : Decision Kept) → IfSome (answer_by v incoming body p decided).kept IsMarked
  decision_marked (Refuses refusal) = tt
  decision_marked (Records refusal) =
      let e = tgs_error v.realm incoming.at body refusal in
      kept_marked v.limits.kept incoming.octets Error (written krb_error e) (sym (error_bears_none e))
  decision_marked (Repeats kept) =
      either (pointwise nat_eq incoming.octets kept.request) _ _
      (either (is_ticket kept.bears && nat_lt incoming.room (length kept.reply)) _ _ tt tt) tt
  decision_marked (Issues admission) =
      let reply = tgs_rep v incoming.at incoming.random body p admission in
      either (nat_lt incoming.room (length (written (kdc_rep 13) reply))) _ _ tt
      (kept_marked v.limits.kept incoming.octets Ticket (written (kdc_rep 13) reply) (sym (reply_bears_one reply)))

  tgs_marked : IfSome (tgs_answer v incoming body p).kept IsMarked
  tgs_marked = decision_marked (decision v incoming.at.sec body p)

-- ---- caches

recorded_marked : (m : ReplayCache Kept) (now : ℤ) (stamp : Stamp) (made : Kept) → AreMarked m → IsMarked made
    → AreMarked (recorded m now stamp made)
recorded_marked m now stamp made marked is s =
    let late = is_from (floor_at m.floor now) in
    subst (λ (o : Option Kept). IfSome o IsMarked)
    (sym (get-insert stamp_total (map.retain_keys m.pairs late) stamp made s)) (at (eq_by_cmp stamp_cmp s stamp))
  where
    left : (b : Bool) (o : Option Kept) → IfSome o IsMarked → IfSome (cond b o None) IsMarked
    left true o h = h
    left false o h = tt

    retained : IfSome (map.get (map.retain_keys m.pairs (is_from (floor_at m.floor now))) s) IsMarked
    retained =
        subst (λ (o : Option Kept). IfSome o IsMarked)
        (sym (get-retain_keys m.pairs (is_from (floor_at m.floor now)) s
        (λ x t. ap (is_from (floor_at m.floor now)) (sym (stamp_exact s x t)))))
        (left (is_from (floor_at m.floor now) s) (map.get m.pairs s) (marked s))

    at : (b : Bool) → IfSome (cond b (Some made) (map.get (map.retain_keys m.pairs (is_from (floor_at m.floor now))) s))
        IsMarked
    at true = is
    at false = retained

stamped_marked : (m : ReplayCache Kept) (now : ℤ) (p : Presented) (k : Option Kept) → AreMarked m → IfSome k IsMarked
    → IfSome (stamped m now p k) AreMarked
stamped_marked m now p (Some kept) marked is =
    recorded_marked m now (p.authenticator.ctime, p.authenticator.cusec) kept marked is
stamped_marked m now p None marked is = tt

counted_marked : (m : ReplayCache Kept) (failures : Option Failures) → AreMarked m → IfSome (counted m failures) AreMarked
counted_marked m (Some failures) marked = marked
counted_marked m None marked = tt

tidied_marked : (m : ReplayCache Kept) (now : ℤ) → AreMarked m → AreMarked (tidied m now)
tidied_marked m now marked s =
    subst (λ (o : Option Kept). IfSome o IsMarked)
    (sym (get-retain_keys m.pairs (is_from (floor_at m.floor now)) s
    (λ x t. ap (is_from (floor_at m.floor now)) (sym (stamp_exact s x t)))))
    (left (is_from (floor_at m.floor now) s) (map.get m.pairs s) (marked s))
  where
    left : (b : Bool) (o : Option Kept) → IfSome o IsMarked → IfSome (cond b o None) IsMarked
    left true o h = h
    left false o h = tt

empty_marked : (floor : ℤ) → AreMarked (empty_cache floor)
empty_marked floor stamp = subst (λ (o : Option Kept). IfSome o IsMarked) (sym (get-empty stamp_cmp stamp)) tt

-- if nothing is stored
unstored_marked : (floor : ℤ) (client : Components)
    → AreMarked (unwrap_or (map.get (map.empty {R = name_cmp}) client) (empty_cache floor))
unstored_marked floor client =
    subst (λ (o : Option (ReplayCache Kept)). AreMarked (unwrap_or o (empty_cache floor)))
    (sym (get-empty name_cmp client)) (empty_marked floor)

-- ---- answers

answer_marked : (v : View) (incoming : Incoming) (held : Contents) → AreMarked v.cache
    → IfSome (contents_answer v incoming held).kept AreMarked
answer_marked v incoming NoRequest marked = tt
answer_marked v incoming (AsReq message) marked =
    counted_marked v.cache (as_answer (as_view v) incoming message).failures marked
answer_marked v incoming (RefusedTgsReq message rejected) marked = tt
answer_marked v incoming (TgsReq message p) marked =
    stamped_marked v.cache incoming.at.sec p (tgs_answer (tgs_view v) incoming message.body.value p).kept marked
    (tgs_marked (tgs_view v) incoming message.body.value p)

-- ---- states

module _ (state : State) (marked : AllMarked state) where
  named_marked : (o : Option Components) → AreMarked (cache_named state o)
  named_marked (Some name) = marked name
  named_marked None = empty_marked (opening_floor First)

  keep_marked : (o : Option Components) (m : Option (ReplayCache Kept)) → IfSome m AreMarked → AllMarked (keep state o m)
  keep_marked (Some name) (Some m) is client =
      subst (λ (o : Option (ReplayCache Kept)). AreMarked (unwrap_or o (empty_cache state.floor)))
      (sym (get-insert name_total state.caches name m client)) (at (eq_by_cmp name_cmp client name))
    where
      at : (b : Bool)
          → AreMarked (unwrap_or (cond b (Some m) (map.get state.caches client)) (empty_cache state.floor))
      at true = is
      at false = marked client
  keep_marked (Some name) None is client = marked client
  keep_marked None m is client = marked client

  change_marked : (change : PrincipalChange) (fault : Option ChangeFault)
      → AllMarked (unless_faulty fault state (record state { database = changed state.database change }))
  change_marked change (Some fault) = marked
  change_marked change None = marked

  replaced_marked : (database : Principals) (same : Bool)
      → AllMarked (if same then record state { database = database } else state)
  replaced_marked database true = marked
  replaced_marked database false = marked

  event_marked : (event : Event) → AllMarked (after_event state event)
  event_marked (Request at random room octets) client =
      let incoming : Incoming = record { at = at; random = random; room = room; octets = octets } in
      keep_marked (named state octets).client
      (contents_answer (view state octets) incoming (contents (view state octets) (request_of octets))).kept
      (answer_marked (view state octets) incoming (contents (view state octets) (request_of octets))
      (named_marked (named state octets).client)) client
  event_marked (Change change) client = change_marked change (refusal state.database change) client
  event_marked (Replace database) client =
      replaced_marked database (pointwise nat_eq database.realm state.database.realm) client
  event_marked (Tidy at) client =
      subst AreMarked (sym (cache_tidied state at client)) (tidied_marked (cache_of state client) at.sec (marked client))
  event_marked (Restart at) client = unstored_marked (opening_floor (OpenedAgain at)) client
  event_marked (Reopen database limits at) client = unstored_marked (opening_floor (OpenedAgain at)) client
  event_marked (Resume database limits resumption) client =
      subst AreMarked (sym (cache_resumed client database limits resumption)) (resumed_are IsMarked refl resumption client)

run_marked : (state : State) (events : List Event) → AllMarked state → AllMarked (run state events)
run_marked state [] marked = marked
run_marked state (event ∷ events) marked = run_marked (after_event state event) events (event_marked state marked event)

pub keeps_marked : KeepsMarked
keeps_marked database limits opening events =
    run_marked (opened_state database limits opening) events (unstored_marked (opening_floor opening))
