-- What a process started with, and what it has recorded since, cover its state.
use Rattle.std.proofs.Common.{◌≡◌, ℤ, pos, ◌-ℤ◌, ◌≤ℤ◌, Bool, true, false, cond, List, [], ◌∷◌, Option, Some, None, is_eq, refl, sym, ap, subst, ◌∙◌, append_assoc, arith}
use Rattle.std.specs.Prelude.{IfSome, nat_eq}
use Rattle.std.specs.Int.{int_max}
use Rattle.std.specs.Cmp.Lexicographic.{pointwise}
use Rattle.std.specs.FinMap as map
use Rattle.std.specs.FinMap.{get-empty, get-insert}
use Rattle.std.specs.Cmp.{tied_itself}
use Rattle.std.specs.Option.{is_some, unwrap_or}
use Rattle.std.specs.Ordering.{eq_by_cmp}
use Rattle.std.proofs.lemmas.Int.{ints, clamps}
use Rattle.as_exchange.specs.Answer.{as_answer}
use Rattle.kdc_replies.specs.Incoming.{Incoming}
use Rattle.krb_fields.specs.Name.{Components, name_cmp, name_total, same_name}
use Rattle.krb_fields.specs.Skew.{skew}
use Rattle.principals.specs.Change.{refusal}
use Rattle.replay.proofs.Holding.{extended_holds, last_spent, recorded_held, tidied_held}
use Rattle.replay.proofs.Stamps.{stamp_total}
use Rattle.replay.specs.ReplayCache.{floor_at, recorded}
use Rattle.replay.specs.Opening.{opening_floor}
use Rattle.replay.specs.Resumed.{Holds, is_spent, resumed_cache, stamp_seen}
use Rattle.replay.specs.Run.{with_any}
use Rattle.replay.specs.Stamp.{is_from}
use Rattle.replay.specs.Tidied.{empty_cache}
use Rattle.replay.specs.declared.failures.Failures.{Failures}
use Rattle.replay.specs.declared.keep.Kept.{Kept}
use Rattle.replay.specs.declared.cache.ReplayCache.{ReplayCache}
use Rattle.replay.specs.declared.seen.Resumption.{Resumption}
use Rattle.replay.specs.declared.seen.Seen.{Seen}
use Rattle.tgs_exchange.specs.Answer.{tgs_answer}
use Rattle.tgs_exchange.specs.Decision.{stamp_of}
use Rattle.tgs_opening.specs.declared.presented.Presented.{Presented}
use Rattle.kdc_state.proofs.CachesSeen.{cache_resumed}
use Rattle.kdc_state.proofs.Tidied.{cache_tidied}
use Rattle.kdc_state.specs.State.{cache_of}
use Rattle.kdc_state.specs.declared.state.State.{State}
use Rattle.kdc_core.proofs.Tickets.{cache_kept, named_cache, replaced_cache, unless_memory}
use Rattle.kdc_core.specs.Answer.{after_incoming, contents_answer, counted, keep, stamped}
use Rattle.kdc_core.specs.Contents.{contents, names_answered}
use Rattle.kdc_core.specs.ContentsLaws.{AreNamesOf, are_names_of, nothing_kept}
use Rattle.kdc_core.specs.NewlySeen.{CanBeResumed, Covers, CoversOn, CoversOpened, CoversResumed, HoldsNewlySeen, IsUpTo, event_sees, contents_seen, incoming_seen, resumption_at, run_sees, seen_if_kept}
use Rattle.kdc_core.specs.Request.{request_of}
use Rattle.kdc_core.specs.Run.{after_event, run}
use Rattle.kdc_core.specs.View.{Named, as_view, components_of, named, presented_view, tgs_view, view, named_view}
use Rattle.kdc_core.specs.Held.{Contents}
use Rattle.kdc_core.specs.Held.Contents.{NoRequest, AsReq, RefusedTgsReq, TgsReq}
use Rattle.kdc_core.specs.declared.run.Event.{Event}
use Rattle.kdc_core.specs.declared.run.Event.TheVariants.{Request, Change, Replace, Tidy, Restart, Reopen, Resume}

late_enough : (floor at now : ℤ) → at ≤ℤ now → (at -ℤ pos skew) ≤ℤ int_max floor (now -ℤ pos skew)
late_enough floor at now le = grind (arith, ints, clamps)

no_lower : (floor now : ℤ) → floor ≤ℤ int_max floor (now -ℤ pos skew)
no_lower floor now = grind (arith, ints, clamps)

max_again : (floor low : ℤ) → int_max (int_max floor low) low ≡ int_max floor low
max_again floor low = grind (arith, ints, clamps)

module _ (c : Components) (r : Resumption) (now : ℤ) where
  -- the resumption that a later start uses
  abbrev later : List Seen → Resumption
  later more = resumption_at now r more

  abbrev HeldBy : ReplayCache Kept → List Seen → Type 0
  HeldBy m more = Holds m (resumed_cache (later more) c)

  module _ (state : State) (covers : Covers state r) where
    -- a cache that didn't change
    stays : (more : List Seen) → HeldBy (cache_of state c) more
    stays more s is = extended_holds c r (int_max r.floor (now -ℤ pos skew)) more (no_lower r.floor now) s (covers c s is)

    -- ---- requests

    counted_stays : (name : Components) (failures : Option Failures) → HeldBy (unwrap_or (counted (cache_of state c) failures) (cache_of state c)) []
    counted_stays name (Some failures) = stays []
    counted_stays name None = stays []

    of_either : (name : Components) (m : Option (ReplayCache Kept)) (more : List Seen)
        → (eq_by_cmp name_cmp c name ≡ true → HeldBy (unwrap_or m (cache_of state name)) more)
        → HeldBy (cache_of (keep state (Some name) m) c) more
    of_either name m more own = subst (λ n. HeldBy n more) (sym (cache_kept state c name m)) (by_test (eq_by_cmp name_cmp c name) refl)
      where
        by_test : (b : Bool) → eq_by_cmp name_cmp c name ≡ b → HeldBy (cond b (unwrap_or m (cache_of state name)) (cache_of state c)) more
        by_test true same = own same
        by_test false apart = stays more

    as_held : (o : Option Components) (cache : ReplayCache Kept) → IfSome o (λ name. cache ≡ cache_of state name) → (failures : Option Failures)
        → HeldBy (cache_of (keep state o (counted cache failures)) c) []
    as_held (Some name) cache is failures =
        of_either name (counted cache failures) []
        (λ same. subst (λ n. HeldBy (unwrap_or (counted n failures) (cache_of state name)) []) (sym is)
        (subst (λ n. HeldBy (unwrap_or (counted (cache_of state n) failures) (cache_of state n)) []) (same_name c name same) (counted_stays c failures)))
    as_held None cache is failures = stays []

    module _ (incoming : Incoming) (in_time : incoming.at.sec ≤ℤ now) where
      tgs_held : (p : Presented) (kept : Option Kept)
          → HeldBy (cache_of (keep state (Some p.ticket.cname.components) (stamped (cache_of state p.ticket.cname.components) incoming.at.sec p kept)) c) (with_any (seen_if_kept p kept) [])
      tgs_held p (Some kept) =
          of_either p.ticket.cname.components (stamped (cache_of state p.ticket.cname.components) incoming.at.sec p (Some kept)) (with_any (seen_if_kept p (Some kept)) [])
          (λ same. recorded_held (cache_of state p.ticket.cname.components) (resumed_cache (later (with_any (seen_if_kept p (Some kept)) [])) c) incoming.at.sec
          (subst (λ name. HeldBy (cache_of state name) (with_any (seen_if_kept p (Some kept)) [])) (same_name c p.ticket.cname.components same) (stays (with_any (seen_if_kept p (Some kept)) [])))
          (late_enough r.floor incoming.at.sec now in_time) (stamp_of p) kept
          (last_spent c r (int_max r.floor (now -ℤ pos skew)) (record { client = p.ticket.cname; ctime = p.authenticator.ctime; cusec = p.authenticator.cusec }) same))
      tgs_held p None = of_either p.ticket.cname.components None [] (λ same. subst (λ name. HeldBy (cache_of state name) []) (same_name c p.ticket.cname.components same) (stays []))

      abbrev IsHeld : Named → Contents → Type 0
      IsHeld names held =
          HeldBy (cache_of (keep state names.client (contents_answer (named_view state names) incoming held).kept) c) (with_any (contents_seen (named_view state names) incoming held) [])

      held_of : (names : Named) (held : Contents) → AreNamesOf names held → IsHeld names held
      held_of names NoRequest names_are = subst (λ (s : State). HeldBy (cache_of s c) []) (sym (nothing_kept state names.client)) (stays [])
      held_of names (AsReq message) names_are =
          subst (λ (n : Named). IsHeld n (AsReq message)) (sym names_are)
          (as_held (components_of message.body.value.cname) (named_view state (names_answered (AsReq message))).cache (named_cache c state (names_answered (AsReq message)))
          (as_answer (as_view (named_view state (names_answered (AsReq message)))) incoming message).failures)
      held_of names (RefusedTgsReq message rejected) names_are = subst (λ (s : State). HeldBy (cache_of s c) []) (sym (nothing_kept state names.client)) (stays [])
      held_of names (TgsReq message p) names_are =
          subst (λ (n : Named). IsHeld n (TgsReq message p)) (sym names_are)
          (tgs_held p (tgs_answer (tgs_view (presented_view state message p)) incoming message.body.value p).kept)

      request_held : HeldBy (cache_of (after_incoming state incoming) c) (with_any (incoming_seen (view state incoming.octets) incoming) [])
      request_held = held_of (named state incoming.octets) (contents (view state incoming.octets) (request_of incoming.octets)) (are_names_of state (request_of incoming.octets))

    -- ---- events

    event_held : (event : Event) → IsUpTo now event → HeldBy (cache_of (after_event state event) c) (with_any (event_sees state event) [])
    event_held (Request at random room request) in_time = request_held (record { at = at; random = random; room = room; octets = request }) in_time
    event_held (Change change) in_time = subst (λ m. HeldBy m []) (sym (unless_memory c state change (refusal state.database change))) (stays [])
    event_held (Replace database) in_time = subst (λ m. HeldBy m []) (sym (replaced_cache c state database (pointwise nat_eq database.realm state.database.realm))) (stays [])
    event_held (Tidy at) in_time =
        subst (λ m. HeldBy m []) (sym (cache_tidied state at c))
        (tidied_held (cache_of state c) (resumed_cache (later []) c) at.sec (stays []) (late_enough r.floor at.sec now in_time))
    event_held (Restart at) in_time = absurd in_time
    event_held (Reopen database limits at) in_time = absurd in_time
    event_held (Resume database limits resumption) in_time = absurd in_time

-- ---- an authenticator that is reported as recorded is in the state

module _ (state : State) (incoming : Incoming) where
  abbrev IsThere : State → Seen → Type 0
  IsThere after seen = is_some (map.get (cache_of after seen.client.components).pairs (stamp_seen seen)) ≡ true

  stamped_there : (p : Presented) (kept : Option Kept)
      → IfSome (seen_if_kept p kept)
      (IsThere (keep state (Some p.ticket.cname.components) (stamped (cache_of state p.ticket.cname.components) incoming.at.sec p kept)))
  stamped_there p (Some kept) =
      let name = p.ticket.cname.components in
      let m = cache_of state name in
      let left = map.retain_keys m.pairs (is_from (floor_at m.floor incoming.at.sec)) in
      ap (λ (n : ReplayCache Kept). is_some (map.get n.pairs (stamp_of p)))
      (cache_kept state name name (Some (recorded m incoming.at.sec (stamp_of p) kept))
      ∙ ap (λ b. cond b (recorded m incoming.at.sec (stamp_of p) kept) (cache_of state name)) (ap is_eq (tied_itself name_total name)))
      ∙ ap is_some (get-insert stamp_total left (stamp_of p) kept (stamp_of p))
      ∙ ap (λ b. is_some (cond b (Some kept) (map.get left (stamp_of p)))) (ap is_eq (tied_itself stamp_total (stamp_of p)))
  stamped_there p None = tt

  abbrev AreThere : Named → Contents → Type 0
  AreThere names held =
      IfSome (contents_seen (named_view state names) incoming held) (IsThere (keep state names.client (contents_answer (named_view state names) incoming held).kept))

  there_of : (names : Named) (held : Contents) → AreNamesOf names held → AreThere names held
  there_of names NoRequest names_are = tt
  there_of names (AsReq message) names_are = tt
  there_of names (RefusedTgsReq message rejected) names_are = tt
  there_of names (TgsReq message p) names_are =
      subst (λ (n : Named). AreThere n (TgsReq message p)) (sym names_are)
      (stamped_there p (tgs_answer (tgs_view (presented_view state message p)) incoming message.body.value p).kept)

holds_newly_seen : HoldsNewlySeen
holds_newly_seen state (Request at random room request) =
    let incoming : Incoming = record { at = at; random = random; room = room; octets = request } in
    there_of state incoming (named state request) (contents (view state request) (request_of request)) (are_names_of state (request_of request))
holds_newly_seen state (Change change) = tt
holds_newly_seen state (Replace database) = tt
holds_newly_seen state (Tidy at) = tt
holds_newly_seen state (Restart at) = tt
holds_newly_seen state (Reopen database limits at) = tt
holds_newly_seen state (Resume database limits resumption) = tt

covers_on : CoversOn
covers_on state [] r now covers in_time = λ c. stays c r now state covers []
covers_on state (event ∷ events) r now covers in_time =
    let more = with_any (event_sees state event) [] in
    let others = run_sees (after_event state event) events in
    subst (λ (after : Resumption). Covers (run (after_event state event) events) after)
    (λ i. record { floor = max_again r.floor (now -ℤ pos skew) i; seen = append_assoc r.seen more others i })
    (covers_on (after_event state event) events (resumption_at now r more) now (λ c. event_held c r now state covers event in_time.0) in_time.1)

covers_opened : CoversOpened
covers_opened database limits opening c s is =
    subst (λ (o : Option (ReplayCache Kept)). is_spent (unwrap_or o (empty_cache {T = Kept} (opening_floor opening))) s ≡ true) (get-empty name_cmp c) is

covers_resumed : CoversResumed
covers_resumed database limits r c s is = subst (λ (m : ReplayCache Kept). is_spent m s ≡ true) (cache_resumed c database limits r) is

pub can_be_resumed : CanBeResumed
can_be_resumed = record { newly_seen = holds_newly_seen; on = covers_on; opened = covers_opened; resumed = covers_resumed }
