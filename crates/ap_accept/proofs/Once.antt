-- An acceptor never accepts an authenticator of a client twice: once accepted, it is settled.
use Rattle.std.proofs.Common.{◌≡◌, ◌≢◌, Bool, true, false, cond, if◌then◌else◌, ℕ, ℤ, List, [], ◌∷◌, Option, Some, None, Result, Ok, Err, refl, ap, sym, subst, ◌∙◌, true≢false, is_eq}
use Rattle.std.specs.Prelude.{⊤, IfSome, option_and_then}
use Rattle.std.specs.Cmp.{Equal-is, tied_itself}
use Rattle.std.specs.List.{AllByRecursion}
use Rattle.std.specs.Ordering.{eq_by_cmp}
use Rattle.krb_types.specs.ApReq.{ApReq}
use Rattle.krb_fields.specs.Name.{Components, name_cmp, same_name}
use Rattle.rule_lists.specs.Refusals.{first_holding}
use Rattle.replay.specs.ReplayCache.{recorded, verdict}
use Rattle.replay.specs.Run.{collected, with_any, EachOnce}
use Rattle.replay.specs.Stamp.{Stamp, stamp_cmp}
use Rattle.replay.specs.declared.cache.ReplayCache.{ReplayCache}
use Rattle.replay.specs.declared.verdict.Verdict.{Verdict}
use Rattle.replay.specs.declared.verdict.Verdict.TheVariants.{Fresh, Skew, Repeat, Full}
use Rattle.replay.proofs.Settled.{IsSettled, recorded_settles, settled_not_fresh, settled_recorded}
use Rattle.replay.proofs.Stamps.{stamp_exact, stamp_total}
use Rattle.ap_accept.specs.Accepts.{Answer, accepts, answer_by, cache_for, if_request, recorded_by, recorded_of, recording, request_of, stamp_of}
use Rattle.ap_accept.specs.Clients.{floor_for}
use Rattle.ap_accept.specs.Named.{accepts_keyless, is_for_another}
use Rattle.ap_accept.specs.Presented.{presented}
use Rattle.ap_accept.specs.Reply.{asks_reply}
use Rattle.ap_accept.specs.StageLaws.{recorded_staged, request_staged}
use Rattle.ap_accept.specs.Stages.{if_presented, refusal_by, seen_by, seen_if, unless_seen}
use Rattle.ap_accept.specs.Run.{AcceptedOnce, Call, Event, Accept, AcceptFor, Replace, Resume, accepted_at, accepted_in, after_call, after_event, is_party, stamp_if}
use Rattle.ap_accept.specs.State.{cache_of}
use Rattle.ap_req.specs.Validity.{ticket_terms}
use Rattle.ap_accept.specs.Validity.{validity_rules}
use Rattle.ap_accept.specs.declared.accepted.Accepted.{Accepted}
use Rattle.ap_accept.specs.declared.fault.ApFault.{ApFault}
use Rattle.ap_accept.specs.declared.presented.Presented.{Presented}
use Rattle.ap_req.specs.declared.refusal.ApRefusal.{ApRefusal}
use Rattle.ap_accept.specs.declared.state.State.{State}
use Rattle.ap_accept.proofs.Frame.{accepts_keeps, recording_keeps}
use Rattle.ap_accept.proofs.DroppingExpired.{both, still_settled}
use Rattle.ap_accept.proofs.Others.{keyless_refuses, kept_keyless}

-- ---- a machine that accepts only what is not settled, and then settles it

module _ {S E : Type 0} (step : S → E → S) (settled : S → Stamp → Type 0) (accepted : S → E → Option Stamp) (stays : (s : S) (e : E) (x : Stamp) → settled s x → settled (step s e) x) (settles : (s : S) (e : E) → IfSome (accepted s e) (λ x. (settled s x → ⊥) × settled (step s e) x)) where
  one_apart : (s t : S) (x : Stamp) (h : Option Stamp) (xs : List Stamp) → settled s x → IfSome h (λ y. (settled s y → ⊥) × settled t y) → AllByRecursion (λ y. y ≢ x) xs → AllByRecursion (λ y. y ≢ x) (with_any h xs)
  one_apart s t x None xs held is all = all
  one_apart s t x (Some y) xs held is all = (λ same. is.0 (subst (settled s) (sym same) held), all)

  all_apart : (s : S) (es : List E) (x : Stamp) → settled s x → AllByRecursion (λ y. y ≢ x) (collected step accepted s es)
  all_apart s [] x held = tt
  all_apart s (e ∷ es) x held = one_apart s (step s e) x (accepted s e) (collected step accepted (step s e) es) held (settles s e) (all_apart (step s e) es x (stays s e x held))

  one_more : (s t : S) (h : Option Stamp) (xs : List Stamp) → IfSome h (λ y. (settled s y → ⊥) × settled t y) → ((x : Stamp) → settled t x → AllByRecursion (λ y. y ≢ x) xs) → EachOnce xs → EachOnce (with_any h xs)
  one_more s t None xs is apart once = once
  one_more s t (Some y) xs is apart once = (apart y is.1, once)

  each_once : (s : S) (es : List E) → EachOnce (collected step accepted s es)
  each_once s [] = tt
  each_once s (e ∷ es) = one_more s (step s e) (accepted s e) (collected step accepted (step s e) es) (settles s e) (all_apart (step s e) es) (each_once (step s e) es)

-- ---- the replay cache of a service and a client

same_stamp : (a b : Stamp) → a ≡ b → eq_by_cmp stamp_cmp a b ≡ true
same_stamp a b e = subst (λ c. eq_by_cmp stamp_cmp a c ≡ true) e (ap is_eq (tied_itself stamp_total a))

module _ (service client : Components) where
  -- what is settled stays settled, whatever is recorded
  settled_next : (m : ReplayCache ⊤) (now : ℤ) (r s : Stamp) (b : Bool) → eq_by_cmp stamp_cmp r s ≡ b → IsSettled m s tt → IsSettled (recorded m now r tt) s tt
  settled_next m now r s true e held = subst (λ t. IsSettled (recorded m now r tt) t tt) (stamp_exact r s ((Equal-is (stamp_cmp r s)).0 e)) (recorded_settles m now r tt)
  settled_next m now r s false e held = settled_recorded m now r tt s tt (λ same. true≢false (sym (same_stamp r s same) ∙ e)) held

  -- the cache is this client's if the request is this client's for this service
  same_cache : (state : State) (p : Presented) → is_party service client p ≡ true → cache_for state p ≡ cache_of state service client
  same_cache state p e =
      let same = both (eq_by_cmp name_cmp service p.service.components) (eq_by_cmp name_cmp client p.ticket.cname.components) e in
      λ i. cache_of state (sym (same_name service p.service.components same.0) i) (sym (same_name client p.ticket.cname.components same.1) i)

  next_settled : (state : State) (now : ℤ) (p : Presented) (s : Stamp) (b : Bool) → is_party service client p ≡ b → IsSettled (cache_of state service client) s tt
      → IsSettled (cond b (recorded (cache_for state p) now (stamp_of p) tt) (cache_of state service client)) s tt
  next_settled state now p s true e held =
      settled_next (cache_for state p) now (stamp_of p) s (eq_by_cmp stamp_cmp (stamp_of p) s) refl (subst (λ m. IsSettled m s tt) (sym (same_cache state p e)) held)
  next_settled state now p s false e held = held

  stays_settled : (state : State) (call : Call) (s : Stamp) → IsSettled (cache_of state service client) s tt → IsSettled (cache_of (after_call state call) service client) s tt
  stays_settled state call s held =
      accepts_keeps (λ after. IsSettled (cache_of after service client) s tt) state held call.at call.confounder call.octets (λ p is.
      recording_keeps state call.at.sec p service client (λ m. IsSettled m s tt) (λ m gone. still_settled (floor_for call.at.sec) m gone s)
      (next_settled state call.at.sec p s (is_party service client p) refl held))

  -- ---- an accepted authenticator

  -- it was not settled before, and is settled afterwards
  abbrev Settles : State → State → Stamp → Type 0
  Settles state after s = (IsSettled (cache_of state service client) s tt → ⊥) × IsSettled (cache_of after service client) s tt

  module _ (state : State) (now : ℤ) (confounder : List ℕ) (wanted : Bool) (p : Presented) (party : is_party service client p ≡ true) where
    settled_now : IsSettled (cache_of (recording state now p) service client) (stamp_of p) tt
    settled_now =
        recording_keeps state now p service client (λ m. IsSettled m (stamp_of p) tt) (λ m gone. still_settled (floor_for now) m gone (stamp_of p))
        (subst (λ b. IsSettled (cond b (recorded (cache_for state p) now (stamp_of p) tt) (cache_of state service client)) (stamp_of p) tt) (sym party) (recorded_settles (cache_for state p) now (stamp_of p) tt))

    found_fresh : verdict (cache_for state p) now (stamp_of p) state.options.remembered ≡ Fresh → (r : Option ApRefusal)
        → IfSome (stamp_if (stamp_of p) (answer_by confounder wanted r (Some p))) (Settles state (recording state now p))
    found_fresh e (Some refusal) = tt
    found_fresh e None = (
      λ held. settled_not_fresh (cache_of state service client) (stamp_of p) (stamp_of p) tt now state.options.remembered held (subst (λ m. verdict m now (stamp_of p) state.options.remembered ≡ Fresh) (same_cache state p party) e) refl,
      settled_now,
    )

  -- if the request is accepted, its authenticator is settled from then on
  abbrev IsFound : State → Option Presented → Answer → Type 0
  IsFound state p a = IfSome (accepted_in service client p a.answer) (Settles state a.state)

  module _ (state : State) (now : ℤ) (confounder : List ℕ) (wanted : Bool) where
    found_party : (p : Presented) (r : Option ApRefusal) → verdict (cache_for state p) now (stamp_of p) state.options.remembered ≡ Fresh → (b : Bool) → is_party service client p ≡ b
        → IfSome (if b then stamp_if (stamp_of p) (answer_by confounder wanted r (Some p)) else None) (Settles state (recording state now p))
    found_party p r e true party = found_fresh state now confounder wanted p party e r
    found_party p r e false party = tt

    found_verdict : (p : Presented) (v : Verdict ⊤) → verdict (cache_for state p) now (stamp_of p) state.options.remembered ≡ v
        → IsFound state (seen_by p (refusal_by v)) (unless_seen state now confounder wanted p (refusal_by v))
    found_verdict p Fresh e = found_party p (first_holding (validity_rules (ticket_terms p.ticket) now)) e (is_party service client p) refl
    found_verdict p Skew e = tt
    found_verdict p (Repeat kept) e = tt
    found_verdict p Full e = tt

    found_presented : (r : Result Presented ApRefusal) → IsFound state (seen_if state now r) (if_presented state now confounder wanted r)
    found_presented (Ok p) = found_verdict p (verdict (cache_for state p) now (stamp_of p) state.options.remembered) refl
    found_presented (Err refusal) = tt

  found_request : (state : State) (now : ℤ) (confounder : List ℕ) (o : Option ApReq) → IsFound state (option_and_then (recorded_of state now) o) (if_request state now confounder o)
  found_request state now confounder (Some request) =
      subst (λ (p : Option Presented). IsFound state p (if_request state now confounder (Some request))) (sym (recorded_staged state now request))
      (subst (λ (a : Answer). IsFound state (seen_if state now (presented state.keytab request)) a) (sym (request_staged state now confounder (Some request)))
      (found_presented state now confounder (asks_reply request) (presented state.keytab request)))
  found_request state now confounder None = tt

  -- ---- a call for the service of a name alone

  -- what is refused settles nothing
  unfound : (state after : State) (p : Option Presented) (r : Result Accepted ApFault) → ((a : Accepted) → r ≡ Ok a → ⊥) → IfSome (accepted_in service client p r) (Settles state after)
  unfound state after p (Ok a) never = absurd (never a refl)
  unfound state after None (Err fault) never = tt
  unfound state after (Some p) (Err fault) never = neither (is_party service client p)
    where
      neither : (b : Bool) → IfSome (if b then None else None) (Settles state after)
      neither true = tt
      neither false = tt

  module _ (state : State) (call : Call) where
    named_stays : (s : Stamp) → IsSettled (cache_of state service client) s tt → (b : Bool)
        → IsSettled (cache_of (if b then (accepts_keyless state call.at call.confounder call.octets).state else after_call state call) service client) s tt
    named_stays s held true = subst (λ (next : State). IsSettled (cache_of next service client) s tt) (sym (kept_keyless [] state call.at call.confounder call.octets)) held
    named_stays s held false = stays_settled state call s held

    named_settles : (b : Bool)
        → IfSome (accepted_in service client (recorded_by state call.at.sec call.octets)
        (if b then accepts_keyless state call.at call.confounder call.octets else accepts state call.at call.confounder call.octets).answer)
        (Settles state (if b then (accepts_keyless state call.at call.confounder call.octets).state else after_call state call))
    named_settles true =
        unfound state (accepts_keyless state call.at call.confounder call.octets).state (recorded_by state call.at.sec call.octets)
        (accepts_keyless state call.at call.confounder call.octets).answer (keyless_refuses [] state call.at call.confounder call.octets)
    named_settles false = found_request state call.at.sec call.confounder (request_of call.octets)

  -- ---- an event

  stays_on : (state : State) (event : Event) (s : Stamp) → IsSettled (cache_of state service client) s tt → IsSettled (cache_of (after_event after_call state event) service client) s tt
  stays_on state (Accept call) s held = stays_settled state call s held
  stays_on state (AcceptFor name call) s held = named_stays state call s held (is_for_another name (request_of call.octets))
  stays_on state (Replace keytab) s held = held
  stays_on state (Resume keytab options) s held = held

  settles_on : (state : State) (event : Event) → IfSome (accepted_at service client state event) (Settles state (after_event after_call state event))
  settles_on state (Accept call) = found_request state call.at.sec call.confounder (request_of call.octets)
  settles_on state (AcceptFor name call) = named_settles state call (is_for_another name (request_of call.octets))
  settles_on state (Replace keytab) = tt
  settles_on state (Resume keytab options) = tt

pub accepted_once : AcceptedOnce
accepted_once state realm sname client events =
    each_once (after_event after_call) (λ s x. IsSettled (cache_of s (realm ∷ sname) client) x tt) (accepted_at (realm ∷ sname) client)
    (stays_on (realm ∷ sname) client) (settles_on (realm ∷ sname) client) state events
