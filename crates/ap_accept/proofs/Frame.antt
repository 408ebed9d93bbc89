-- What a call leaves unchanged.
use Rattle.std.proofs.Common.{◌≡◌, ◌≤ℤ◌, ◌-ℤ◌, pos, inl, inr, arith, Bool, true, false, cond, ◌&&◌, ℤ, List, ℕ, Option, Some, None, Result, Ok, Err, OnOk, OnErr, refl, ap, sym, subst, ◌∙◌}
use Rattle.std.specs.FinMap as map
use Rattle.std.specs.FinMap.{get-insert}
use Rattle.std.specs.Option.{unwrap_or}
use Rattle.std.specs.Ordering.{eq_by_cmp}
use Rattle.std.specs.Prelude.{⊤, int_lt, option_and_then}
use Rattle.std.proofs.lemmas.Int.{ints}
use Rattle.krb_types.specs.ApReq.{ApReq}
use Rattle.krb_fields.specs.Name.{Components, name_cmp, name_total, same_name}
use Rattle.krb_fields.specs.declared.moment.Moment.{Moment}
use Rattle.replay.specs.ReplayCache.{recorded}
use Rattle.replay.specs.declared.cache.ReplayCache.{ReplayCache}
use Rattle.ap_accept.specs.Accepts.{accepts, after_recording, cache_for, if_request, recorded_by, recorded_of, recording, recording_clients, request_of, stamp_of, IsAfter, IsParty, IsService}
use Rattle.ap_accept.specs.Clients.{IsKeptOrDropped, empty_cache, floor_for, hour, lasts, drop_expired, cache_in, opened_clients, with_cache}
use Rattle.ap_accept.specs.Run.{is_party}
use Rattle.ap_accept.specs.State.{clients_of, cache_of, with_clients}
use Rattle.ap_accept.specs.declared.accepted.Accepted.{Accepted}
use Rattle.ap_accept.specs.declared.clients.Clients.{Clients}
use Rattle.ap_accept.specs.declared.fault.ApFault.{ApFault}
use Rattle.ap_accept.specs.declared.fault.ApFault.TheVariants.{NotAnApReq, Refused, Memory as NoMemory}
use Rattle.ap_accept.specs.declared.presented.Presented.{Presented}
use Rattle.ap_accept.specs.declared.state.State.{State}
use Rattle.ap_accept.proofs.DroppingExpired.{as_empty_on, both, drop_expired_keeps, drop_expired_keeps_due, Carried}
use Rattle.ap_accept.proofs.Raised.{raised}

-- ---- storing a client's cache

pub cache_stored : (clients : Clients) (c : Components) (m : ReplayCache ⊤) (client : Components) → cache_in (with_cache clients c m) client ≡ cond (eq_by_cmp name_cmp client c) m (cache_in clients client)
cache_stored clients c m client = ap (λ o. unwrap_or o (empty_cache clients.floor)) (get-insert name_total clients.caches c m client) ∙ inside (eq_by_cmp name_cmp client c)
  where
    inside : (b : Bool) → unwrap_or (cond b (Some m) (map.get clients.caches client)) (empty_cache clients.floor) ≡ cond b m (cache_in clients client)
    inside true = refl
    inside false = refl

pub clients_stored : (state : State) (s : Components) (clients : Clients) (service : Components) → clients_of (with_clients state s clients) service ≡ cond (eq_by_cmp name_cmp service s) clients (clients_of state service)
clients_stored state s clients service = ap (λ o. unwrap_or o (opened_clients state.floor)) (get-insert name_total state.services s clients service) ∙ inside (eq_by_cmp name_cmp service s)
  where
    inside : (b : Bool) → unwrap_or (cond b (Some clients) (map.get state.services service)) (opened_clients state.floor) ≡ cond b clients (clients_of state service)
    inside true = refl
    inside false = refl

-- ---- a client's cache after an authenticator is recorded

module _ (state : State) (now : ℤ) (p : Presented) (service client : Components) where
  -- the party's cache is the new one; all others are unchanged
  abbrev pub next_cache : ReplayCache ⊤
  next_cache = cond (is_party service client p) (recorded (cache_for state p) now (stamp_of p) tt) (cache_of state service client)

  placed : (b : Bool) → eq_by_cmp name_cmp service p.service.components ≡ b
      → (go : Clients → Clients) (P : ReplayCache ⊤ → Type 0)
      → (b ≡ true → P (cache_in (recording_clients state now p) client) → P (cache_in (go (recording_clients state now p)) client))
      → P (cond (b && eq_by_cmp name_cmp client p.ticket.cname.components) (recorded (cache_for state p) now (stamp_of p) tt) (cache_of state service client))
      → P (cache_in (cond b (go (recording_clients state now p)) (clients_of state service)) client)
  placed true e go P keeps h =
      keeps refl
      (subst P
      (ap (cond (eq_by_cmp name_cmp client p.ticket.cname.components) (recorded (cache_for state p) now (stamp_of p) tt)) (ap (λ s. cache_of state s client) (same_name service p.service.components e))
      ∙ sym (cache_stored (clients_of state p.service.components) p.ticket.cname.components (recorded (cache_for state p) now (stamp_of p) tt) client))
      h)
  placed false e go P keeps h = h

  abbrev pub stored_by : (Clients → Clients) → State
  stored_by go = with_clients state p.service.components (go (recording_clients state now p))

  -- P holds of the cache if it holds of the new one and dropping entries of this service preserves it
  pub stored_keeps : (go : Clients → Clients) (P : ReplayCache ⊤ → Type 0)
      → (eq_by_cmp name_cmp service p.service.components ≡ true → P (cache_in (recording_clients state now p) client) → P (cache_in (go (recording_clients state now p)) client))
      → P next_cache → P (cache_of (stored_by go) service client)
  stored_keeps go P keeps h =
      subst (λ k. P (cache_in k client)) (sym (clients_stored state p.service.components (go (recording_clients state now p)) service))
      (placed (eq_by_cmp name_cmp service p.service.components) refl go P keeps h)

  pub recording_keeps : (P : ReplayCache ⊤ → Type 0) → Carried (floor_for now) P → P next_cache → P (cache_of (recording state now p) service client)
  recording_keeps P carried = stored_keeps (drop_expired now) P (λ same. drop_expired_keeps P now (recording_clients state now p) client carried)

  -- the same, if the cache can be dropped only when its service's floor is due
  pub recording_keeps_due : (P : ReplayCache ⊤ → Type 0) → (int_lt (clients_of state service).floor (floor_for now -ℤ pos hour) ≡ true → Carried (floor_for now) P) → P next_cache
      → P (cache_of (recording state now p) service client)
  recording_keeps_due P carried = stored_keeps (drop_expired now) P (λ same.
      drop_expired_keeps_due P now (recording_clients state now p) client
      (λ due. carried (ap (λ s. int_lt (clients_of state s).floor (floor_for now -ℤ pos hour)) (same_name service p.service.components same) ∙ due)))

-- ---- a call

-- a property of the state before, and of the state with the authenticator recorded, holds of the state afterwards
module _ (U : State → Type 0) (state : State) (here : U state) where
  recorded_keeps : (now : ℤ) (r : Option Presented) → ((p : Presented) → r ≡ Some p → U (recording state now p)) → U (after_recording state now r)
  recorded_keeps now (Some p) there = there p refl
  recorded_keeps now None there = here

  request_keeps : (now : ℤ) (confounder : List ℕ) (o : Option ApReq) → ((p : Presented) → option_and_then (recorded_of state now) o ≡ Some p → U (recording state now p)) → U (if_request state now confounder o).state
  request_keeps now confounder (Some ap) there = recorded_keeps now (recorded_of state now ap) there
  request_keeps now confounder None there = here

  pub accepts_keeps : (at : Moment) (confounder octets : List ℕ) → ((p : Presented) → recorded_by state at.sec octets ≡ Some p → U (recording state at.sec p)) → U (accepts state at confounder octets).state
  accepts_keeps at confounder octets there = request_keeps at.sec confounder (request_of octets) there

-- and of the state that the call left
pub call_keeps : (U : State → Type 0) (r : Result Accepted ApFault) (old new ruled : State) → IsAfter r old new ruled → U old → U ruled → U new
call_keeps U (Ok accepted) old new ruled is here there = subst U (sym is) there
call_keeps U (Err NotAnApReq) old new ruled is here there = subst U (sym is) there
call_keeps U (Err (Refused refusal)) old new ruled is here there = subst U (sym is) there
call_keeps U (Err NoMemory) old new ruled is here there = subst U (sym is) here

-- ---- all but the presented service and client

at_most : (n : ℤ) → n ≤ℤ n
at_most n = omega (arith, ints)

not_party : (service client : Components) (p : Presented) → (IsParty service client (Some p) → ⊥) → (b : Bool) → is_party service client p ≡ b → b ≡ false
not_party service client p other true e =
    let same = both (eq_by_cmp name_cmp service p.service.components) (eq_by_cmp name_cmp client p.ticket.cname.components) e in
    absurd (other (sym (same_name service p.service.components same.0), sym (same_name client p.ticket.cname.components same.1)))
not_party service client p other false e = refl

not_service : (service : Components) (p : Presented) → (IsService service (Some p) → ⊥) → (b : Bool) → eq_by_cmp name_cmp service p.service.components ≡ b → b ≡ false
not_service service p other true e = absurd (other (sym (same_name service p.service.components e)))
not_service service p other false e = refl

-- another service's clients are unchanged
pub others_stay : (state : State) (service : Components) (at : Moment) (confounder octets : List ℕ) → (IsService service (recorded_by state at.sec octets) → ⊥) → clients_of (accepts state at confounder octets).state service ≡ clients_of state service
others_stay state service at confounder octets other =
    accepts_keeps (λ s. clients_of s service ≡ clients_of state service) state refl at confounder octets (λ p is.
    let k : Clients = drop_expired at.sec (recording_clients state at.sec p) in
    clients_stored state p.service.components k service
    ∙ ap (λ b. cond b k (clients_of state service)) (not_service service p (λ h. other (subst (IsService service) (sym is) h)) (eq_by_cmp name_cmp service p.service.components) refl))

-- a cache that was unchanged or dropped, and is dropped
dropped_on : (now floor : ℤ) (old : ReplayCache ⊤) → int_lt floor (floor_for now -ℤ pos hour) ≡ true → (m : ReplayCache ⊤) → lasts (floor_for now) m ≡ false → IsKeptOrDropped now floor old m
    → IsKeptOrDropped now floor old (empty_cache (floor_for now))
dropped_on now floor old due m gone (inl same) = inr (record { due = due; spent = ap (lasts (floor_for now)) (sym same) ∙ gone; empty = refl })
dropped_on now floor old due m gone (inr dropped) = inr (record { due = due; spent = dropped.spent; empty = refl })

-- another client's cache gives the same verdicts from an hour before on
pub others_alike : (state : State) (service client : Components) (at : Moment) (confounder octets : List ℕ) → (IsParty service client (recorded_by state at.sec octets) → ⊥)
    → raised (floor_for at.sec) (cache_of (accepts state at confounder octets).state service client) ≡ raised (floor_for at.sec) (cache_of state service client)
others_alike state service client at confounder octets other =
    let P : ReplayCache ⊤ → Type 0 = λ m. raised (floor_for at.sec) m ≡ raised (floor_for at.sec) (cache_of state service client) in
    accepts_keeps (λ s. P (cache_of s service client)) state refl at confounder octets (λ p is.
    recording_keeps state at.sec p service client P
    (λ m gone same. as_empty_on (floor_for at.sec) m gone (floor_for at.sec) (at_most (floor_for at.sec)) ∙ same)
    (ap (λ b. raised (floor_for at.sec) (cond b (recorded (cache_for state p) at.sec (stamp_of p) tt) (cache_of state service client)))
    (not_party service client p (λ h. other (subst (IsParty service client) (sym is) h)) (is_party service client p) refl)))

-- another client's cache is unchanged or dropped
pub others_kept : (state : State) (service client : Components) (at : Moment) (confounder octets : List ℕ) → (IsParty service client (recorded_by state at.sec octets) → ⊥)
    → IsKeptOrDropped at.sec (clients_of state service).floor (cache_of state service client) (cache_of (accepts state at confounder octets).state service client)
others_kept state service client at confounder octets other =
    let old = cache_of state service client in
    let P : ReplayCache ⊤ → Type 0 = IsKeptOrDropped at.sec (clients_of state service).floor old in
    accepts_keeps (λ s. P (cache_of s service client)) state (inl refl) at confounder octets (λ p is.
    recording_keeps_due state at.sec p service client P (λ due m gone kept. dropped_on at.sec (clients_of state service).floor old due m gone kept)
    (subst (λ b. P (cond b (recorded (cache_for state p) at.sec (stamp_of p) tt) old))
    (sym (not_party service client p (λ h. other (subst (IsParty service client) (sym is) h)) (is_party service client p) refl)) (inl refl)))

-- ---- a state in which other clients' caches changed

abbrev Services : Type 0
Services = map.FinMap name_cmp Clients

pub ok_within : {A B : Type 0} (new after : Services) (state : State) (r : Result A B) → OnOk r (new ≡ after) → OnOk r (record state { services = new } ≡ record state { services = after })
ok_within new after state (Ok x) is = λ i. record state { services = is i }
ok_within new after state (Err x) is = tt

pub err_within : {A B : Type 0} (new : Services) (state : State) (r : Result A B) → OnErr r (new ≡ state.services) → OnErr r (record state { services = new } ≡ state)
err_within new state (Ok x) same = tt
err_within new state (Err x) same = λ i. record state { services = same i }
