-- An event that arrived, a round, and one round after another.
use Rattle.std.proofs.Common.{◌≡◌, ◌≤◌, ◌<◌, ◌+◌, ◌-◌, ◌^◌, inl, inr, ℕ, arith, Bool, cond, List, [], ◌∷◌, ◌++◌, length, count_by, Option, Some, None, Err, refl, sym, ap, subst, ◌∙◌, length-append}
use Rattle.std.specs.Prelude.{min}
use Rattle.std.specs.List.{flat_map}
use Rattle.std.specs.Option.{option_or}
use Rattle.std.proofs.Math.Nat.{min-eq_left}
use Rattle.std.proofs.lemmas.List.{append-nil}
use Rattle.std.proofs.lemmas.List.Concat.{flat_map-cons}
use Rattle.std.proofs.lemmas.List.Sums.{sum_by-append}
use Rattle.std.proofs.lemmas.Grind.{flat_map-append}
use Rattle.krb_fields.specs.declared.moment.Moment.{Moment}
use Rattle.kdc_hub.specs.declared.event.Action.{Action}
use Rattle.kdc_hub.specs.declared.event.Event.{Event}
use Rattle.kdc_hub.specs.declared.event.HubFault.{HubFault}
use Rattle.kdc_hub.specs.declared.server.Served.{Served}
use Rattle.kdc_hub.specs.declared.wires.WireCall.{WireCall}
use Rattle.kdc_hub.specs.declared.wires.WireCall.TheVariants.{Polled, Acted, Failed}
use Rattle.kdc_hub.specs.Hub.{AreDraws, HubState, Steps, hub_step}
use Rattle.kdc_hub.specs.Logged.{Entry, Stop, logged, step_of}
use Rattle.kdc_hub.specs.Wire.{Records, is_event, is_fault}
use Rattle.kdc_hub.specs.Rounds.{AreRounds, IsRound, IsRun, Round, Took, Tries, close_of, closing, did_in, ending, entries_of, fault_total, is_refused, last_moment, lost_in, moment_in}
use Rattle.kdc_hub.specs.Acts.{AreActs, IsTaken}
use Rattle.kdc_hub.proofs.Rounds.{or_none, records_nothing, records_on, saturated_both}

abbrev pub faults : List WireCall → ℕ
faults did = count_by is_fault did

count_on : {X : Type 0} (p : X → Bool) (xs ys : List X) → count_by p (xs ++ ys) ≡ count_by p xs + count_by p ys
count_on p xs ys = sum_by-append (λ x. cond (p x) 1 0) xs ys

faults_cons : (d : WireCall) (ds : List WireCall) → faults (d ∷ ds) ≡ faults (d ∷ []) + faults ds
faults_cons d ds = count_on is_fault (d ∷ []) ds

-- the log of two lists of entries
pub logged_on : (hub : HubState) (es fs : List Entry) → (logged hub (es ++ fs)).hub ≡ (logged (logged hub es).hub fs).hub
logged_on hub [] fs = refl
logged_on hub (e ∷ es) fs = logged_on (step_of hub e).hub es fs

refused : List Entry → ℕ
refused entries = count_by is_refused entries

none_refused : (at : Moment) (lost : Option ℕ) → count_by is_refused (ending at lost) ≡ 0
none_refused at (Some conn) = omega arith
none_refused at None = omega arith

refused_in : (entry : Entry) (a b : Option ℕ) → count_by is_refused (entry ∷ ending entry.at a ++ ending entry.at b) ≡ count_by is_refused (entry ∷ [])
refused_in entry a b =
    let one = count_on is_refused (entry ∷ []) (ending entry.at a ++ ending entry.at b) in
    let two = count_on is_refused (ending entry.at a) (ending entry.at b) in
    let x = none_refused entry.at a in let y = none_refused entry.at b in
    omega (arith, one, two, x, y)

pub refused_in_taken : (before : Option (List WireCall)) (start : HubState) (at : Moment) (event : Event) (served : Served) (after : Option (List WireCall)) (new : HubState)
    → IsTaken before start at event served after new → served.refused ≤ 1
refused_in_taken before start at event served after new t = by_stop t.stop (t.refused ∙ refused_in (record { at = at; event = event; stop = t.stop }) (lost_in t.acts) (lost_in t.close))
  where
    by_stop : (stop : Option Stop) → served.refused ≡ count_by is_refused ((let e : Entry = record { at = at; event = event; stop = stop } in e) ∷ []) → served.refused ≤ 1
    by_stop None e = omega (arith, e)
    by_stop (Some stop) e = omega (arith, e)

-- an event whose step did not run out of memory
pub taken_whole : (before : Option (List WireCall)) (start : HubState) (at : Moment) (event : Event) (actions : List Action) (middle : HubState) (n : ℕ) (after : Option (List WireCall)) (new : HubState) (served : Served)
    → (actions ≡ (hub_step start at event).actions) × (middle ≡ (hub_step start at event).hub) → AreActs before middle at actions n after new
    → served.events ≡ 1 → served.faults ≡ n → served.refused ≡ 0 → served.last ≡ Some at → IsTaken before start at event served after new
unfolding Tries
taken_whole before start at event actions middle n after new served s acts one failed none last = record {
  stop = None;
  acts = acts.did;
  close = [];
  is = (subst (λ l. Tries l acts.did) s.0 acts.tries, refl, tt);
  recorded = subst (λ l. Records before l after) (sym (append-nil acts.did)) acts.recorded;
  hub = acts.hub ∙ ap (λ (h : HubState). (logged h (ending at (lost_in acts.did))).hub) s.1 ∙ ap (λ l. (logged (hub_step start at event).hub l).hub) (sym (append-nil (ending at (lost_in acts.did))));
  events = one;
  faults = failed ∙ acts.faults ∙ ap faults (sym (append-nil acts.did));
  refused = none ∙ sym (refused_in (record { at = at; event = event; stop = None }) (lost_in acts.did) None);
  last = last;
}

-- an event whose step ran out of memory
pub taken_in_part : (before : Option (List WireCall)) (start : HubState) (at : Moment) (event : Event) (fault : HubFault) (middle : HubState) (done : List Action) (n : ℕ) (recorded : Option (List WireCall)) (hub : HubState) (m : ℕ) (after : Option (List WireCall)) (new : HubState) (served : Served)
    → Steps start at event (Err fault) middle → AreDraws fault → done ≡ fault.done.items → AreActs before middle at done n recorded hub → AreActs recorded hub at (close_of fault.conn) m after new
    → served.events ≡ 1 → served.faults ≡ n + m → served.refused ≡ 1 → served.last ≡ Some at → IsTaken before start at event served after new
taken_in_part before start at event fault middle done n recorded hub m after new served s drawn same acts close one failed refused last = record {
  stop = Some (record { done = length fault.done.items; draws = fault.draws });
  acts = acts.did;
  close = close.did;
  is = (subst (λ l. Tries l acts.did) (same ∙ s.0) acts.tries, subst (λ o. Tries (close_of o) close.did) s.2 close.tries, drawn);
  recorded = records_on before acts.did recorded close.did after acts.recorded close.recorded;
  hub = close.hub ∙ ap (λ (h : HubState). (logged h (ending at (lost_in close.did))).hub) (acts.hub ∙ ap (λ (h : HubState). (logged h (ending at (lost_in acts.did))).hub) s.1) ∙ sym (logged_on _ (ending at (lost_in acts.did)) (ending at (lost_in close.did)));
  events = one;
  faults = failed ∙ ap (λ k. k + m) acts.faults ∙ ap (λ k. faults acts.did + k) close.faults ∙ sym (count_on is_fault acts.did close.did);
  refused = refused ∙ sym (refused_in (record { at = at; event = event; stop = Some (record { done = length fault.done.items; draws = fault.draws }) }) (lost_in acts.did) (lost_in close.did));
  last = last;
}

-- one round
pub one_round : (before : Option (List WireCall)) (start : HubState) (round : Round) (served : Served) (after : Option (List WireCall)) (new : HubState)
    → IsRound start round → Records before (did_in round) after → new ≡ (logged start (entries_of round)).hub
    → served.events ≡ count_by is_event (did_in round) → served.faults ≡ fault_total (did_in round) → served.refused ≡ count_by is_refused (entries_of round) → served.last ≡ moment_in round
    → IsRun before start 1 served after new
unfolding AreRounds
one_round before start round served after new is recorded hub events failed refused last =
    let all = flat_map-cons did_in round [] ∙ append-nil (did_in round) in
    let stepped = flat_map-cons entries_of round [] ∙ append-nil (entries_of round) in
    record {
      rounds = round ∷ [];
      each = (is, tt);
      many = refl;
      recorded = subst (λ l. Records before l after) (sym all) recorded;
      hub = hub ∙ ap (λ l. (logged start l).hub) (sym stepped);
      events = events ∙ ap (λ l. count_by is_event l) (sym all);
      faults = failed ∙ ap fault_total (sym all);
      refused = refused ∙ ap (λ l. count_by is_refused l) (sym stepped);
      last = last;
    }

pub no_round : (before : Option (List WireCall)) (start : HubState) (served : Served) → served.events ≡ 0 → served.faults ≡ 0 → served.refused ≡ 0 → served.last ≡ None → IsRun before start 0 served before start
unfolding AreRounds
no_round before start served events failed refused last = record {
  rounds = [];
  each = tt;
  many = refl;
  recorded = records_nothing before;
  hub = refl;
  events = events;
  faults = failed;
  refused = refused;
  last = last;
}

last_on : (rs qs : List Round) → last_moment (rs ++ qs) ≡ option_or (last_moment qs) (last_moment rs)
last_on [] qs = sym (or_none (last_moment qs))
last_on (r ∷ rs) qs = ap (λ o. option_or o (moment_in r)) (last_on rs qs) ∙ one_by_one (last_moment qs)
  where
    one_by_one : (o : Option Moment) → option_or (option_or o (last_moment rs)) (moment_in r) ≡ option_or o (option_or (last_moment rs) (moment_in r))
    one_by_one (Some at) = refl
    one_by_one None = refl

rounds_on : (hub : HubState) (rs qs : List Round) → AreRounds hub rs → AreRounds (logged hub (flat_map entries_of rs)).hub qs → AreRounds hub (rs ++ qs)
unfolding AreRounds
rounds_on hub [] qs s t = t
rounds_on hub (r ∷ rs) qs s t = (
  s.0,
  rounds_on (logged hub (entries_of r)).hub rs qs s.1
      (subst (λ (h : HubState). AreRounds h qs) (ap (λ l. (logged hub l).hub) (flat_map-cons entries_of r rs) ∙ logged_on hub (entries_of r) (flat_map entries_of rs)) t),
)

pub goes_on : (before : Option (List WireCall)) (start : HubState) (n : ℕ) (s : Served) (middle : Option (List WireCall)) (hub : HubState) (m : ℕ) (t : Served) (after : Option (List WireCall)) (new : HubState) (u : Served)
    → IsRun before start n s middle hub → IsRun middle hub m t after new
    → u.events ≡ s.events + t.events → u.faults ≡ min (s.faults + t.faults) (2 ^ 64 - 1) → u.refused ≡ s.refused + t.refused → u.last ≡ option_or t.last s.last → IsRun before start (n + m) u after new
goes_on before start n s middle hub m t after new u a b events failed refused last =
    let all = flat_map-append did_in a.rounds b.rounds in
    let stepped = flat_map-append entries_of a.rounds b.rounds in
    record {
      rounds = a.rounds ++ b.rounds;
      each = rounds_on start a.rounds b.rounds a.each (subst (λ (h : HubState). AreRounds h b.rounds) a.hub b.each);
      many = length-append a.rounds b.rounds ∙ (let e = a.many in let f = b.many in omega (arith, e, f));
      recorded = subst (λ l. Records before l after) (sym all) (records_on before _ middle _ after a.recorded b.recorded);
      hub = b.hub ∙ ap (λ (h : HubState). (logged h (flat_map entries_of b.rounds)).hub) a.hub ∙ sym (logged_on start (flat_map entries_of a.rounds) (flat_map entries_of b.rounds)) ∙ ap (λ l. (logged start l).hub) (sym stepped);
      events = events ∙ (let e = a.events in let f = b.events in let g = ap (λ l. count_by is_event l) all ∙ count_on is_event (flat_map did_in a.rounds) (flat_map did_in b.rounds) in omega (arith, e, f, g));
      faults = failed
          ∙ (λ i. min (a.faults i + b.faults i) (2 ^ 64 - 1))
          ∙ saturated_both (faults (flat_map did_in a.rounds)) (faults (flat_map did_in b.rounds)) (2 ^ 64 - 1)
          ∙ ap (λ (k : ℕ). min k (2 ^ 64 - 1)) (sym (ap faults all ∙ count_on is_fault (flat_map did_in a.rounds) (flat_map did_in b.rounds)));
      refused = refused ∙ (let e = a.refused in let f = b.refused in let g = ap (λ l. count_by is_refused l) stepped ∙ count_on is_refused (flat_map entries_of a.rounds) (flat_map entries_of b.rounds) in omega (arith, e, f, g));
      last = last ∙ (λ i. option_or (b.last i) (a.last i)) ∙ sym (last_on a.rounds b.rounds);
    }

-- acts are not polls
no_events : (xs : List Action) (d : List WireCall) → Tries xs d → count_by is_event d ≡ 0
unfolding Tries
no_events [] d h = ap (λ l. count_by is_event l) h
no_events (x ∷ xs) d h = elim h.1 [
  | inl w ↦ let e = ap (λ l. count_by is_event l) w ∙ count_on is_event (Acted x ∷ []) h.0 in let z = no_events xs h.0 h.2 in omega (arith, e, z)
  | inr w ↦ let e = ap (λ l. count_by is_event l) w ∙ count_on is_event (Failed x ∷ []) h.0 in let z = no_events xs h.0 h.2 in omega (arith, e, z)
]

-- a round in which an event arrived
pub taken_round : (before : Option (List WireCall)) (start : HubState) (at : Moment) (event : Event) (middle : Option (List WireCall)) (s : Served) (recorded : Option (List WireCall)) (new : HubState)
    → Records before (Polled at event ∷ []) middle → IsTaken middle start at event s recorded new → s.faults < 2 ^ 64 → IsRun before start 1 s recorded new
taken_round before start at event middle s recorded new records t few =
    let entry : Entry = record { at = at; event = event; stop = t.stop } in
    let both = count_on is_event (Polled at event ∷ []) (t.acts ++ t.close) in
    let parts = count_on is_event t.acts t.close in
    let none = no_events (step_of start entry).actions t.acts t.is.0 in
    let no_more = no_events (closing t.stop event) t.close t.is.1 in
    let failed = faults_cons (Polled at event) (t.acts ++ t.close) in
    let one = t.events in let some = t.faults in
    let all : s.faults ≡ faults (Polled at event ∷ t.acts ++ t.close) = omega (arith, failed, some) in
    let most : s.faults ≤ 2 ^ 64 - 1 = omega (arith, few) in
    one_round before start (Took entry t.acts t.close) s recorded new t.is
    (records_on before (Polled at event ∷ []) middle (t.acts ++ t.close) recorded records t.recorded) t.hub
    (omega (arith, both, parts, none, no_more, one)) (sym (min-eq_left most) ∙ ap (λ (k : ℕ). min k (2 ^ 64 - 1)) all) t.refused t.last
