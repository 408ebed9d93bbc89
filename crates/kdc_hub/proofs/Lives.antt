-- One period after another.
use Rattle.std.proofs.Common.{◌≡◌, ◌+◌, ◌-◌, ◌^◌, ℕ, arith, List, [], ◌∷◌, ◌++◌, length, map, count_by, Option, Some, None, refl, sym, ap, subst, ◌∙◌}
use Rattle.std.specs.Prelude.{cond, min, replicate, Bool}
use Rattle.std.specs.List.{AllByRecursion, flat_map}
use Rattle.std.specs.Option.{option_or}
use Rattle.std.proofs.lemmas.List.{append-nil, map-append, replicate-append-replicate}
use Rattle.std.proofs.lemmas.List.Concat.{flat_map-cons}
use Rattle.std.proofs.lemmas.List.Sums.{sum_by-append}
use Rattle.std.proofs.lemmas.Grind.{flat_map-append}
use Rattle.krb_fields.specs.declared.moment.Moment.{Moment}
use Rattle.kdc_hub.specs.declared.server.Served.{Served}
use Rattle.kdc_hub.specs.declared.wires.WireCall.{WireCall}
use Rattle.kdc_hub.specs.Hub.{HubState}
use Rattle.kdc_hub.specs.History.{CanBeResumed, IsOfOneProcess, IsOneRun, OneTicketInProcess, ServesAlike, Stepped, TidiesUnseen, Turn, Unaffected, after_turns}
use Rattle.kdc_hub.specs.Logged.{Entry, logged}
use Rattle.kdc_hub.specs.Moved.{MovesNothingElse}
use Rattle.kdc_hub.specs.Rounds.{AreRounds, did_in, entries_of, is_refused, last_moment}
use Rattle.kdc_hub.specs.Wire.{Records, is_event, is_fault}
use Rattle.kdc_hub.proofs.Rounds.{records_nothing, records_on, saturated_both}
use Rattle.kdc_hub.specs.declared.rows.Look.{Look}
use Rattle.kdc_hub.specs.declared.rows.Look.TheVariants.{Unchanged, Changed, Failed}
use Rattle.kdc_hub.specs.declared.totals.Totals.{Totals}
use Rattle.kdc_hub.specs.Timer.{due_at}
use Rattle.kdc_hub.specs.Life.{ArePeriods, IsLife, IsLived, IsPeriod, MayFind, Period, minute, replacement, rounds_in, tidied_by, tidying, turns_of}

flat_map-one : {X A : Type 0} (f : X → List A) (xs : List X) (x : X) → flat_map f (xs ++ x ∷ []) ≡ flat_map f xs ++ f x
flat_map-one f xs x = flat_map-append f xs (x ∷ []) ∙ ap (λ l. flat_map f xs ++ l) (flat_map-cons f x [] ∙ append-nil (f x))

count_on : {X : Type 0} (p : X → Bool) (xs ys : List X) → count_by p (xs ++ ys) ≡ count_by p xs + count_by p ys
count_on p xs ys = sum_by-append (λ x. cond (p x) 1 0) xs ys

-- the life so far, and when the last tidying was
pub record LivesOn (wire : Option (List WireCall)) (is_fixed : Bool) (source : Option (List Look)) (start : HubState) (lengths : List ℕ) (totals : Totals) (wire_after : Option (List WireCall)) (source_after : Option (List Look)) (new : HubState) (tidied : Option Moment) : Type 0 where
  pub lived : IsLived wire is_fixed source start lengths totals wire_after source_after new
  pub last : tidied ≡ tidied_by None lived.periods

tidied_on : (tidied : Option Moment) (ps : List Period) (p : Period) → tidied_by tidied (ps ++ p ∷ []) ≡ option_or p.tidied (tidied_by tidied ps)
tidied_on tidied [] p = refl
tidied_on tidied (q ∷ ps) p = tidied_on (option_or q.tidied tidied) ps p

pub none_lived : (wire : Option (List WireCall)) (is_fixed : Bool) (source : Option (List Look)) (start : HubState) (totals : Totals) → totals.events ≡ 0 → totals.faults ≡ 0 → totals.refused ≡ 0
    → LivesOn wire is_fixed source start [] totals wire source start None
unfolding ArePeriods
none_lived wire is_fixed source start totals events faults refused = record {
  lived = record {
    periods = [];
    each = tt;
    many = refl;
    did = records_nothing wire;
    found = records_nothing source;
    fixed = tt;
    hub = refl;
    events = events;
    faults = faults;
    refused = refused;
  };
  last = refl;
}

found_on : (is_fixed : Bool) (ps : List Period) (p : Period) → AllByRecursion (λ period. MayFind is_fixed period.look) ps → MayFind is_fixed p.look
    → AllByRecursion (λ period. MayFind is_fixed period.look) (ps ++ p ∷ [])
found_on is_fixed [] p all one = (one, tt)
found_on is_fixed (q ∷ ps) p all one = (all.0, found_on is_fixed ps p all.1 one)

-- a history continues from the hub that it left, and a log is a history
module _ (goes_on : (start : HubState) (turns later : List Turn) → after_turns start (turns ++ later) ≡ after_turns (after_turns start turns) later)
    (log : (start : HubState) (entries : List Entry) → after_turns start (map Stepped entries) ≡ (logged start entries).hub) where
  periods_on : (tidied : Option Moment) (hub : HubState) (ps : List Period) (p : Period) → ArePeriods tidied hub ps → AreRounds (after_turns (after_turns hub (flat_map turns_of ps)) (replacement p.look)) p.rounds
      → p.tidied ≡ due_at minute (tidied_by tidied ps) (last_moment p.rounds) → ArePeriods tidied hub (ps ++ p ∷ [])
  unfolding ArePeriods
  periods_on tidied hub [] p t r d = (r, d, tt)
  periods_on tidied hub (q ∷ ps) p t r d = (
    t.0,
    t.1,
    periods_on (option_or q.tidied tidied) (after_turns hub (turns_of q)) ps p t.2
        (subst (λ (h : HubState). AreRounds (after_turns h (replacement p.look)) p.rounds) (ap (after_turns hub) (flat_map-cons turns_of q ps) ∙ goes_on hub (turns_of q) (flat_map turns_of ps)) r) d,
  )

  module _ (wire : Option (List WireCall)) (is_fixed : Bool) (source : Option (List Look)) (start : HubState) (lengths : List ℕ) (totals : Totals) (wire_then : Option (List WireCall)) (source_then : Option (List Look)) (hub : HubState) (tidied : Option Moment)
      (so_far : LivesOn wire is_fixed source start lengths totals wire_then source_then hub tidied)
      (n : ℕ) (served : Served) (wire_after : Option (List WireCall)) (source_after : Option (List Look)) (new : HubState) (tidied_after : Option Moment) (b : IsPeriod wire_then is_fixed source_then hub tidied n served wire_after source_after new tidied_after) where
    abbrev a : IsLived wire is_fixed source start lengths totals wire_then source_then hub
    a = so_far.lived

    abbrev last : Period
    last = record { look = b.look; rounds = b.run.rounds; tidied = due_at minute tidied served.last }

    is_due : due_at minute tidied served.last ≡ due_at minute (tidied_by None a.periods) (last_moment b.run.rounds)
    is_due = λ i. due_at minute (so_far.last i) (b.run.last i)

    more_rounds : rounds_in (a.periods ++ last ∷ []) ≡ rounds_in a.periods ++ b.run.rounds
    more_rounds = flat_map-one (λ period. period.rounds) a.periods last

    more_did : flat_map did_in (rounds_in (a.periods ++ last ∷ [])) ≡ flat_map did_in (rounds_in a.periods) ++ flat_map did_in b.run.rounds
    more_did = ap (flat_map did_in) more_rounds ∙ flat_map-append did_in (rounds_in a.periods) b.run.rounds

    more_faults : count_by is_fault (flat_map did_in (rounds_in (a.periods ++ last ∷ []))) ≡ count_by is_fault (flat_map did_in (rounds_in a.periods)) + count_by is_fault (flat_map did_in b.run.rounds)
    more_faults = ap (count_by is_fault) more_did ∙ count_on is_fault (flat_map did_in (rounds_in a.periods)) (flat_map did_in b.run.rounds)

    more_events : count_by is_event (flat_map did_in (rounds_in (a.periods ++ last ∷ []))) ≡ count_by is_event (flat_map did_in (rounds_in a.periods)) + count_by is_event (flat_map did_in b.run.rounds)
    more_events = ap (count_by is_event) more_did ∙ count_on is_event (flat_map did_in (rounds_in a.periods)) (flat_map did_in b.run.rounds)

    more_entries : flat_map entries_of (rounds_in (a.periods ++ last ∷ [])) ≡ flat_map entries_of (rounds_in a.periods) ++ flat_map entries_of b.run.rounds
    more_entries = ap (flat_map entries_of) more_rounds ∙ flat_map-append entries_of (rounds_in a.periods) b.run.rounds

    more_refused : count_by is_refused (flat_map entries_of (rounds_in (a.periods ++ last ∷ []))) ≡ count_by is_refused (flat_map entries_of (rounds_in a.periods)) + count_by is_refused (flat_map entries_of b.run.rounds)
    more_refused = ap (count_by is_refused) more_entries ∙ count_on is_refused (flat_map entries_of (rounds_in a.periods)) (flat_map entries_of b.run.rounds)

    stands : new ≡ after_turns start (flat_map turns_of (a.periods ++ last ∷ []))
    stands =
        let looked = after_turns hub (replacement b.look) in
        let steps = map Stepped (flat_map entries_of b.run.rounds) in
        b.tidies.hub
        ∙ ap (λ (h : HubState). after_turns h (tidying (due_at minute tidied served.last))) (b.run.hub ∙ sym (log looked (flat_map entries_of b.run.rounds)))
        ∙ sym (goes_on looked steps (tidying (due_at minute tidied served.last)))
        ∙ sym (goes_on hub (replacement b.look) (steps ++ tidying (due_at minute tidied served.last)))
        ∙ ap (λ (h : HubState). after_turns h (turns_of last)) a.hub
        ∙ sym (goes_on start (flat_map turns_of a.periods) (turns_of last))
        ∙ ap (after_turns start) (sym (flat_map-one turns_of a.periods last))

    pub one_more : (u : Totals) → u.events ≡ totals.events + served.events → u.faults ≡ min (totals.faults + served.faults) (2 ^ 64 - 1) → u.refused ≡ totals.refused + served.refused
        → LivesOn wire is_fixed source start (lengths ++ n ∷ []) u wire_after source_after new tidied_after
    one_more u events faults refused = record {
      lived = record {
        periods = a.periods ++ last ∷ [];
        each = periods_on None start a.periods last a.each (subst (λ (h : HubState). AreRounds (after_turns h (replacement b.look)) b.run.rounds) a.hub b.run.each) is_due;
        many = map-append (λ period. length period.rounds) a.periods (last ∷ []) ∙ (λ i. a.many i ++ b.run.many i ∷ []);
        did = subst (λ l. Records wire l wire_after) (sym more_did) (records_on wire _ wire_then _ wire_after a.did b.run.recorded);
        found = subst (λ l. Records source l source_after) (sym (map-append (λ period. period.look) a.periods (last ∷ []))) (records_on source _ source_then _ source_after a.found b.found);
        fixed = found_on is_fixed a.periods last a.fixed b.fixed;
        hub = stands;
        events = events ∙ (let e = a.events in let f = b.run.events in omega (arith, e, f, more_events));
        faults = faults
            ∙ (λ i. min (a.faults i + b.run.faults i) (2 ^ 64 - 1))
            ∙ saturated_both (count_by is_fault (flat_map did_in (rounds_in a.periods))) (count_by is_fault (flat_map did_in b.run.rounds)) (2 ^ 64 - 1)
            ∙ ap (λ (k : ℕ). min k (2 ^ 64 - 1)) (sym more_faults);
        refused = refused ∙ (let e = a.refused in let f = b.run.refused in omega (arith, e, f, more_refused));
      };
      last = b.tidies.after ∙ ap (option_or (due_at minute tidied served.last)) so_far.last ∙ sym (tidied_on None a.periods last);
    }

-- the rows of a source that is fixed stay fixed
pub same_period : (one other : Bool) → one ≡ other → (wire : Option (List WireCall)) (source : Option (List Look)) (start : HubState) (tidied : Option Moment) (n : ℕ) (served : Served)
    (wire_after : Option (List WireCall)) (source_after : Option (List Look)) (new : HubState) (tidied_after : Option Moment)
    → IsPeriod wire one source start tidied n served wire_after source_after new tidied_after → IsPeriod wire other source start tidied n served wire_after source_after new tidied_after
same_period one other is wire source start tidied n served wire_after source_after new tidied_after period =
    subst (λ fixed. IsPeriod wire fixed source start tidied n served wire_after source_after new tidied_after) is period

-- one more of the same
pub replicate-one : (n x : ℕ) → replicate n x ++ x ∷ [] ≡ replicate (n + 1) x
replicate-one n x = replicate-append-replicate n 1 x

-- ---- one process

both_go_on : (xs ys : List Turn) → AllByRecursion IsOfOneProcess xs → AllByRecursion IsOfOneProcess ys → AllByRecursion IsOfOneProcess (xs ++ ys)
both_go_on [] ys a b = b
both_go_on (x ∷ xs) ys a b = (a.0, both_go_on xs ys a.1 b)

look_goes_on : (look : Look) → AllByRecursion IsOfOneProcess (replacement look)
look_goes_on Unchanged = tt
look_goes_on (Changed database) = (tt, tt)
look_goes_on Failed = tt

tidying_goes_on : (tidied : Option Moment) → AllByRecursion IsOfOneProcess (tidying tidied)
tidying_goes_on (Some at) = (tt, tt)
tidying_goes_on None = tt

steps_go_on : (entries : List Entry) → AllByRecursion IsOfOneProcess (map Stepped entries)
steps_go_on [] = tt
steps_go_on (entry ∷ entries) = (tt, steps_go_on entries)

periods_go_on : (periods : List Period) → AllByRecursion IsOfOneProcess (flat_map turns_of periods)
periods_go_on [] = tt
periods_go_on (p ∷ ps) =
    subst (AllByRecursion IsOfOneProcess) (sym (flat_map-cons turns_of p ps))
    (both_go_on (turns_of p) (flat_map turns_of ps)
    (both_go_on (replacement p.look) (map Stepped (flat_map entries_of p.rounds) ++ tidying p.tidied) (look_goes_on p.look)
    (both_go_on (map Stepped (flat_map entries_of p.rounds)) (tidying p.tidied) (steps_go_on (flat_map entries_of p.rounds)) (tidying_goes_on p.tidied)))
    (periods_go_on ps))

-- with the laws of all histories
pub is_life : ((start : HubState) (turns : List Turn) → IsOneRun start turns) → ServesAlike → Unaffected → MovesNothingElse → TidiesUnseen → CanBeResumed → OneTicketInProcess
    → (wire : Option (List WireCall)) (is_fixed : Bool) (source : Option (List Look)) (start : HubState) (lengths : List ℕ) (totals : Totals) (wire_after : Option (List WireCall)) (source_after : Option (List Look)) (new : HubState)
    → IsLived wire is_fixed source start lengths totals wire_after source_after new → IsLife wire is_fixed source start lengths totals wire_after source_after new
is_life one_run alike unaffected moved unseen resumable one_ticket wire is_fixed source start lengths totals wire_after source_after new lived =
    let turns = flat_map turns_of lived.periods in
    record {
      lived = lived;
      one_run = one_run start turns;
      isolation = alike start turns;
      unaffected = unaffected start turns;
      moved = moved start turns;
      unseen = unseen start turns;
      resumable = resumable start turns;
      one_ticket = one_ticket start turns (periods_go_on lived.periods);
    }
