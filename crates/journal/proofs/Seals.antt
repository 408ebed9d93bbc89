-- What a seal is for, and that no call of a running server touches it.
use Rattle.std.proofs.Common.{◌≡◌, ◌⊎◌, inl, inr, ℕ, ℤ, Bool, true, false, not, ◌||◌, List, [], Option, Some, None, Ok, refl, sym, ap, subst, ◌∙◌}
use Rattle.std.specs.Prelude.{IfSome, nat_eq, if◌then◌else◌}
use Rattle.std.specs.Cmp.Lexicographic.{pointwise, same_text}
use Rattle.krb_fields.specs.declared.moment.Moment.{Moment}
use Rattle.replay.specs.declared.seen.Resumption.{Resumption}
use Rattle.replay.specs.declared.seen.Seen.{Seen}
use Rattle.journal.specs.Appending.{BeginsFile, HasMended, MayFail, MayKeep, MayTurn}
use Rattle.journal.specs.Decision.{Place, doubt_of, found_floor, goes_on_behind, is_missealed, is_other_boot, is_other_realm, is_sealed, is_unlinked, resumption_of, seal_by, start_by, start_of}
use Rattle.journal.specs.Holding.{IsStart}
use Rattle.journal.specs.Sealing.{MissealedRefuses, SealIsSafe, SealsHold, SealsWhatResumes, ThisBootOrSealed}
use Rattle.journal.specs.World.{HasBeside, HasPart, IsLeft, Leaves, SameSeal, Unseals, World, with_seal, roomier}
use Rattle.journal.specs.declared.decision.ResumeRefusal.{ResumeRefusal}
use Rattle.journal.specs.declared.decision.Found.{Found}
use Rattle.journal.specs.declared.decision.Found.TheVariants.{Nothing, Broken, Whole}
use Rattle.journal.specs.declared.decision.Start.{Start}
use Rattle.journal.specs.declared.decision.Start.TheVariants.{Resumes, Refuses}
use Rattle.journal.specs.declared.files.Begun.{Begun}
use Rattle.journal.specs.declared.files.Begun.TheVariants.{Linked, Anew, Roomy}
use Rattle.journal.specs.declared.files.Left.{Left}
use Rattle.journal.specs.declared.files.Left.TheVariants.{Before, Between, InPlace}
use Rattle.journal.specs.declared.journal_file.Tail.{Tail}
use Rattle.journal.proofs.Keeps.{unrecorded}

-- ---- what is sealed

seals_what_resumes : SealsWhatResumes
seals_what_resumes place older Nothing beside check is = absurd cc
seals_what_resumes place older (Broken lost) beside check is = absurd cc
seals_what_resumes place older (Whole j) beside check is = by_doubt (doubt_of place older j) is
  where
    by_doubt : (doubt : Option ResumeRefusal) → seal_by j doubt ≡ Ok check
        → (r : Resumption) × (behind : Option (List ℕ)) × (start_by place older j beside doubt ≡ Resumes r behind)
    by_doubt (Some doubt) is = absurd cc
    by_doubt None is = (resumption_of place older j, goes_on_behind place older j, refl)

third_fails : (a m b c : Bool) (x v y z : ResumeRefusal)
    → (if a then Some x else (if m then Some v else (if b then Some y else (if c then Some z else None)))) ≡ None
    → b ≡ false
third_fails true m b c x v y z e = absurd cc
third_fails false true b c x v y z e = absurd cc
third_fails false false true c x v y z e = absurd cc
third_fails false false false c x v y z e = refl

either : (a b : Bool) → not (a || b) ≡ false → (a ≡ true) ⊎ (b ≡ true)
either true b e = inl refl
either false true e = inr refl
either false false e = absurd cc

this_boot_or_sealed : ThisBootOrSealed
this_boot_or_sealed place older Nothing beside r behind is = absurd cc
this_boot_or_sealed place older (Broken lost) beside r behind is = absurd cc
this_boot_or_sealed place older (Whole j) beside r behind is = (j, refl, by_doubt (doubt_of place older j) refl is)
  where
    by_test : (pointwise nat_eq j.header.boot place.boot.now ≡ true) ⊎ (is_sealed place j ≡ true)
        → (j.header.boot ≡ place.boot.now) ⊎ (place.seal.now ≡ j.check)
    by_test (inl boot) = inl (same_text j.header.boot place.boot.now (sym boot))
    by_test (inr seal) = inr (same_text place.seal.now j.check (sym seal))

    by_doubt : (doubt : Option ResumeRefusal) → doubt_of place older j ≡ doubt
        → start_by place older j beside doubt ≡ Resumes r behind
        → (j.header.boot ≡ place.boot.now) ⊎ (place.seal.now ≡ j.check)
    by_doubt (Some doubt) none is = absurd cc
    by_doubt None none is =
        by_test
        (either (pointwise nat_eq j.header.boot place.boot.now) (is_sealed place j)
        (third_fails (is_other_realm place j) (is_missealed place j) (is_other_boot place j) (is_unlinked place older j) _ _ _ _ none))

pub sealed_safe : SealIsSafe
sealed_safe low r w seal safe = record { knows = safe.knows }

-- a list that is another one is tested to be so
not_same : (a b : List ℕ) (test : Bool) → pointwise nat_eq a b ≡ test → (a ≡ b → ⊥) → test ≡ false
not_same a b true is not = absurd (not (same_text a b (sym is)))
not_same a b false is not = refl

second_holds : (a m : Bool) (x v : ResumeRefusal) (others : Option ResumeRefusal) → m ≡ true
    → (d : ResumeRefusal) × ((if a then Some x else (if m then Some v else others)) ≡ Some d)
second_holds true m x v others e = (x, refl)
second_holds false true x v others e = (v, refl)
second_holds false false x v others e = absurd cc

missealed_refuses : MissealedRefuses
missealed_refuses place older newer beside j is empty other =
    subst (λ n. (doubt : ResumeRefusal) × (floor : Option ℤ) × (start_of place older n beside ≡ Refuses doubt floor)) (sym is) by_journal
  where
    missealed : is_missealed place j ≡ true
    missealed =
        ap (λ b. not (b || is_sealed place j)) (not_same place.seal.now [] (pointwise nat_eq place.seal.now []) refl empty)
        ∙ ap not (not_same place.seal.now j.check (is_sealed place j) refl other)

    by_journal : (doubt : ResumeRefusal) × (floor : Option ℤ) × (start_of place older (Whole j) beside ≡ Refuses doubt floor)
    by_journal =
        let (d, holds) = second_holds (is_other_realm place j) (is_missealed place j) _ _ _ missealed in
        (d, found_floor older (Whole j) beside, ap (start_by place older j beside) holds)

pub seals_hold : SealsHold
seals_hold = record { resumes = seals_what_resumes; needed = this_boot_or_sealed; safe = sealed_safe; missealed = missealed_refuses }

-- ---- before a start breaks it

pub sealed_start : (at : Moment) (floor : ℤ) (newer : Found) (start : Start) (w : World) (seal : List ℕ) → IsStart at floor newer start w
    → IsStart at floor newer start (with_seal seal w)
sealed_start at floor newer start w seal s = record {
  place = s.place;
  moment = s.moment;
  older = s.older;
  beside = s.beside;
  older_found = s.older_found;
  newer_found = s.newer_found;
  beside_found = s.beside_found;
  decided = s.decided;
  floor = s.floor;
}

-- what is so with any seal, is so after a call that breaks it
pub unsealed : (P : World → Type 0) → ((w : World) (seal : List ℕ) → P w → P (with_seal seal w)) → (ok : Bool) (old new : Option World)
    → Leaves (Unseals ok) old new → IfSome old P → IfSome new P
unsealed P keeps ok None new step is = unrecorded new P step
unsealed P keeps ok (Some w) None step is = absurd step
unsealed P keeps true (Some w) (Some n) step is = subst P (sym step) (keeps w [] is)
unsealed P keeps false (Some w) (Some n) (inl same) is = subst P (sym same) is
unsealed P keeps false (Some w) (Some n) (inr gone) is = subst P (sym gone) (keeps w [] is)

pub is_broken : (old new : Option World) → Leaves (Unseals true) old new → IfSome new (λ w. w.seal ≡ [])
is_broken None new step = unrecorded new (λ w. w.seal ≡ []) step
is_broken (Some w) None step = absurd step
is_broken (Some w) (Some n) step = ap (λ (w : World). w.seal) step

-- ---- by which calls it stays

pub seal_stays : (w : Option World) → Leaves SameSeal w w
seal_stays None = refl
seal_stays (Some w) = refl

pub stays_if_same : (old new : Option World) → new ≡ old → Leaves SameSeal old new
stays_if_same old new same = subst (Leaves SameSeal old) (sym same) (seal_stays old)

-- of two calls
pub stays_twice : (a b c : Option World) → Leaves SameSeal a b → Leaves SameSeal b c → Leaves SameSeal a c
stays_twice None b c x y = then_none b x y
  where
    then_none : (b : Option World) → b ≡ None → Leaves SameSeal b c → c ≡ None
    then_none None is y = y
    then_none (Some w) is y = absurd cc
stays_twice (Some a) None c x y = absurd x
stays_twice (Some a) (Some b) None x y = absurd y
stays_twice (Some a) (Some b) (Some c) x y = y ∙ x

-- no seal is left of none
pub stays_broken : (old new : Option World) → Leaves SameSeal old new → IfSome old (λ w. w.seal ≡ []) → IfSome new (λ w. w.seal ≡ [])
stays_broken None new step is = unrecorded new (λ w. w.seal ≡ []) step
stays_broken (Some w) None step is = absurd step
stays_broken (Some w) (Some n) step is = step ∙ is

-- what leaves a world with the same seal
by_world : (step : World → World → Type 0) → ((w n : World) → step w n → n.seal ≡ w.seal) → (old new : Option World) → Leaves step old new → Leaves SameSeal old new
by_world step keeps None new left = left
by_world step keeps (Some w) None left = left
by_world step keeps (Some w) (Some n) left = keeps w n left

pub begun_stays : (place : Place) (floor : Option ℤ) (link : List ℕ) (how : Begun) (check : List ℕ) (old new : Option World)
    → BeginsFile place floor link how check old new → Leaves SameSeal old new
begun_stays place floor link Linked check old new file = by_world _ (λ w n is. ap (λ (w : World). w.seal) is) old new file.leaves
begun_stays place floor link Anew check old new file = by_world _ (λ w n is. ap (λ (w : World). w.seal) is) old new file.leaves
begun_stays place floor link Roomy check old new file = by_world _ (λ w n is. ap (λ (w : World). w.seal) is) old new file.leaves

beside_stays : (text : List ℕ) (w n : World) → HasBeside text w n → n.seal ≡ w.seal
beside_stays text w n (inl same) = ap (λ (w : World). w.seal) same
beside_stays text w n (inr (inl gone)) = ap (λ (w : World). w.seal) gone
beside_stays text w n (inr (inr (part, rest, is, there))) = ap (λ (w : World). w.seal) there

left_stays : (how : Begun) (text : List ℕ) (left : Left) (w n : World) → IsLeft how text left w n → n.seal ≡ w.seal
left_stays how text Before w n is = beside_stays text w n is
left_stays Linked text Between w n is = ap (λ (w : World). w.seal) is
left_stays Anew text Between w n is = beside_stays text w n is
left_stays Roomy text Between w n is = beside_stays text (roomier w) n is
left_stays Linked text InPlace w n is = ap (λ (w : World). w.seal) is
left_stays Anew text InPlace w n (inl is) = ap (λ (w : World). w.seal) is
left_stays Anew text InPlace w n (inr is) = ap (λ (w : World). w.seal) is
left_stays Roomy text InPlace w n (inl is) = ap (λ (w : World). w.seal) is
left_stays Roomy text InPlace w n (inr is) = ap (λ (w : World). w.seal) is

pub failed_stays : (place : Place) (floor : Option ℤ) (link : List ℕ) (how : Begun) (left : Left) (old new : Option World)
    → MayFail place floor link how left old new → Leaves SameSeal old new
failed_stays place floor link how left old new (inl (before, same)) = stays_if_same old new same
failed_stays place floor link how left old new (inr file) =
    by_world (IsLeft how file.text left) (left_stays how file.text left) old new file.leaves

pub turn_stays : (place : Place) (floor : Option ℤ) (tail : Option Tail) (old : Option World) (next : Option Tail) (new : Option World)
    → MayTurn place floor tail old next new → Leaves SameSeal old new
turn_stays place floor None old next new (none, same) = stays_if_same old new same
turn_stays place floor (Some tail) old None new (left, failed) = failed_stays place floor tail.check Linked left old new failed
turn_stays place floor (Some tail) old (Some next) new (inl (check, failed)) = failed_stays place floor tail.check Linked Before old new failed
turn_stays place floor (Some tail) old (Some next) new (inr file) = begun_stays place floor tail.check Linked next.check old new file

pub append_stays : (at : Moment) (seen : Seen) (tail : Option Tail) (old : Option World) (next : Option Tail) (new : Option World)
    → MayKeep at seen tail old next new → Leaves SameSeal old new
append_stays at seen None old next new (none, same) = stays_if_same old new same
append_stays at seen (Some tail) old (Some next) new one = by_world _ (λ w n is. ap (λ (w : World). w.seal) is) old new one.leaves
append_stays at seen (Some tail) old None new (inl same) = stays_if_same old new same
append_stays at seen (Some tail) old None new (inr (more, next, keeps, part)) = by_world (HasPart more) one old new part
  where
    one : (w n : World) → HasPart more w n → n.seal ≡ w.seal
    one w n (front, rest, is, step) = ap (λ (w : World). w.seal) step

pub mend_stays : (place : Place) (floor : Option ℤ) (old : Option World) (next : Option Tail) (new : Option World) → HasMended place floor old next new
    → Leaves SameSeal old new
mend_stays place floor old (Some next) new file = begun_stays place floor [] Roomy next.check old new file
mend_stays place floor old None new (left, failed) = failed_stays place floor [] Roomy left old new failed
