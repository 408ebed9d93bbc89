-- What the start of a journal leaves.
use Rattle.std.proofs.Common.{◌≡◌, inl, inr, ℕ, ℤ, pos, ◌-ℤ◌, ◌<ℤ◌, Bool, true, false, List, [], Option, Some, None, refl, sym, ap, subst, ◌∙◌}
use Rattle.std.specs.Prelude.{IfSome, Ok, ⊤}
use Rattle.std.proofs.lemmas.List.Elements.{All-nil}
use Rattle.krb_fields.specs.Skew.{skew}
use Rattle.krb_fields.specs.declared.moment.Moment.{Moment}
use Rattle.replay.specs.declared.seen.Resumption.{Resumption}
use Rattle.replay.specs.declared.seen.Seen.{Seen}
use Rattle.journal.specs.Appending.{BeginsFile, HasStarted, HasTail, MayFail}
use Rattle.journal.specs.Keeping.{begun}
use Rattle.journal.specs.Decision.{Place, floor_on, start_of}
use Rattle.journal.specs.Holding.{IsAbove, IsFound, IsKept, IsSafe, IsStart, IsUnlinked, IsWhole, cut, cut_found, known_by}
use Rattle.journal.specs.World.{World}
use Rattle.journal.specs.declared.decision.Found.{Found}
use Rattle.journal.specs.declared.decision.Found.TheVariants.{Nothing, Broken, Whole}
use Rattle.journal.specs.declared.decision.Start.{Start}
use Rattle.journal.specs.declared.decision.Start.TheVariants.{Resumes, Refuses}
use Rattle.journal.specs.declared.files.Begun.TheVariants.{Anew}
use Rattle.journal.specs.declared.files.Left.{Left}
use Rattle.journal.specs.declared.files.Left.TheVariants.{Before, Between, InPlace}
use Rattle.std.proofs.lemmas.Bool.{false≢true}
use Rattle.journal.specs.declared.journal_file.Tail.{Tail}
use Rattle.journal.specs.declared.reading.Journal.{Journal}
use Rattle.journal.proofs.Held.{same_le}
use Rattle.journal.proofs.Keeps.{begun_anew, in_place_lacks, unrecorded}
use Rattle.journal.proofs.Worlds.{starts_above, unbegun_is_safe, whole_found, whole_start}

-- it goes on behind what was found
goes_on : (at : Moment) (floor : ℤ) (newer : Found) (start : Start) (w : World) → IsStart at floor newer start w → (r : Resumption) (check : List ℕ) (j : Journal)
    → start ≡ Resumes r (Some check) → newer ≡ Whole j → IsWhole (at.sec -ℤ pos skew) r w check (Some (floor_on r.floor j))
goes_on at floor newer start w s r check j resumes whole =
    let (older, o, older_is) = s.older_found in
    let (all, n, is) = whole_found w.newer j (subst (IsFound w.newer) whole s.newer_found) in
    let starts : start_of s.place (cut_found older) (Whole (cut all)) s.beside ≡ Resumes r (Some check) =
    ap (λ x. start_of s.place x (Whole (cut all)) s.beside) (sym older_is)
    ∙ (ap (λ k. start_of s.place s.older (Whole k) s.beside) (sym is)
    ∙ (ap (λ x. start_of s.place s.older x s.beside) (sym whole) ∙ (sym s.decided ∙ resumes))) in
    subst (λ (m : Moment). IsWhole (m.sec -ℤ pos skew) r w check (Some (floor_on r.floor j))) s.moment
    (subst (λ (k : Journal). IsWhole (s.place.at.sec -ℤ pos skew) r w check (Some (floor_on r.floor k))) (sym is)
    (whole_start s.place w older all o n r (Some check) s.beside starts check refl))

pub start_goes_on : (at : Moment) (floor : ℤ) (newer : Found) (start : Start) (behind : Tail × ℤ) (old : Option World) → HasTail start newer (Some behind)
    → IfSome old (IsStart at floor newer start)
    → IfSome old (λ w. IsKept (at.sec -ℤ pos skew) (known_by floor start) (known_by floor start) w (Some behind.0) (Some behind.1))
start_goes_on at floor newer start behind None has is = tt
start_goes_on at floor newer start behind (Some w) (r, j, resumes, whole, high) s = (
  refl,
  subst (λ f. IsWhole (at.sec -ℤ pos skew) (known_by floor start) w behind.0.check (Some f)) (sym high)
      (subst (λ k. IsWhole (at.sec -ℤ pos skew) k w behind.0.check (Some (floor_on r.floor j))) (sym (ap (known_by floor) resumes))
      (goes_on at floor newer start w s r behind.0.check j resumes whole)),
)

-- or its floor is above all that it knows
resumed_above : (place : Place) (w : World) (older newer beside : Found) (r : Resumption) (check : Option (List ℕ)) → IsFound w.older older → IsFound w.newer newer
    → Resumes r check ≡ start_of place older newer beside → ((c : List ℕ) (j : Journal) → check ≡ Some c → newer ≡ Whole j → ⊥) → IsAbove r.floor r
resumed_above place w older Nothing beside r check o n decided none = absurd cc
resumed_above place w older (Broken lost) beside r check o n decided none = absurd cc
resumed_above place w older (Whole j) beside r (Some c) o n decided none = absurd (none c j refl refl)
resumed_above place w older (Whole j) beside r None (fo, so, eo) n decided none =
    let (all, s, is) = whole_found w.newer j n in
    starts_above place w fo all so s r None beside
    (ap (λ x. start_of place x (Whole (cut all)) beside) (sym eo) ∙ (ap (λ k. start_of place older (Whole k) beside) (sym is) ∙ sym decided)) refl

known_above : (at : Moment) (floor : ℤ) (newer : Found) (start : Start) (w : World) → HasTail start newer None → IsStart at floor newer start w
    → IsAbove floor (known_by floor start)
known_above at floor newer (Refuses doubt lost) w none s = record { floor_above = same_le floor; times_above = All-nil (λ (x : Seen). x.ctime <ℤ floor) }
known_above at floor newer (Resumes r check) w none s =
    subst (λ f. IsAbove f r) (sym s.floor)
    (resumed_above s.place w s.older newer s.beside r check s.older_found s.newer_found s.decided
    (λ c j is whole. none r c j (ap (Resumes r) is) whole))

pub start_begins : (at : Moment) (floor : ℤ) (newer : Found) (start : Start) → HasTail start newer None → (place : Place) (at_floor : Option ℤ)
    → at_floor ≡ Some floor → (next : Tail) (old new : Option World) → BeginsFile place at_floor [] Anew next.check old new
    → IfSome old (IsStart at floor newer start)
    → IfSome new (λ w. IsKept (at.sec -ℤ pos skew) (known_by floor start) (known_by floor start) w (Some next) at_floor)
start_begins at floor newer start none place at_floor is next old new file starts =
    begun_anew (at.sec -ℤ pos skew) (known_by floor start) place at_floor next old new file (all_above old starts)
  where
    all_above : (old : Option World) → IfSome old (IsStart at floor newer start) → IfSome old (λ w. IfSome at_floor (λ f. IsAbove f (known_by floor start)))
    all_above None s = tt
    all_above (Some w) s = subst (λ o. IfSome o (λ f. IsAbove f (known_by floor start))) (sym is) (known_above at floor newer start w none s)

-- or it is in place, and it is begun again before a reply
module _ (at : Moment) (floor : ℤ) (newer : Found) (start : Start) (none : HasTail start newer None) (place : Place) (at_floor : Option ℤ)
    (is : at_floor ≡ Some floor) where
  start_lacks : (old new : Option World) → MayFail place at_floor [] Anew InPlace old new → IfSome old (IsStart at floor newer start)
      → IfSome new (λ w. IsKept (at.sec -ℤ pos skew) (known_by floor start) (known_by floor start) w None at_floor)
  start_lacks old new (inl (before, same)) starts = absurd (not_before before)
    where
      is_before : Left → Bool
      is_before Before = true
      is_before Between = false
      is_before InPlace = false

      not_before : InPlace ≡ Before → ⊥
      not_before same = false≢true (ap is_before same)
  start_lacks None new (inr file) starts = unrecorded new _ file.leaves
  start_lacks (Some w) None (inr file) starts = absurd file.leaves
  start_lacks (Some w) (Some n) (inr file) starts =
      let known = known_by floor start in
      let above_it : IsAbove floor known = known_above at floor newer start w none starts in
      let above_file : IsAbove file.at_floor known =
      subst (λ o. IfSome o (λ f. IsAbove f known)) (sym is ∙ file.floor_is) above_it in
      in_place_lacks Anew tt (at.sec -ℤ pos skew) known known place at_floor file.at_floor file.text file.check w n file.floor_is file.begins
      above_file above_file file.leaves

  pub start_in_place : (tail : Option Tail) (old new : Option World) → HasStarted {E = ⊤} place at_floor old (Ok tail) new
      → IfSome old (IsStart at floor newer start)
      → IfSome new (λ w. IsKept (at.sec -ℤ pos skew) (known_by floor start) (known_by floor start) w tail at_floor)
  start_in_place (Some tail) old new file starts = start_begins at floor newer start none place at_floor is tail old new file starts
  start_in_place None old new failed starts = start_lacks old new failed starts

pub start_fails : (low : ℤ) (r : Resumption) (place : Place) (at_floor : Option ℤ) (old new : Option World) → IfSome old (IsSafe low r)
    → (left : Left) × IsUnlinked Anew left × MayFail place at_floor [] Anew left old new → IfSome new (IsSafe low r)
start_fails low r place at_floor old new safe (left, unlinked, inl (before, same)) = subst (λ w. IfSome w (IsSafe low r)) (sym same) safe
start_fails low r place at_floor None new safe (left, unlinked, inr file) = unrecorded new (IsSafe low r) file.leaves
start_fails low r place at_floor (Some w) None safe (left, unlinked, inr file) = absurd file.leaves
start_fails low r place at_floor (Some w) (Some n) safe (left, unlinked, inr file) =
    unbegun_is_safe low r Anew (begun place file.at_floor []) file.text file.check left w n file.begins refl unlinked safe file.leaves
