-- What the files of a journal had, they still have after each call of a running server.
use Rattle.std.proofs.Common.{◌≡◌, inl, inr, if◌then◌else◌, ℤ, pos, ◌-ℤ◌, ◌<ℤ◌, ℕ, Bool, true, false, List, [], Option, Some, None, Ok, refl, sym, ap, subst, ◌∙◌}
use Rattle.std.specs.Prelude.{IfSome, ⊤}
use Rattle.krb_fields.specs.declared.moment.Moment.{Moment}
use Rattle.replay.specs.declared.seen.Resumption.{Resumption}
use Rattle.replay.specs.declared.seen.Seen.{Seen}
use Rattle.std.specs.Int.{int_max}
use Rattle.krb_fields.specs.Skew.{skew}
use Rattle.replay.specs.Opening.{opening_floor}
use Rattle.replay.specs.declared.opening.Opening.TheVariants.{Restart}
use Rattle.journal.specs.Appending.{AppendsPart, FailsFile, HasMended, HasStarted, HasTail, HasTurned, MayFail, MayKeep, MayTurn}
use Rattle.journal.specs.Decision.{Place, floor_behind, floor_on, is_early, start_of}
use Rattle.journal.specs.Holding.{Counts, FilesHave, IsFound, IsKept, IsLacking, IsOver, IsStart, IsUnlinked, StillThere, cut}
use Rattle.journal.specs.Keeping.{BeginsJournal, begun}
use Rattle.journal.specs.World.{IsLeft, Leaves, Unseals, World}
use Rattle.journal.specs.declared.decision.Found.{Found}
use Rattle.journal.specs.declared.decision.Found.TheVariants.{Nothing, Broken, Whole}
use Rattle.journal.specs.declared.decision.Start.{Start}
use Rattle.journal.specs.declared.decision.Start.TheVariants.{Resumes, Refuses}
use Rattle.journal.specs.declared.files.Begun.{Begun}
use Rattle.journal.specs.declared.files.Begun.TheVariants.{Anew, Roomy}
use Rattle.journal.specs.declared.files.Left.{Left}
use Rattle.journal.specs.declared.files.Left.TheVariants.{Before, Between, InPlace}
use Rattle.journal.specs.declared.journal_file.Tail.{Tail}
use Rattle.journal.specs.declared.reading.Journal.{Journal}
use Rattle.journal.proofs.Held.{below_high, cut_floor, on_newer}
use Rattle.journal.proofs.Worlds.{is_resumed, text_found, whole_found}
use Rattle.journal.proofs.Remaining.{has_newer, has_spelled, more_there, placed_has, turn_there, turned_there, unplaced_there}

some_one : (a b : ℤ) → Some a ≡ Some b → a ≡ b
some_one a b is = ap (or_else a) is
  where
    or_else : ℤ → Option ℤ → ℤ
    or_else x (Some y) = y
    or_else x None = x

-- ---- of one call, and of two

leaves_by : (R S : World → World → Type 0) → ((w n : World) → R w n → S w n) → (old new : Option World) → Leaves R old new → Leaves S old new
leaves_by R S so None new left = left
leaves_by R S so (Some w) None left = left
leaves_by R S so (Some w) (Some n) left = so w n left

pub same_there : (seen : Seen) (old new : Option World) → new ≡ old → StillThere seen old new
same_there seen old new same = subst (StillThere seen old) (sym same) (by_world old)
  where
    by_world : (w : Option World) → StillThere seen w w
    by_world None = refl
    by_world (Some w) = λ has. has

pub there_twice : (seen : Seen) (a b c : Option World) → StillThere seen a b → StillThere seen b c → StillThere seen a c
there_twice seen None b c x y = then_none b x y
  where
    then_none : (b : Option World) → b ≡ None → StillThere seen b c → c ≡ None
    then_none None is y = y
    then_none (Some w) is y = absurd cc
there_twice seen (Some a) None c x y = absurd x
there_twice seen (Some a) (Some b) None x y = absurd y
there_twice seen (Some a) (Some b) (Some c) x y = λ has. y (x has)

fails_there : (seen : Seen) (place : Place) (floor : Option ℤ) (link : List ℕ) (how : Begun) (left : Left) (old new : Option World)
    → MayFail place floor link how left old new
    → ((file : FailsFile place floor link how left old new) (w n : World) → IsLeft how file.text left w n → FilesHave w seen → FilesHave n seen)
    → StillThere seen old new
fails_there seen place floor link how left old new (inl (before, same)) so = same_there seen old new same
fails_there seen place floor link how left old new (inr file) so =
    leaves_by (IsLeft how file.text left) (λ o n. FilesHave o seen → FilesHave n seen) (so file) old new file.leaves

-- ---- files take turns

turns_there : (seen : Seen) (low : ℤ) (kept all : Resumption) (place : Place) (floor : Option ℤ) (tail : Tail) (w : World) (next : Option Tail)
    (new : Option World)
    → HasTurned place floor tail (Some w) next new → IsKept low kept all w (Some tail) floor → StillThere seen (Some w) new
turns_there seen low kept all place floor tail w (Some next) new (inl (check, inl (before, same))) kept_it = same_there seen (Some w) new same
turns_there seen low kept all place floor tail w (Some next) None (inl (check, inr file)) kept_it = absurd file.leaves
turns_there seen low kept all place floor tail w (Some next) (Some n) (inl (check, inr file)) (same, whole) =
    turn_there low all w tail.check floor whole place file.at_floor file.floor_is file.text file.check file.begins Before n file.leaves seen
turns_there seen low kept all place floor tail w (Some next) None (inr file) kept_it = absurd file.leaves
turns_there seen low kept all place floor tail w (Some next) (Some n) (inr file) (same, whole) = λ has.
    subst (λ x. FilesHave x seen) (sym file.leaves)
    (turned_there low all w tail.check floor whole place file.at_floor file.floor_is file.text next.check file.begins seen has)
turns_there seen low kept all place floor tail w None new (left, inl (before, same)) kept_it = same_there seen (Some w) new same
turns_there seen low kept all place floor tail w None None (left, inr file) kept_it = absurd file.leaves
turns_there seen low kept all place floor tail w None (Some n) (left, inr file) (same, whole) =
    turn_there low all w tail.check floor whole place file.at_floor file.floor_is file.text file.check file.begins left n file.leaves seen

none_turned : (place : Place) (floor : Option ℤ) (tail : Tail) (next : Option Tail) (new : Option World) → HasTurned place floor tail None next new → new ≡ None
none_turned place floor tail (Some next) new (inl (check, inl (before, same))) = same
none_turned place floor tail (Some next) new (inl (check, inr file)) = file.leaves
none_turned place floor tail (Some next) new (inr file) = file.leaves
none_turned place floor tail None new (left, inl (before, same)) = same
none_turned place floor tail None new (left, inr file) = file.leaves

pub turn_stays_there : (seen : Seen) (low : ℤ) (kept all : Resumption) (place : Place) (floor : Option ℤ) (tail : Option Tail) (old : Option World)
    (next : Option Tail) (new : Option World)
    → MayTurn place floor tail old next new → IfSome old (λ w. IsKept low kept all w tail floor) → StillThere seen old new
turn_stays_there seen low kept all place floor None old next new (none, same) is = same_there seen old new same
turn_stays_there seen low kept all place floor (Some tail) None next new step is = none_turned place floor tail next new step
turn_stays_there seen low kept all place floor (Some tail) (Some w) next new step is = turns_there seen low kept all place floor tail w next new step is

-- ---- one more authenticator

part_there : (s : Seen) (check : List ℕ) (at : Moment) (seen : Seen) (old new : Option World) → AppendsPart check at seen old new → StillThere s old new
part_there s check at seen old new (inl same) = same_there s old new same
part_there s check at seen None new (inr (more, next, keeps, left)) = left
part_there s check at seen (Some w) None (inr (more, next, keeps, left)) = left
part_there s check at seen (Some w) (Some n) (inr (more, next, keeps, (part, rest, is, left))) = λ has.
    subst (λ x. FilesHave x s) (sym left) (more_there w part s has)

pub append_stays_there : (s : Seen) (at : Moment) (seen : Seen) (tail : Option Tail) (old : Option World) (next : Option Tail) (new : Option World)
    → MayKeep at seen tail old next new → StillThere s old new
append_stays_there s at seen None old next new (none, same) = same_there s old new same
append_stays_there s at seen (Some tail) None (Some next) new one = one.leaves
append_stays_there s at seen (Some tail) (Some w) (Some next) None one = one.leaves
append_stays_there s at seen (Some tail) (Some w) (Some next) (Some n) one = λ has.
    subst (λ x. FilesHave x s) (sym one.leaves) (more_there w one.more s has)
append_stays_there s at seen (Some tail) old None new part = part_there s tail.check at seen old new part

-- ---- another file in place of both

over_file : (floor : Option ℤ) (f : ℤ) (w : World) (seen : Seen) → floor ≡ Some f → IsOver floor w → FilesHave w seen → seen.ctime <ℤ f
over_file floor f w seen is over has = subst (λ o. IsOver o w) is over seen has

pub mend_stays_there : (seen : Seen) (low : ℤ) (kept all : Resumption) (place : Place) (floor : Option ℤ) (old : Option World) (next : Option Tail)
    (new : Option World)
    → HasMended place floor old next new → IfSome old (λ w. IsLacking low kept all w floor) → StillThere seen old new
mend_stays_there seen low kept all place floor None (Some next) new file lacks = file.leaves
mend_stays_there seen low kept all place floor (Some w) (Some next) None file lacks = file.leaves
mend_stays_there seen low kept all place floor (Some w) (Some next) (Some n) file lacks = λ has.
    placed_has place file.at_floor file.text next.check file.begins n (ap (λ (x : World). x.newer) file.leaves) seen
    (over_file floor file.at_floor w seen file.floor_is lacks.over has)
mend_stays_there seen low kept all place floor old None new (left, inl (before, same)) lacks = same_there seen old new same
mend_stays_there seen low kept all place floor None None new (left, inr file) lacks = file.leaves
mend_stays_there seen low kept all place floor (Some w) None None (left, inr file) lacks = file.leaves
mend_stays_there seen low kept all place floor (Some w) None (Some n) (left, inr file) lacks = by_left left file.begins file.leaves
  where
    by_left : (left : Left) → BeginsJournal (begun place file.at_floor []) file.text file.check → IsLeft Roomy file.text left w n
        → FilesHave w seen → FilesHave n seen
    by_left Before begins is has = unplaced_there Roomy file.text Before w n tt is seen has
    by_left Between begins is has = unplaced_there Roomy file.text Between w n tt is seen has
    by_left InPlace begins (inl is) has =
        placed_has place file.at_floor file.text file.check begins n (ap (λ (x : World). x.newer) is) seen (over_file floor file.at_floor w seen file.floor_is lacks.over has)
    by_left InPlace begins (inr is) has =
        placed_has place file.at_floor file.text file.check begins n (ap (λ (x : World). x.newer) is) seen (over_file floor file.at_floor w seen file.floor_is lacks.over has)

-- ---- a start

pub unsealed_there : (seen : Seen) (ok : Bool) (old new : Option World) → Leaves (Unseals ok) old new → StillThere seen old new
unsealed_there seen ok old new left = leaves_by (Unseals ok) (λ o n. FilesHave o seen → FilesHave n seen) (λ w n is has. by_ok ok w n is has) old new left
  where
    by_ok : (ok : Bool) (w n : World) → Unseals ok w n → FilesHave w seen → FilesHave n seen
    by_ok true w n is has = subst (λ x. FilesHave x seen) (sym is) has
    by_ok false w n (inl same) has = subst (λ x. FilesHave x seen) (sym same) has
    by_ok false w n (inr gone) has = subst (λ x. FilesHave x seen) (sym gone) has

-- it resumes with files whose clock it is behind, or it refuses
late : (b : Bool) (check : List ℕ) → (if b then None else Some check) ≡ None → b ≡ true
late true check is = refl
late false check is = absurd cc

resumed_over : (place : Place) (w : World) (older newer beside : Found) (r : Resumption) (check : Option (List ℕ)) → IsFound w.older older
    → IsFound w.newer newer → Resumes r check ≡ start_of place older newer beside → ((c : List ℕ) (j : Journal) → check ≡ Some c → newer ≡ Whole j → ⊥)
    → (seen : Seen) → FilesHave w seen → seen.ctime <ℤ r.floor
resumed_over place w older Nothing beside r check o n decided none seen has = absurd cc
resumed_over place w older (Broken lost) beside r check o n decided none seen has = absurd cc
resumed_over place w older (Whole j) beside r (Some c) o n decided none seen has = absurd (none c j refl refl)
resumed_over place w older (Whole j) beside r None (fo, so, eo) n decided none seen has =
    let (all, s, is) = whole_found w.newer j n in
    let (text, there, spells) = text_found w.newer all s in
    let resumed = is_resumed place fo beside all r None
    (ap (λ x. start_of place x (Whole (cut all)) beside) (sym eo) ∙ (ap (λ k. start_of place older (Whole k) beside) (sym is) ∙ sym decided)) in
    let since = opening_floor (Restart place.at) in
    let floor : r.floor ≡ floor_on since all =
    ap (λ (x : Resumption). x.floor) (sym resumed.resumption)
    ∙ (cut_floor place fo all
    ∙ ap (λ b. if b then floor_on since all else int_max (floor_behind all fo) (place.at.sec -ℤ pos skew)) (late (is_early place all fo) all.check resumed.goes_on)) in
    subst (λ f. seen.ctime <ℤ f) (sym floor)
    (below_high (floor_on since all) all seen (on_newer since all spells.sums) (has_spelled text all seen spells (has_newer w text seen there has)))

pub start_over : (at : Moment) (floor : ℤ) (newer : Found) (start : Start) (w : World) → HasTail start newer None → IsStart at floor newer start w
    → (seen : Seen) → Counts start floor seen → FilesHave w seen → seen.ctime <ℤ floor
start_over at floor newer (Refuses doubt found) w none s seen counts has = counts
start_over at floor newer (Resumes r check) w none s seen counts has =
    subst (λ f. seen.ctime <ℤ f) (sym s.floor)
    (resumed_over s.place w s.older newer s.beside r check s.older_found s.newer_found s.decided
    (λ c j is whole. none r c j (ap (Resumes r) is) whole) seen has)

pub all_over : (at : Moment) (floor : ℤ) (newer : Found) (start : Start) → HasTail start newer None → (seen : Seen) → Counts start floor seen
    → (old : Option World) → IfSome old (IsStart at floor newer start) → IfSome old (λ w. FilesHave w seen → seen.ctime <ℤ floor)
all_over at floor newer start none seen counts None s = tt
all_over at floor newer start none seen counts (Some w) s = λ has. start_over at floor newer start w none s seen counts has

pub start_stays_there : (seen : Seen) (f : ℤ) (place : Place) (floor : Option ℤ) → floor ≡ Some f → (tail : Option Tail) (old new : Option World)
    → HasStarted {E = ⊤} place floor old (Ok tail) new → IfSome old (λ w. FilesHave w seen → seen.ctime <ℤ f) → StillThere seen old new
start_stays_there seen f place floor is (Some tail) None new file over = file.leaves
start_stays_there seen f place floor is (Some tail) (Some w) None file over = file.leaves
start_stays_there seen f place floor is (Some tail) (Some w) (Some n) file over = λ has.
    placed_has place file.at_floor file.text tail.check file.begins n (ap (λ (x : World). x.newer) file.leaves) seen
    (subst (λ x. seen.ctime <ℤ x) (some_one f file.at_floor (sym is ∙ file.floor_is)) (over has))
start_stays_there seen f place floor is None old new (inl (before, same)) over = same_there seen old new same
start_stays_there seen f place floor is None None new (inr file) over = file.leaves
start_stays_there seen f place floor is None (Some w) None (inr file) over = file.leaves
start_stays_there seen f place floor is None (Some w) (Some n) (inr file) over = λ has. by_place file.leaves has
  where
    lt : FilesHave w seen → seen.ctime <ℤ file.at_floor
    lt has = subst (λ x. seen.ctime <ℤ x) (some_one f file.at_floor (sym is ∙ file.floor_is)) (over has)

    by_place : IsLeft Anew file.text InPlace w n → FilesHave w seen → FilesHave n seen
    by_place (inl is) has = placed_has place file.at_floor file.text file.check file.begins n (ap (λ (x : World). x.newer) is) seen (lt has)
    by_place (inr is) has = placed_has place file.at_floor file.text file.check file.begins n (ap (λ (x : World). x.newer) is) seen (lt has)

pub failed_start_there : (seen : Seen) (place : Place) (floor : Option ℤ) (old new : Option World)
    → (left : Left) × IsUnlinked Anew left × MayFail place floor [] Anew left old new → StillThere seen old new
failed_start_there seen place floor old new (left, unlinked, failed) =
    fails_there seen place floor [] Anew left old new failed
    (λ file w n is has. unplaced_there Anew file.text left w n unlinked is seen has)
