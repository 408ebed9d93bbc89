-- What each call of a running server keeps, where the world is recorded.
use Rattle.std.proofs.Common.{◌≡◌, inl, inr, ℕ, ℤ, ◌<ℤ◌, true, false, List, [], Option, Some, None, Result, Ok, Err, refl, sym, ap, subst}
use Rattle.std.specs.Prelude.{IfSome, is_some, is_ok}
use Rattle.krb_fields.specs.declared.moment.Moment.{Moment}
use Rattle.replay.specs.declared.seen.Resumption.{Resumption}
use Rattle.replay.specs.declared.seen.Seen.{Seen}
use Rattle.std.specs.Prelude.{⊤}
use Rattle.journal.specs.Appending.{AppendsPart, BeginsFile, FoundBy, FoundIn, HasKeptOne, HasMended, HasTurned, MayFail, MayKeep, MayTurn, kept_by}
use Rattle.journal.specs.Keeping.{BeginsJournal, KeepsEntry, begun}
use Rattle.journal.specs.Decision.{Place}
use Rattle.journal.specs.Holding.{FilesHave, IsAbove, IsFound, IsKept, IsLacking, IsOver, IsRaised, IsSafe, IsWhole, kept_after, with_one}
use Rattle.journal.specs.declared.files.Part.{Part}
use Rattle.journal.specs.World.{file_in, HasPart, IsInPlace, IsLeft, IsRead, Leaves, World, with_file}
use Rattle.journal.specs.declared.decision.Found.{Found}
use Rattle.journal.specs.declared.decision.Found.TheVariants.{Nothing, Broken, Whole}
use Rattle.journal.specs.declared.files.Begun.{Begun}
use Rattle.journal.specs.declared.files.Begun.TheVariants.{Linked, Anew, Roomy}
use Rattle.journal.specs.declared.files.Left.{Left}
use Rattle.journal.specs.declared.files.Left.TheVariants.{Before, Between, InPlace}
use Rattle.journal.specs.declared.files.FileText.{FileText}
use Rattle.journal.specs.declared.files.FileText.TheVariants as texts
use Rattle.journal.specs.declared.journal_file.Tail.{Tail}
use Rattle.std.proofs.lemmas.List.Elements.{All-contains}
use Rattle.journal.proofs.Held.{rises_above, stays_above}
use Rattle.journal.proofs.Remaining.{longer_over, more_there, placed_has, placed_only, raised_over, turn_over, turn_there, unplaced_over, unplaced_there, whole_has, whole_over}
use Rattle.journal.proofs.Worlds.{longer_safe, turn_safe, unbegun_is_safe, whole_anew, whole_before, whole_one, whole_safe, whole_turned}

-- no world stays none
pub unrecorded : (new : Option World) (P : World → Type 0) → new ≡ None → IfSome new P
unrecorded new P is = subst (λ x. IfSome x P) (sym is) tt

-- nor what a failed call leaves of it
pub unrecorded_failed : (place : Place) (floor : Option ℤ) (link : List ℕ) (how : Begun) (left : Left) (P : World → Type 0) (new : Option World)
    → MayFail place floor link how left None new → IfSome new P
unrecorded_failed place floor link how left P new (inl (before, same)) = unrecorded new P same
unrecorded_failed place floor link how left P new (inr file) = unrecorded new P file.leaves

-- ---- nothing was done

pub same_part : (check : List ℕ) (at : Moment) (seen : Seen) (old new : Option World) → new ≡ old → AppendsPart check at seen old new
same_part check at seen old new same = inl same

pub part_left : (check : List ℕ) (at : Moment) (seen : Seen) (more next : List ℕ) (old new : Option World) → KeepsEntry check at seen more next
    → Leaves (HasPart more) old new → AppendsPart check at seen old new
part_left check at seen more next old new keeps left = inr (more, next, keeps, left)

-- ---- files take turns

turned : (low : ℤ) (all : Resumption) (place : Place) (floor : Option ℤ) (tail : Tail) (old : Option World) (next : Option Tail) (new : Option World)
    → HasTurned place floor tail old next new → IfSome old (λ w. IsWhole low all w tail.check floor) → IfSome new (λ w. IsKept low all all w next floor)
turned low all place floor tail None (Some next) new (inl (check, failed)) whole = unrecorded_failed _ _ _ _ _ _ new failed
turned low all place floor tail None (Some next) new (inr file) whole = unrecorded new _ file.leaves
turned low all place floor tail None None new (left, failed) whole = unrecorded_failed _ _ _ _ _ _ new failed
turned low all place floor tail (Some w) (Some next) new (inl (check, inl (before, same))) whole =
    subst (λ x. IfSome x (λ w. IsKept low all all w (Some next) floor)) (sym same) (refl, subst (λ c. IsWhole low all w c floor) (sym check) whole)
turned low all place floor tail (Some w) (Some next) None (inl (check, inr file)) whole = absurd file.leaves
turned low all place floor tail (Some w) (Some next) (Some n) (inl (check, inr file)) whole =
    (refl, subst (λ c. IsWhole low all n c floor) (sym check) (whole_before low all w tail.check floor whole file.text n file.leaves))
turned low all place floor tail (Some w) (Some next) None (inr file) whole = absurd file.leaves
turned low all place floor tail (Some w) (Some next) (Some n) (inr file) whole = (
  refl,
  subst (λ x. IsWhole low all x next.check floor) (sym file.leaves)
      (subst (λ o. IsWhole low all (with_file Linked file.text w) next.check o) (sym file.floor_is)
      (whole_turned low all w tail.check floor whole place file.at_floor file.floor_is file.text next.check file.begins)),
)
turned low all place floor tail (Some w) None new (left, inl (before, same)) whole =
    subst (λ x. IfSome x (λ n. IsKept low all all n None floor)) (sym same)
    (record {
      safe = whole_safe low all w tail.check floor whole;
      have = whole_has low all w tail.check floor whole;
      over = whole_over low all w tail.check floor whole;
      above_kept = whole.above_all_seen;
      above_all_seen = whole.above_all_seen;
    })
turned low all place floor tail (Some w) None None (left, inr file) whole = absurd file.leaves
turned low all place floor tail (Some w) None (Some n) (left, inr file) whole = record {
  safe = turn_safe low all w tail.check floor whole place file.at_floor file.text file.check left n file.floor_is file.begins file.leaves;
  have = λ seen has.
      turn_there low all w tail.check floor whole place file.at_floor file.floor_is file.text file.check file.begins left n file.leaves seen
      (whole_has low all w tail.check floor whole seen has);
  over = turn_over low all w tail.check floor whole place file.at_floor file.floor_is file.text file.check file.begins left n file.leaves;
  above_kept = whole.above_all_seen;
  above_all_seen = whole.above_all_seen;
}

pub turned_kept : (low : ℤ) (kept all : Resumption) (place : Place) (floor : Option ℤ) (tail : Option Tail) (old : Option World) (next : Option Tail) (new : Option World)
    → MayTurn place floor tail old next new → IfSome old (λ w. IsKept low kept all w tail floor) → IfSome new (λ w. IsKept low kept all w next floor)
turned_kept low kept all place floor None old next new (none, same) is =
    subst (λ x. IfSome x (λ w. IsKept low kept all w next floor)) (sym same) (subst (λ t. IfSome old (λ w. IsKept low kept all w t floor)) (sym none) is)
turned_kept low kept all place floor (Some tail) None next new step is = subst (λ k. IfSome new (λ w. IsKept low k all w next floor)) refl (none_kept next step)
  where
    none_kept : (next : Option Tail) → HasTurned place floor tail None next new → IfSome new (λ w. IsKept low kept all w next floor)
    none_kept (Some next) (inl (check, failed)) = unrecorded_failed _ _ _ _ _ _ new failed
    none_kept (Some next) (inr file) = unrecorded new _ file.leaves
    none_kept None (left, failed) = unrecorded_failed _ _ _ _ _ _ new failed
turned_kept low kept all place floor (Some tail) (Some w) next new step (same, whole) =
    subst (λ k. IfSome new (λ w. IsKept low k all w next floor)) (sym same) (turned low all place floor tail (Some w) next new step whole)

-- ---- one more authenticator

raised_above : (floor raised : Option ℤ) (r : Resumption) (seen : Seen) → IsRaised floor seen.ctime raised → IfSome floor (λ f. IsAbove f r)
    → IfSome raised (λ f. IsAbove f (with_one r seen))
raised_above floor None r seen rises is = tt
raised_above floor (Some f) r seen (g, at, same) is = subst (λ x. IsAbove x (with_one r seen)) (sym same) (rises_above g r seen (subst (λ o. IfSome o (λ f. IsAbove f r)) at is))

raised_still : (floor raised : Option ℤ) (r : Resumption) (seen : Seen) → IsRaised floor seen.ctime raised → IfSome floor (λ f. IsAbove f r)
    → IfSome raised (λ f. IsAbove f r)
raised_still floor None r seen rises is = tt
raised_still floor (Some f) r seen (g, at, same) is = subst (λ x. IsAbove x r) (sym same) (stays_above g r seen (subst (λ o. IfSome o (λ f. IsAbove f r)) at is))

appended : (low : ℤ) (all : Resumption) (at : Moment) (seen : Seen) (floor raised : Option ℤ) (rises : IsRaised floor seen.ctime raised) (tail : Tail)
    (w : World) (next : Option Tail) (new : Option World) → HasKeptOne at seen tail (Some w) next new → IsWhole low all w tail.check floor
    → IfSome new (λ n. IsKept low (kept_after next all (with_one all seen)) (with_one all seen) n next raised)
appended low all at seen floor raised rises tail w (Some next) None one whole = absurd one.leaves
appended low all at seen floor raised rises tail w (Some next) (Some n) one whole = (
  refl,
  subst (λ x. IsWhole low (with_one all seen) x next.check raised) (sym one.leaves)
      (whole_one low all w tail.check floor whole at seen one.more next.check one.keeps raised rises),
)
appended low all at seen floor raised rises tail w None new (inl same) whole =
    subst (λ x. IfSome x (λ n. IsKept low all (with_one all seen) n None raised)) (sym same)
    (record {
      safe = whole_safe low all w tail.check floor whole;
      have = whole_has low all w tail.check floor whole;
      over = raised_over floor raised seen w rises (whole_over low all w tail.check floor whole);
      above_kept = raised_still floor raised all seen rises whole.above_all_seen;
      above_all_seen = raised_above floor raised all seen rises whole.above_all_seen;
    })
appended low all at seen floor raised rises tail w None None (inr (more, next, keeps, left)) whole = absurd left
appended low all at seen floor raised rises tail w None (Some n) (inr (more, next, keeps, (part, rest, is, left))) whole = record {
  safe = subst (IsSafe low all) (sym left) (longer_safe low all w tail.check floor whole part);
  have = λ s has. subst (λ x. FilesHave x s) (sym left) (more_there w part s (whole_has low all w tail.check floor whole s has));
  over = subst (IsOver raised) (sym left) (longer_over low all w tail.check floor whole at seen more next part rest keeps is raised rises);
  above_kept = raised_still floor raised all seen rises whole.above_all_seen;
  above_all_seen = raised_above floor raised all seen rises whole.above_all_seen;
}

pub appended_kept : (low : ℤ) (kept all : Resumption) (at : Moment) (seen : Seen) (floor raised : Option ℤ) → IsRaised floor seen.ctime raised → (tail : Option Tail)
    (old : Option World) (next : Option Tail) (new : Option World) → MayKeep at seen tail old next new → IfSome old (λ w. IsKept low kept all w tail floor)
    → IfSome new (λ w. IsKept low (kept_after next kept (with_one all seen)) (with_one all seen) w next raised)
appended_kept low kept all at seen floor raised rises None old next new (none, same) is =
    subst (λ x. IfSome x (λ w. IsKept low (kept_after next kept (with_one all seen)) (with_one all seen) w next raised)) (sym same)
    (subst (λ t. IfSome old (λ w. IsKept low (kept_after t kept (with_one all seen)) (with_one all seen) w t raised)) (sym none) (still old is))
  where
    still : (old : Option World) → IfSome old (λ w. IsKept low kept all w None floor) → IfSome old (λ w. IsKept low kept (with_one all seen) w None raised)
    still None is = tt
    still (Some w) is = record {
      safe = is.safe;
      have = is.have;
      over = raised_over floor raised seen w rises is.over;
      above_kept = raised_still floor raised kept seen rises is.above_kept;
      above_all_seen = raised_above floor raised all seen rises is.above_all_seen;
    }
appended_kept low kept all at seen floor raised rises (Some tail) None next new step is = none_kept next step
  where
    none_kept : (next : Option Tail) → HasKeptOne at seen tail None next new → IfSome new (λ w. IsKept low (kept_after next kept (with_one all seen)) (with_one all seen) w next raised)
    none_kept (Some next) one = unrecorded new _ one.leaves
    none_kept None (inl same) = unrecorded new _ same
    none_kept None (inr (more, next, keeps, left)) = unrecorded new _ left
appended_kept low kept all at seen floor raised rises (Some tail) (Some w) next new step (same, whole) =
    subst (λ k. IfSome new (λ w. IsKept low (kept_after next k (with_one all seen)) (with_one all seen) w next raised)) (sym same)
    (appended low all at seen floor raised rises tail w next new step whole)

-- ---- another file in place of both

abbrev IsReplaced : Begun → Type 0
IsReplaced Linked = ⊥
IsReplaced Anew = ⊤
IsReplaced Roomy = ⊤

new_text : (how : Begun) → IsReplaced how → (text : List ℕ) (w n : World) → n ≡ with_file how text w → n.newer ≡ Some text
new_text Linked so text w n is = absurd so
new_text Anew so text w n is = ap (λ (x : World). x.newer) is
new_text Roomy so text w n is = ap (λ (x : World). x.newer) is

pub begun_over : (how : Begun) → IsReplaced how → (low : ℤ) (all : Resumption) (place : Place) (floor : Option ℤ) (next : Tail) (old new : Option World)
    → BeginsFile place floor [] how next.check old new → IfSome old (λ w. IfSome floor (λ f. IsAbove f all))
    → IfSome new (λ w. IsKept low all all w (Some next) floor)
begun_over how so low all place floor next None new file is = unrecorded new _ file.leaves
begun_over how so low all place floor next (Some w) None file is = absurd file.leaves
begun_over how so low all place floor next (Some w) (Some n) file is = (
  refl,
  subst (λ o. IsWhole low all n next.check o) (sym file.floor_is)
      (whole_anew low all n place file.at_floor file.text next.check (subst (λ o. IfSome o (λ f. IsAbove f all)) file.floor_is is) file.begins
      (new_text how so file.text w n file.leaves)),
)

pub begun_anew : (low : ℤ) (all : Resumption) (place : Place) (floor : Option ℤ) (next : Tail) (old new : Option World) → BeginsFile place floor [] Anew next.check old new
    → IfSome old (λ w. IfSome floor (λ f. IsAbove f all)) → IfSome new (λ w. IsKept low all all w (Some next) floor)
begun_anew = begun_over Anew tt

lacking_above : (low : ℤ) (kept all : Resumption) (floor : Option ℤ) (old : Option World) → IfSome old (λ w. IsLacking low kept all w floor)
    → IfSome old (λ w. IfSome floor (λ f. IsAbove f all))
lacking_above low kept all floor None is = tt
lacking_above low kept all floor (Some w) is = is.above_all_seen

in_place_text : (how : Begun) → IsReplaced how → (text : List ℕ) (w n : World) → IsInPlace how text w n → n.newer ≡ Some text
in_place_text Linked so text w n is = absurd so
in_place_text Anew so text w n (inl is) = ap (λ (x : World). x.newer) is
in_place_text Anew so text w n (inr is) = ap (λ (x : World). x.newer) is
in_place_text Roomy so text w n (inl is) = ap (λ (x : World). x.newer) is
in_place_text Roomy so text w n (inr is) = ap (λ (x : World). x.newer) is

pub in_place_lacks : (how : Begun) → IsReplaced how → (low : ℤ) (kept all : Resumption) (place : Place) (floor : Option ℤ) (f : ℤ) (text check : List ℕ) (w n : World)
    → floor ≡ Some f → BeginsJournal (begun place f []) text check → IsAbove f kept → IsAbove f all → IsInPlace how text w n → IsLacking low kept all n floor
in_place_lacks how so low kept all place floor f text check w n is begins above_kept above_all left = record {
  safe = whole_safe low kept n check (Some f) (whole_anew low kept n place f text check above_kept begins (in_place_text how so text w n left));
  have = λ seen has.
      placed_has place f text check begins n (in_place_text how so text w n left) seen
      (All-contains (λ (s : Seen). s.ctime <ℤ f) kept.seen seen above_kept.times_above has);
  over = subst (λ o. IsOver o n) (sym is) (λ seen has. placed_only place f text check begins n (in_place_text how so text w n left) seen has);
  above_kept = subst (λ o. IfSome o (λ f. IsAbove f kept)) (sym is) above_kept;
  above_all_seen = subst (λ o. IfSome o (λ f. IsAbove f all)) (sym is) above_all;
}

-- what a failed call leaves of a server that lacks something
mend_fails : (low : ℤ) (kept all : Resumption) (place : Place) (floor : Option ℤ) (left : Left) (w n : World) (f : ℤ) (text check : List ℕ)
    → floor ≡ Some f → BeginsJournal (begun place f []) text check → IsLeft Roomy text left w n → IsLacking low kept all w floor
    → IsLacking low kept all n floor
mend_fails low kept all place floor Before w n f text check is begins left lacks = record {
  safe = unbegun_is_safe low kept Roomy (begun place f []) text check Before w n begins refl tt lacks.safe left;
  have = λ seen has. unplaced_there Roomy text Before w n tt left seen (lacks.have seen has);
  over = unplaced_over Roomy text Before w n tt left floor lacks.over;
  above_kept = lacks.above_kept;
  above_all_seen = lacks.above_all_seen;
}
mend_fails low kept all place floor Between w n f text check is begins left lacks = record {
  safe = unbegun_is_safe low kept Roomy (begun place f []) text check Between w n begins refl tt lacks.safe left;
  have = λ seen has. unplaced_there Roomy text Between w n tt left seen (lacks.have seen has);
  over = unplaced_over Roomy text Between w n tt left floor lacks.over;
  above_kept = lacks.above_kept;
  above_all_seen = lacks.above_all_seen;
}
mend_fails low kept all place floor InPlace w n f text check is begins left lacks =
    in_place_lacks Roomy tt low kept all place floor f text check w n is begins
    (subst (λ o. IfSome o (λ f. IsAbove f kept)) is lacks.above_kept) (subst (λ o. IfSome o (λ f. IsAbove f all)) is lacks.above_all_seen) left

pub mended_kept : (low : ℤ) (kept all : Resumption) (place : Place) (floor : Option ℤ) (old : Option World) (next : Option Tail) (new : Option World)
    → HasMended place floor old next new → IfSome old (λ w. IsLacking low kept all w floor) → IfSome new (λ w. IsKept low (kept_after next kept all) all w next floor)
mended_kept low kept all place floor old (Some next) new file is = begun_over Roomy tt low all place floor next old new file (lacking_above low kept all floor old is)
mended_kept low kept all place floor None None new (left, failed) is = unrecorded_failed _ _ _ _ _ _ new failed
mended_kept low kept all place floor (Some w) None new (left, inl (before, same)) is =
    subst (λ x. IfSome x (λ n. IsKept low kept all n None floor)) (sym same) is
mended_kept low kept all place floor (Some w) None None (left, inr file) is = absurd file.leaves
mended_kept low kept all place floor (Some w) None (Some n) (left, inr file) is =
    mend_fails low kept all place floor left w n file.at_floor file.text file.check file.floor_is file.begins file.leaves is

-- a journal that has kept all stays as it is
pub whole_stays : (low : ℤ) (kept all : Resumption) (tail : Option Tail) (floor : Option ℤ) (w : Option World) → is_some tail ≡ true
    → IfSome w (λ w. IsKept low kept all w tail floor) → IfSome w (λ w. IsKept low all all w tail floor)
whole_stays low kept all None floor w there is = absurd cc
whole_stays low kept all (Some tail) floor None there is = tt
whole_stays low kept all (Some tail) floor (Some w) there (same, whole) = (refl, whole)

pub none_lacks : (low : ℤ) (kept all : Resumption) (tail : Option Tail) (floor : Option ℤ) (w : Option World) → is_some tail ≡ false
    → IfSome w (λ w. IsKept low kept all w tail floor) → IfSome w (λ w. IsLacking low kept all w floor)
none_lacks low kept all (Some tail) floor w there is = absurd cc
none_lacks low kept all None floor w there is = is

-- what is kept after two calls, if the second succeeds where the first did
pub kept_twice : {T E : Type 0} (first : Option Tail) (r : Result T E) (kept all : Resumption) → (is_some first ≡ true → is_ok r ≡ true)
    → kept_by r (kept_after first kept all) all ≡ kept_by r kept all
kept_twice first (Ok done) kept all so = refl
kept_twice None (Err fault) kept all so = refl
kept_twice (Some tail) (Err fault) kept all so = absurd (false_true (so refl))
  where
    false_true : false ≡ true → ⊥
    false_true e = absurd cc

-- ---- what is found

pub is_found : (file : Option (List ℕ)) (text : FileText) (found : Found) → IsRead file text → FoundBy text found → IsFound file found
is_found None texts.Nothing found read by = (Nothing, tt, by)
is_found None texts.Unusable found read by = absurd read
is_found None (texts.Octets octets) found read by = absurd read
is_found (Some text) texts.Nothing found read by = absurd read
is_found (Some text) texts.Unusable found read by = (Broken None, tt, by)
is_found (Some text) (texts.Octets octets) found read by = subst (λ t. IsFound (Some t) found) read (in_text found by)
  where
    in_text : (found : Found) → FoundIn octets.items found → IsFound (Some octets.items) found
    in_text Nothing by = absurd by
    in_text (Broken lost) by = (Broken lost, tt, refl)
    in_text (Whole j) (all, s, is) = (Whole all, s, ap (λ k. Whole k) is)

pub found_where : (w : Option World) (part : Part) (text : FileText) (found : Found) → IfSome w (λ w. IsRead (file_in part w) text) → FoundBy text found
    → IfSome w (λ w. IsFound (file_in part w) found)
found_where None part text found read by = tt
found_where (Some w) part text found read by = is_found (file_in part w) text found read by
