-- A start that refuses has a floor above each authenticator that the files still show.
use Rattle.std.proofs.Common.{◌≡◌, inl, inr, ◌<◌, ◌+◌, ℕ, ℤ, pos, ◌+ℤ◌, ◌<ℤ◌, Bool, true, false, List, [], ◌∷◌, ◌++◌, Option, Some, None, refl, sym, ap, subst, ◌∙◌, arith, zero, suc}
use Rattle.std.specs.Prelude.{Contains, nat_lt}
use Rattle.std.specs.Int.{int_max}
use Rattle.std.specs.Option.{IsSomeAnd}
use Rattle.std.proofs.lemmas.Int.{ints, clamps}
use Rattle.krb_elements.specs.Codec.{written}
use Rattle.journal.specs.Appending.{FoundIn}
use Rattle.journal.specs.Decision.{Place, above, above_all, came, doubt_of, floor_since, found_floor, greater, last_second, start_by, start_of, shown_by}
use Rattle.journal.specs.Forms.{Entry, Header, entry, header}
use Rattle.journal.specs.Life.{FilesShow, IsReadOut, ShowsEntry, ShownIsRefused}
use Rattle.journal.specs.Showing.{AreFrom, StandsAt, Shows, Shown, IsHead, behind_head, element_length, entry_floor, floor_with, head_floor}
use Rattle.journal.specs.Texts.{checked}
use Rattle.journal.proofs.Held.{all_stays, lt_le, one_above}
use Rattle.journal.specs.World.{World}
use Rattle.journal.specs.declared.decision.ResumeRefusal.{ResumeRefusal}
use Rattle.journal.specs.declared.decision.Found.{Found}
use Rattle.journal.specs.declared.decision.Found.TheVariants.{Nothing, Broken, Whole}
use Rattle.journal.specs.declared.decision.Start.{Start}
use Rattle.journal.specs.declared.decision.Start.TheVariants.{Resumes, Refuses}
use Rattle.journal.specs.declared.reading.Journal.{Journal}
use Rattle.journal.proofs.Fronts.{one_checked, one_journal, one_value}
use Rattle.journal.proofs.Walks.{cut_here}

-- ---- a text shows one thing

pub stands_one : (text : List ℕ) (place : ℕ) (e x : Entry) → StandsAt text place e → StandsAt text place x → e ≡ x
stands_one text place e x a b =
    let (after, has, is) = cut_here text a.front a.before (checked a.before (written entry e) ++ a.rest) place x a.text_is a.place_is a.sixteen b in
    one_value entry e x a.has.0 has.0 (one_checked a.before a.before (written entry e) (written entry x) a.rest after a.has.1 has.1 is).0

pub one_place : (p q : ℕ) → (p < q → ⊥) → (q < p → ⊥) → p ≡ q
one_place p q a b = by_test (nat_lt p q) (nat_lt q p) refl refl
  where
    by_test : (s t : Bool) → nat_lt p q ≡ s → nat_lt q p ≡ t → p ≡ q
    by_test true t is so = absurd (a (grind (arith)))
    by_test false true is so = absurd (b (grind (arith)))
    by_test false false is so = grind (arith)

from_one : (text : List ℕ) (n : ℕ) (es xs : List Entry) → AreFrom text n es → AreFrom text n xs → es ≡ xs
unfolding AreFrom
from_one text n [] [] a b = refl
from_one text n [] (x ∷ xs) a (q, le, free, stands, rest) = absurd (a q le x stands)
from_one text n (e ∷ es) [] (p, le, free, stands, rest) b = absurd (b p le e stands)
from_one text n (e ∷ es) (x ∷ xs) (p, le, free, stands, rest) (q, at, none, there, others) =
    let place : p ≡ q = one_place p q (λ lt. none p le lt e stands) (λ lt. free q at lt x there) in
    let same : e ≡ x = stands_one text q e x (subst (λ n. StandsAt text n e) place stands) there in
    ap (λ y. y ∷ es) same
    ∙ ap (λ l. x ∷ l) (from_one text (q + element_length (written entry x)) es xs
    (subst (λ (y : Entry). AreFrom text (q + element_length (written entry y)) es) same
    (subst (λ n. AreFrom text (n + element_length (written entry e)) es) place rest)) others)

pub head_one : (text : List ℕ) (a b : Option Header) → IsHead text a → IsHead text b → a ≡ b
head_one text None None a b = refl
head_one text None (Some k) a b = absurd (a k b)
head_one text (Some h) None a b = absurd (b h a)
head_one text (Some h) (Some k) a b =
    ap (λ x. Some x)
    (one_value header h k a.has.0 b.has.0
    (one_checked h.link k.link (written header h) (written header k) a.rest b.rest a.has.1 b.has.1 (sym a.text_is ∙ b.text_is)).0)

tells_one : (text : List ℕ) (a b : Shown) → Shows text a → Shows text b → a ≡ b
tells_one text a b x y =
    let head : a.head ≡ b.head = head_one text a.head b.head x.head y.head in
    let entries : a.entries ≡ b.entries =
    from_one text (behind_head b.head) a.entries b.entries (subst (λ h. AreFrom text (behind_head h) a.entries) head x.entries) y.entries in
    λ i. record { head = head i; entries = entries i }

-- ---- and its floor is above all of that

over_max : (c a b : ℤ) → c <ℤ a → c <ℤ int_max a b
over_max c a b lt = grind (arith, ints, clamps)

over_other : (c a b : ℤ) → c <ℤ b → c <ℤ int_max a b
over_other c a b lt = grind (arith, ints, clamps)

pub over_first : (c : ℤ) (a b : Option ℤ) → IsSomeAnd a (λ f. c <ℤ f) → IsSomeAnd (greater a b) (λ f. c <ℤ f)
over_first c None b over = absurd over
over_first c (Some f) None over = over
over_first c (Some f) (Some g) over = over_max c f g over

pub over_second : (c : ℤ) (a b : Option ℤ) → IsSomeAnd b (λ f. c <ℤ f) → IsSomeAnd (greater a b) (λ f. c <ℤ f)
over_second c None b over = over
over_second c (Some f) None over = absurd over
over_second c (Some f) (Some g) over = over_other c f g over

pub over_since : (c floor second : ℤ) → c <ℤ floor → c <ℤ last_second → c <ℤ floor_since floor second
over_since c floor second lt early = grind (arith, ints, clamps)

pub over_one : (c : ℤ) → c <ℤ (c +ℤ pos 1)
over_one c = grind (arith, ints)

pub over_with : (c : ℤ) (floor : Option ℤ) (es : List Entry) → IsSomeAnd floor (λ f. c <ℤ f)
    → IsSomeAnd (floor_with floor es) (λ f. c <ℤ f)
over_with c floor [] over = over
over_with c floor (e ∷ es) over = over_with c (greater floor (Some (entry_floor e))) es (over_first c floor (Some (entry_floor e)) over)

over_entry : (floor : Option ℤ) (es : List Entry) (e : Entry) → Contains es e → e.ctime <ℤ last_second
    → IsSomeAnd (floor_with floor es) (λ f. e.ctime <ℤ f)
over_entry floor [] e (k, lt, is) early = absurd (omega (arith, lt))
over_entry floor (x ∷ xs) e (zero, lt, is) early =
    over_with e.ctime (greater floor (Some (entry_floor x))) xs
    (over_second e.ctime floor (Some (entry_floor x))
    (subst (λ (y : Entry). e.ctime <ℤ entry_floor y) (sym is) (over_since e.ctime (e.ctime +ℤ pos 1) (came e) (over_one e.ctime) early)))
over_entry floor (x ∷ xs) e (suc k, lt, is) early = over_entry (greater floor (Some (entry_floor x))) xs e (k, omega (arith, lt), is) early

over_journal : (floor : ℤ) (es : List Entry) (e : Entry) → Contains es e → e.ctime <ℤ above_all floor es
over_journal floor [] e (k, lt, is) = absurd (omega (arith, lt))
over_journal floor (x ∷ xs) e (zero, lt, is) =
    lt_le e.ctime (above floor x.ctime) (above_all (above floor x.ctime) xs)
    (subst (λ (y : Entry). e.ctime <ℤ above floor y.ctime) (sym is) (one_above floor e.ctime)) (all_stays (above floor x.ctime) xs)
over_journal floor (x ∷ xs) e (suc k, lt, is) = over_journal (above floor x.ctime) xs e (k, omega (arith, lt), is)

-- ---- of each file, and of all three

module _ (e : Entry) (early : e.ctime <ℤ last_second) where
  over_text : (text : List ℕ) (found : Found) → FoundIn text found → ShowsEntry text e
      → IsSomeAnd (shown_by found) (λ f. e.ctime <ℤ f)
  over_text text Nothing found shows = absurd found
  over_text text (Broken floor) (none, shown, shows, is) (inl (j, spells, has)) = absurd (none j spells)
  over_text text (Broken floor) (none, shown, shows, is) (inr (not, other, others, has)) =
      subst (λ o. IsSomeAnd o (λ f. e.ctime <ℤ f)) (sym is)
      (over_entry (head_floor shown.head) shown.entries e (subst (λ (t : Shown). Contains t.entries e) (tells_one text other shown others shows) has) early)
  over_text text (Whole k) (all, spells, is) (inl (j, other, has)) =
      subst (λ (x : Journal). e.ctime <ℤ floor_since x.high x.latest) (sym is)
      (over_since e.ctime all.high all.latest
      (subst (λ h. e.ctime <ℤ h) (sym spells.sums.high_is)
      (over_journal all.header.floor all.entries e (subst (λ (x : Journal). Contains x.entries e) (one_journal text all j spells other) has))) early)
  over_text text (Whole k) (all, spells, is) (inr (not, other, others, has)) = absurd (not all spells)

  over_file : (file : Option (List ℕ)) (found : Found) → IsReadOut file found
      → IsSomeAnd file (λ text. ShowsEntry text e)
      → IsSomeAnd (shown_by found) (λ f. e.ctime <ℤ f)
  over_file None found read shows = absurd shows
  over_file (Some text) found read shows = over_text text found read shows

  over_all : (w : World) (older newer beside : Found) → IsReadOut w.older older → IsReadOut w.newer newer
      → IsReadOut w.beside beside → FilesShow w e
      → IsSomeAnd (found_floor older newer beside) (λ f. e.ctime <ℤ f)
  over_all w older newer beside o n b (inl shows) =
      over_first e.ctime (shown_by older) (greater (shown_by newer) (shown_by beside)) (over_file w.older older o shows)
  over_all w older newer beside o n b (inr (inl shows)) =
      over_second e.ctime (shown_by older) (greater (shown_by newer) (shown_by beside))
      (over_first e.ctime (shown_by newer) (shown_by beside) (over_file w.newer newer n shows))
  over_all w older newer beside o n b (inr (inr shows)) =
      over_second e.ctime (shown_by older) (greater (shown_by newer) (shown_by beside))
      (over_second e.ctime (shown_by newer) (shown_by beside) (over_file w.beside beside b shows))

abbrev floor_or : Option ℤ → Start → Option ℤ
floor_or otherwise (Resumes found check) = otherwise
floor_or otherwise (Refuses doubt floor) = floor

pub refused_floor : (place : Place) (older newer beside : Found) (doubt : ResumeRefusal) (floor : Option ℤ)
    → start_of place older newer beside ≡ Refuses doubt floor
    → found_floor older newer beside ≡ floor
refused_floor place older Nothing beside doubt floor is = ap (floor_or floor) is
refused_floor place older (Broken lost) beside doubt floor is = ap (floor_or floor) is
refused_floor place older (Whole j) beside doubt floor is = by_doubt (doubt_of place older j) is
  where
    by_doubt : (d : Option ResumeRefusal) → start_by place older j beside d ≡ Refuses doubt floor
        → found_floor older (Whole j) beside ≡ floor
    by_doubt (Some why) is = ap (floor_or floor) is
    by_doubt None is = absurd cc

pub shown_is_refused : ShownIsRefused
shown_is_refused w place older newer beside doubt floor o n b refuses e shows early =
    subst (λ f. IsSomeAnd f (λ x. e.ctime <ℤ x)) (refused_floor place older newer beside doubt floor refuses)
    (over_all e early w older newer beside o n b shows)
