-- What the files of a journal still have, whichever calls on them fail.
use Rattle.std.proofs.Common.{◌≡◌, inl, inr, ℕ, ℤ, ◌<ℤ◌, true, List, [], ◌++◌, Option, Some, None, option_map, refl, sym, ap, subst, ◌∙◌, append_assoc, arith}
use Rattle.std.specs.Prelude.{Contains, IfSome, nat_eq}
use Rattle.std.specs.Cmp.Lexicographic.{pointwise}
use Rattle.std.proofs.lemmas.Int.{ints, clamps}
use Rattle.std.proofs.lemmas.List.{append-nil}
use Rattle.std.proofs.lemmas.List.Elements.{All-contains}
use Rattle.krb_fields.specs.declared.moment.Moment.{Moment}
use Rattle.replay.specs.declared.seen.Resumption.{Resumption}
use Rattle.replay.specs.declared.seen.Seen.{Seen}
use Rattle.journal.specs.Decision.{Place, above, above_all, entries_behind, floor_behind, is_above, is_behind, latest_of}
use Rattle.journal.specs.Forms.{Entry, Header}
use Rattle.journal.specs.Holding.{FileHas, FilesHave, HoldsOn, IsAbove, IsFound, IsHeld, IsOver, IsRaised, IsUnlinked, IsWhole, KeptIsThere, Spells, TextHas, held_in, with_one}
use Rattle.journal.specs.Keeping.{BeginsJournal, KeepsEntry, begun}
use Rattle.journal.specs.Texts.{HasHeader, HaveElements, header_check, journal_text, last_check}
use Rattle.journal.specs.World.{HasBeside, IsLeft, World, finished, older_left, roomier, with_file, with_more}
use Rattle.journal.specs.declared.decision.Found.TheVariants.{Nothing, Whole}
use Rattle.journal.specs.declared.files.Begun.{Begun}
use Rattle.journal.specs.declared.files.Begun.TheVariants.{Linked, Anew, Roomy}
use Rattle.journal.specs.declared.files.Left.{Left}
use Rattle.journal.specs.declared.files.Left.TheVariants.{Before, Between, InPlace}
use Rattle.journal.specs.declared.reading.Journal.{Journal}
use Rattle.journal.proofs.Fronts.{onward}
use Rattle.journal.proofs.Held.{below_high, fresh, held_alone, held_more, second_of, spells_fresh, test_above}
use Rattle.journal.proofs.Worlds.{finished_is_safe, found_none, kept_is_safe, spelled_sums, text_found, unbegun_is_safe, whole_found, whole_one}

-- ---- a text that begins as a journal

-- with anything at its end
has_more : (text more : List ℕ) (seen : Seen) → TextHas text seen → TextHas (text ++ more) seen
has_more text more seen has = record {
  header = has.header;
  entries = has.entries;
  rest = has.rest ++ more;
  text_is = ap (λ t. t ++ more) has.text_is ∙ append_assoc (journal_text has.header has.entries) has.rest more;
  has_header = has.has_header;
  have_elements = has.have_elements;
  held = has.held;
}

abbrev journal_with : Header → List Entry → Journal
journal_with h es = record {
  header = h;
  entries = es;
  check = last_check (header_check h) es;
  latest = latest_of h.at es;
  high = above_all h.floor es;
}

spells_it : (h : Header) (es : List Entry) → HasHeader h → HaveElements es → Spells (journal_text h es) (journal_with h es)
spells_it h es header elements = record {
  text_is = refl;
  check_is = refl;
  has_header = header;
  have_elements = elements;
  sums = record { latest_is = refl; high_is = refl };
}

-- so a whole journal has what its text has, and the other way round
pub has_spelled : (text : List ℕ) (j : Journal) (seen : Seen) → Spells text j → TextHas text seen → IsHeld j.header.floor j.entries seen
has_spelled text j seen spells has =
    let on = onward (journal_text has.header has.entries) has.rest (journal_with has.header has.entries) j
    (spells_it has.header has.entries has.has_header has.have_elements) (subst (λ t. Spells t j) has.text_is spells) in
    subst (λ (h : Header). IsHeld h.floor j.entries seen) (sym on.header_is)
    (subst (λ es. IsHeld has.header.floor es seen) (sym on.entries_are) (held_more has.header.floor has.entries on.others seen has.held))

pub spelled_has : (text : List ℕ) (j : Journal) (seen : Seen) → Spells text j → IsHeld j.header.floor j.entries seen → TextHas text seen
spelled_has text j seen spells held = record {
  header = j.header;
  entries = j.entries;
  rest = [];
  text_is = spells.text_is ∙ sym (append-nil (journal_text j.header j.entries));
  has_header = spells.has_header;
  have_elements = spells.have_elements;
  held = held;
}

-- a file that was begun has what its floor is above, and nothing else
module _ (place : Place) (f : ℤ) (link text check : List ℕ) (begins : BeginsJournal (begun place f link) text check) (seen : Seen) where
  fresh_has : seen.ctime <ℤ f → TextHas text seen
  fresh_has lt = spelled_has text (fresh place f link) seen (spells_fresh place f link text check begins) (inl lt)

  fresh_only : TextHas text seen → seen.ctime <ℤ f
  fresh_only has = by_held (has_spelled text (fresh place f link) seen (spells_fresh place f link text check begins) has)
    where
      by_held : IsHeld f [] seen → seen.ctime <ℤ f
      by_held (inl lt) = lt
      by_held (inr (k, lt, is)) = absurd (omega (arith, lt))

-- ---- files

none_some : {A : Type 0} (x : A) → None ≡ Some x → ⊥
none_some x is = absurd cc

newer_has : (w : World) (text : List ℕ) (seen : Seen) → w.newer ≡ Some text → TextHas text seen → FilesHave w seen
newer_has w text seen is has = inl (subst (FileHas seen) (sym is) has)

pub has_newer : (w : World) (text : List ℕ) (seen : Seen) → w.newer ≡ Some text → FilesHave w seen → TextHas text seen
has_newer w text seen is (inl has) = subst (FileHas seen) is has
has_newer w text seen is (inr (none, has)) = absurd (none_some text (sym none ∙ is))

-- the same two files
same_files : (w n : World) (seen : Seen) → n.newer ≡ w.newer → n.older ≡ w.older → FilesHave w seen → FilesHave n seen
same_files w n seen newer older (inl has) = inl (subst (FileHas seen) (sym newer) has)
same_files w n seen newer older (inr (none, has)) = inr (newer ∙ none, subst (FileHas seen) (sym older) has)

-- another one beside them
module _ (text : List ℕ) (w n : World) (seen : Seen) where
  beside_newer : HasBeside text w n → n.newer ≡ w.newer
  beside_newer (inl same) = ap (λ (x : World). x.newer) same
  beside_newer (inr (inl gone)) = ap (λ (x : World). x.newer) gone
  beside_newer (inr (inr (part, rest, is, there))) = ap (λ (x : World). x.newer) there

  beside_older : HasBeside text w n → n.older ≡ w.older
  beside_older (inl same) = ap (λ (x : World). x.older) same
  beside_older (inr (inl gone)) = ap (λ (x : World). x.older) gone
  beside_older (inr (inr (part, rest, is, there))) = ap (λ (x : World). x.older) there

  pub beside_there : HasBeside text w n → FilesHave w seen → FilesHave n seen
  beside_there left has = same_files w n seen (beside_newer left) (beside_older left) has

  beside_before : HasBeside text w n → FilesHave n seen → FilesHave w seen
  beside_before left has = same_files n w seen (sym (beside_newer left)) (sym (beside_older left)) has

-- more room
module _ (w : World) (seen : Seen) where
  abbrev with_room : Option (List ℕ) → World
  with_room newer = record { newer = newer; older = older_left newer w.older; beside = w.beside; seal = w.seal }

  abbrev with_own : Option (List ℕ) → World
  with_own newer = record { newer = newer; older = w.older; beside = w.beside; seal = w.seal }

  room_by : (newer : Option (List ℕ)) → FilesHave (with_own newer) seen → FilesHave (with_room newer) seen
  room_by (Some text) has = newer_has (with_room (Some text)) text seen refl (has_newer (with_own (Some text)) text seen refl has)
  room_by None has = has

  unroom_by : (newer : Option (List ℕ)) → FilesHave (with_room newer) seen → FilesHave (with_own newer) seen
  unroom_by (Some text) has = newer_has (with_own (Some text)) text seen refl (has_newer (with_room (Some text)) text seen refl has)
  unroom_by None has = has

  room_there : FilesHave w seen → FilesHave (roomier w) seen
  room_there has = room_by w.newer has

  room_before : FilesHave (roomier w) seen → FilesHave w seen
  room_before has = unroom_by w.newer has

-- something at the end of the newer one
pub more_there : (w : World) (part : List ℕ) (seen : Seen) → FilesHave w seen → FilesHave (with_more w part) seen
more_there w part seen has = by_newer w.newer refl has
  where
    with_part : Option (List ℕ) → World
    with_part newer = with_more (record w { newer = newer }) part

    by_newer : (newer : Option (List ℕ)) → w.newer ≡ newer → FilesHave (record w { newer = newer }) seen → FilesHave (with_part newer) seen
    by_newer (Some text) is has =
        newer_has (with_part (Some text)) (text ++ part) seen refl (has_more text part seen (has_newer (record w { newer = Some text }) text seen refl has))
    by_newer None is (inl has) = absurd has
    by_newer None is (inr (none, has)) = inr (refl, has)

-- ---- a floor that is raised

less_raised : (ctime g other : ℤ) → ctime <ℤ g → ctime <ℤ above g other
less_raised ctime g other lt = grind (arith, ints, clamps)

pub raised_over : (floor raised : Option ℤ) (seen : Seen) (w : World) → IsRaised floor seen.ctime raised → IsOver floor w → IsOver raised w
raised_over floor None seen w rises over = tt
raised_over floor (Some f) seen w (g, is, same) over =
    λ s has. subst (λ x. s.ctime <ℤ x) (sym same) (less_raised s.ctime g seen.ctime (subst (λ o. IsOver o w) is over s has))

-- ---- a whole journal

module _ (low : ℤ) (all : Resumption) (w : World) (check : List ℕ) (floor : Option ℤ) (whole : IsWhole low all w check floor) where
  abbrev j : Journal
  j = whole.newer

  pub whole_has : (seen : Seen) → Contains all.seen seen → FilesHave w seen
  whole_has seen has =
      let (older, o, linked) = whole.linked in
      let hold = whole.hold older o linked in
      newer_has w whole.text seen whole.newer_is
      (spelled_has whole.text j seen whole.spells
      (held_alone older j (spelled_sums w.older older o) linked seen
      (All-contains (IsHeld (floor_behind j older) (entries_behind j older)) all.seen seen hold.seen has)))

  below_floor : (f : ℤ) → IsAbove f (held_in j) → (seen : Seen) → TextHas whole.text seen → seen.ctime <ℤ f
  below_floor f a seen has = below_high f j seen a (has_spelled whole.text j seen whole.spells has)

  pub whole_over : IsOver floor w
  whole_over = by_floor floor whole.above_newer
    where
      by_floor : (f : Option ℤ) → IfSome f (λ f. IsAbove f (held_in j)) → IsOver f w
      by_floor None a = tt
      by_floor (Some f) a = λ seen has. below_floor f a seen (has_newer w whole.text seen whole.newer_is has)

  -- ---- it takes turns

  module _ (place : Place) (f : ℤ) (floor_is : floor ≡ Some f) (text next : List ℕ) (begins : BeginsJournal (begun place f check) text next) where
    abbrev between : World
    between = record { newer = None; older = w.newer; beside = Some text; seal = w.seal }

    above_it : IsAbove f (held_in j)
    above_it = subst (λ o. IfSome o (λ f. IsAbove f (held_in j))) floor_is whole.above_newer

    between_there : (seen : Seen) → FilesHave w seen → FilesHave between seen
    between_there seen has = inr (refl, subst (FileHas seen) (sym whole.newer_is) (has_newer w whole.text seen whole.newer_is has))

    between_before : (seen : Seen) → FilesHave between seen → TextHas whole.text seen
    between_before seen (inl has) = absurd has
    between_before seen (inr (none, has)) = subst (FileHas seen) whole.newer_is has

    pub turned_there : (seen : Seen) → FilesHave w seen → FilesHave (with_file Linked text w) seen
    turned_there seen has =
        newer_has (with_file Linked text w) text seen refl
        (fresh_has place f check text next begins seen (below_floor f above_it seen (has_newer w whole.text seen whole.newer_is has)))

    turned_only : (seen : Seen) → FilesHave (with_file Linked text w) seen → seen.ctime <ℤ f
    turned_only seen has = fresh_only place f check text next begins seen (has_newer (with_file Linked text w) text seen refl has)

    pub turn_there : (left : Left) (new : World) → IsLeft Linked text left w new → (seen : Seen) → FilesHave w seen → FilesHave new seen
    turn_there Before new left seen has = beside_there text w new seen left has
    turn_there Between new left seen has = subst (λ n. FilesHave n seen) (sym left) (between_there seen has)
    turn_there InPlace new left seen has = subst (λ n. FilesHave n seen) (sym left) (turned_there seen has)

    pub turn_over : (left : Left) (new : World) → IsLeft Linked text left w new → IsOver floor new
    turn_over left new is = subst (λ o. IsOver o new) (sym floor_is) (by_left left is)
      where
        by_left : (left : Left) → IsLeft Linked text left w new → IsOver (Some f) new
        by_left Before left = λ seen has. below_floor f above_it seen (has_newer w whole.text seen whole.newer_is (beside_before text w new seen left has))
        by_left Between left = λ seen has. below_floor f above_it seen (between_before seen (subst (λ n. FilesHave n seen) left has))
        by_left InPlace left = λ seen has. turned_only seen (subst (λ n. FilesHave n seen) left has)

-- ---- a part of one more entry at its end

module _ (low : ℤ) (all : Resumption) (w : World) (check : List ℕ) (floor : Option ℤ) (whole : IsWhole low all w check floor) where
  pub longer_over : (at : Moment) (seen : Seen) (more next part rest : List ℕ) → KeepsEntry check at seen more next → more ≡ part ++ rest
      → (raised : Option ℤ) → IsRaised floor seen.ctime raised → IsOver raised (with_more w part)
  longer_over at seen more next part rest keeps is raised rises =
      by_raised raised (whole_over low (with_one all seen) (with_more w more) next raised
      (whole_one low all w check floor whole at seen more next keeps raised rises))
    where
      longer : (s : Seen) → FilesHave (with_more w part) s → FilesHave (with_more w more) s
      longer s has =
          let here : (with_more w part).newer ≡ Some (whole.text ++ part) = ap (λ o. option_map (λ front. front ++ part) o) whole.newer_is in
          let there : (with_more w more).newer ≡ Some (whole.text ++ more) = ap (λ o. option_map (λ front. front ++ more) o) whole.newer_is in
          let text : (whole.text ++ part) ++ rest ≡ whole.text ++ more = append_assoc whole.text part rest ∙ ap (λ t. whole.text ++ t) (sym is) in
          newer_has (with_more w more) (whole.text ++ more) s there
          (subst (λ t. TextHas t s) text (has_more (whole.text ++ part) rest s (has_newer (with_more w part) (whole.text ++ part) s here has)))

      by_raised : (o : Option ℤ) → IsOver o (with_more w more) → IsOver o (with_more w part)
      by_raised None over = tt
      by_raised (Some f) over = λ s has. over s (longer s has)

-- ---- a file in place of both

module _ (place : Place) (f : ℤ) (text check : List ℕ) (begins : BeginsJournal (begun place f []) text check) (n : World) (is : n.newer ≡ Some text) where
  pub placed_has : (seen : Seen) → seen.ctime <ℤ f → FilesHave n seen
  placed_has seen lt = newer_has n text seen is (fresh_has place f [] text check begins seen lt)

  pub placed_only : (seen : Seen) → FilesHave n seen → seen.ctime <ℤ f
  placed_only seen has = fresh_only place f [] text check begins seen (has_newer n text seen is has)

-- before it is in place
pub unplaced_there : (how : Begun) (text : List ℕ) (left : Left) (w n : World) → IsUnlinked how left → IsLeft how text left w n → (seen : Seen)
    → FilesHave w seen → FilesHave n seen
unplaced_there Linked text left w n un is seen has = absurd un
unplaced_there Anew text Before w n un is seen has = beside_there text w n seen is has
unplaced_there Anew text Between w n un is seen has = beside_there text w n seen is has
unplaced_there Anew text InPlace w n un is seen has = absurd un
unplaced_there Roomy text Before w n un is seen has = beside_there text w n seen is has
unplaced_there Roomy text Between w n un is seen has = beside_there text (roomier w) n seen is (room_there w seen has)
unplaced_there Roomy text InPlace w n un is seen has = absurd un

pub unplaced_before : (how : Begun) (text : List ℕ) (left : Left) (w n : World) → IsUnlinked how left → IsLeft how text left w n → (seen : Seen)
    → FilesHave n seen → FilesHave w seen
unplaced_before Linked text left w n un is seen has = absurd un
unplaced_before Anew text Before w n un is seen has = beside_before text w n seen is has
unplaced_before Anew text Between w n un is seen has = beside_before text w n seen is has
unplaced_before Anew text InPlace w n un is seen has = absurd un
unplaced_before Roomy text Before w n un is seen has = beside_before text w n seen is has
unplaced_before Roomy text Between w n un is seen has = room_before w seen (beside_before text (roomier w) n seen is has)
unplaced_before Roomy text InPlace w n un is seen has = absurd un

pub unplaced_over : (how : Begun) (text : List ℕ) (left : Left) (w n : World) → IsUnlinked how left → IsLeft how text left w n → (floor : Option ℤ)
    → IsOver floor w → IsOver floor n
unplaced_over how text left w n un is None over = tt
unplaced_over how text left w n un is (Some f) over = λ seen has. over seen (unplaced_before how text left w n un is seen has)

-- ---- a turn that was cut is finished

pub finished_there : (w : World) (before j : Journal) (seen : Seen) → IsFound w.older (Whole before) → IsFound w.newer Nothing → IsFound w.beside (Whole j)
    → is_behind j before ≡ true → FilesHave w seen → FilesHave (finished w) seen
finished_there w before j seen o n b behind has =
    let (earlier, so, is) = whole_found w.older before o in
    let (later, sb, same) = whole_found w.beside j b in
    let (text, there, spells) = text_found w.older earlier so in
    let (next, beside, spelled) = text_found w.beside later sb in
    let old = older_has text there has in
    let lt = below_high later.header.floor earlier seen
    (test_above later earlier spells.sums (behind_above later earlier
    (subst (λ (x : Journal). is_behind x earlier ≡ true) same (subst (λ (x : Journal). is_behind j x ≡ true) is behind))))
    (has_spelled text earlier seen spells old) in
    newer_has (finished w) next seen beside (spelled_has next later seen spelled (inl lt))
  where
    older_has : (text : List ℕ) → w.older ≡ Some text → FilesHave w seen → TextHas text seen
    older_has text is (inl has) = absurd (subst (FileHas seen) (found_none w.newer n) has)
    older_has text is (inr (none, has)) = subst (FileHas seen) is has

    behind_above : (k other : Journal) → is_behind k other ≡ true → is_above k other ≡ true
    behind_above k other test = second_of (pointwise nat_eq other.check k.header.link) (is_above k other) test

-- ---- the laws

pub kept_is_there : KeptIsThere
kept_is_there low kept all w (Some tail) floor (same, whole) seen has =
    whole_has low all w tail.check floor whole seen (subst (λ (r : Resumption). Contains r.seen seen) same has)
kept_is_there low kept all w None floor lacking seen has = lacking.have seen has

pub holds_on : HoldsOn
holds_on = record { kept = kept_is_safe; there = kept_is_there; unbegun = unbegun_is_safe; finished = finished_is_safe }
