-- Whatever the calls of a running server leave, no start resumes without what was kept.
use Rattle.std.proofs.Common.{◌≡◌, inl, inr, ℕ, ℤ, pos, ◌-ℤ◌, ◌≤ℤ◌, ◌<ℤ◌, Bool, true, false, not, ◌&&◌, ◌||◌, if◌then◌else◌, List, [], ◌∷◌, ◌++◌, map, Option, Some, None, option_map, refl, sym, ap, subst, ◌∙◌, length, arith}
use Rattle.std.specs.Prelude.{All, IfSome, nat_eq}
use Rattle.std.proofs.lemmas.List.{length-take-le}
use Rattle.sha2.proofs.Facts256.{length-sha256}
use Rattle.sha2.specs.Sha256.{sha256}
use Rattle.std.specs.Int.{int_max}
use Rattle.std.proofs.lemmas.Bool.{eq-eqb}
use Rattle.std.specs.Cmp.Lexicographic.{pointwise}
use Rattle.krb_fields.specs.Skew.{skew}
use Rattle.krb_fields.specs.declared.moment.Moment.{Moment}
use Rattle.replay.specs.declared.seen.Resumption.{Resumption}
use Rattle.replay.specs.declared.seen.Seen.{Seen}
use Rattle.journal.specs.Decision.{Place, above, doubt_of, entries_behind, floor_behind, floor_on, goes_behind, goes_on_behind, is_behind, is_early, is_first, is_foreign, is_linked, is_missealed, is_other_boot, is_other_realm, is_unlinked, next_start, resumed_floor, resumption_of, seen_of, start_by, start_of}
use Rattle.krb_elements.specs.Codec.{written}
use Rattle.journal.specs.Forms.{Entry, Header, entry, header}
use Rattle.journal.specs.Holding.{FinishedIsSafe, HasSums, HoldAll, IsAbove, IsFound, IsHeld, IsSafe, IsSpelled, IsWhole, KeptIsSafe, Knows, Spells, UnbegunIsSafe, cut, cut_found, held_in, with_one}
use Rattle.journal.specs.Texts.{check_of, header_check, last_check}
use Rattle.journal.specs.Keeping.{BeginsJournal, KeepsEntry, begun}
use Rattle.journal.specs.World.{HasBeside, IsLeft, World, finished, older_left, roomier, with_beside, with_file, with_more, without_older}
use Rattle.journal.specs.declared.decision.ResumeRefusal.{ResumeRefusal}
use Rattle.journal.specs.declared.decision.Found.{Found}
use Rattle.journal.specs.declared.decision.Found.TheVariants.{Nothing, Broken, Whole}
use Rattle.journal.specs.declared.decision.Start.{Start}
use Rattle.journal.specs.declared.decision.Start.TheVariants.{Resumes, Refuses}
use Rattle.journal.specs.declared.files.Begun.TheVariants.{Linked, Anew, Roomy}
use Rattle.journal.specs.declared.files.Left.{Left}
use Rattle.journal.specs.declared.files.Left.TheVariants.{Before, Between, InPlace}
use Rattle.journal.specs.declared.reading.Journal.{Journal}
use Rattle.journal.proofs.Fronts.{IsOnward, one_journal, onward, same_journal}
use Rattle.journal.proofs.Held.{All_cut, HaveSums, above_one, above_test, cut_floor, early_above, begun_journal, entries_below, floor_on_stays, found_holds, fresh, fresh_above, hold_first, hold_more, hold_one, hold_turned, linked_more, on_newer, resumes_with_held, rises_above, same_le, spells_begun, spells_fresh, spells_one, with_entries}

-- ---- what a start resumes with

abbrev with_resumption : Resumption → Start → Resumption
with_resumption otherwise (Resumes r check) = r
with_resumption otherwise (Refuses doubt lost) = otherwise

abbrev with_check : Option (List ℕ) → Start → Option (List ℕ)
with_check otherwise (Resumes r check) = check
with_check otherwise (Refuses doubt lost) = otherwise

-- the journals are linked, and it resumes with what is left of them
pub record IsResumed (place : Place) (older : Found) (j : Journal) (r : Resumption) (check : Option (List ℕ)) : Type 0 where
  pub linked : is_linked j older ≡ true
  pub resumption : resumption_of place (cut_found older) (cut j) ≡ r
  pub goes_on : goes_on_behind place older j ≡ check

linked_by : (linked foreign : Bool) → (not linked || foreign) ≡ false → linked ≡ true
linked_by true foreign e = refl
linked_by false foreign e = absurd cc

none_holds : (a m b c : Bool) (x v y z : ResumeRefusal)
    → (if a then Some x else (if m then Some v else (if b then Some y else (if c then Some z else None)))) ≡ None
    → c ≡ false
none_holds true m b c x v y z e = absurd cc
none_holds false true b c x v y z e = absurd cc
none_holds false false true c x v y z e = absurd cc
none_holds false false false true x v y z e = absurd cc
none_holds false false false false x v y z e = refl

cut_linked : (j : Journal) (older : Found) → is_linked (cut j) (cut_found older) ≡ is_linked j older
cut_linked j Nothing = refl
cut_linked j (Broken lost) = refl
cut_linked j (Whole before) = refl

cut_goes_on : (place : Place) (older : Found) (j : Journal) → goes_on_behind place (cut_found older) (cut j) ≡ goes_on_behind place older j
cut_goes_on place Nothing j = refl
cut_goes_on place (Broken lost) j = refl
cut_goes_on place (Whole before) j = refl

by_doubt : (place : Place) (older beside : Found) (j : Journal) (doubt : Option ResumeRefusal) (r : Resumption) (check : Option (List ℕ))
    → doubt_of place (cut_found older) (cut j) ≡ doubt
    → start_by place (cut_found older) (cut j) beside doubt ≡ Resumes r check
    → IsResumed place older j r check
by_doubt place older beside j (Some doubt) r check none is = absurd cc
by_doubt place older beside j None r check none is = record {
  linked = sym (cut_linked j older)
      ∙ linked_by (is_linked (cut j) (cut_found older)) (is_foreign place (cut j) (cut_found older))
      (none_holds (is_other_realm place (cut j)) (is_missealed place (cut j)) (is_other_boot place (cut j))
      (is_unlinked place (cut_found older) (cut j)) _ _ _ _ none);
  resumption = ap (with_resumption r) is;
  goes_on = sym (cut_goes_on place older j) ∙ ap (with_check check) is;
}

pub is_resumed : (place : Place) (older beside : Found) (j : Journal) (r : Resumption) (check : Option (List ℕ))
    → start_of place (cut_found older) (Whole (cut j)) beside ≡ Resumes r check → IsResumed place older j r check
is_resumed place older beside j r check is = by_doubt place older beside j (doubt_of place (cut_found older) (cut j)) r check refl is

-- with journals that hold all, a start knows all
holds_known : (place : Place) (older beside : Found) (j : Journal) (low : ℤ) (kept found : Resumption) (check : Option (List ℕ)) → HaveSums older → HasSums j
    → (is_linked j older ≡ true → HoldAll older j low kept)
    → start_of place (cut_found older) (Whole (cut j)) beside ≡ Resumes found check
    → low ≤ℤ found.floor → (below : ℤ) → below ≤ℤ found.floor → Knows below kept found
holds_known place older beside j low kept found check sums own hold is late below under =
    let resumed = is_resumed place older beside j found check is in
    subst (λ r. Knows below kept r) resumed.resumption
    (resumes_with_held place older j low kept sums own (hold resumed.linked) resumed.linked
    (subst (λ (r : Resumption). low ≤ℤ r.floor) (sym resumed.resumption) late) below
    (subst (λ (r : Resumption). below ≤ℤ r.floor) (sym resumed.resumption) under))

-- ---- what one text is found as

spelled_in : (file : Option (List ℕ)) (text : List ℕ) (found : Found) → file ≡ Some text → IsSpelled file found → IsSpelled (Some text) found
spelled_in file text found is f = subst (λ x. IsSpelled x found) is f

pub spelled_sums : (file : Option (List ℕ)) (found : Found) → IsSpelled file found → HaveSums found
spelled_sums None Nothing s = tt
spelled_sums None (Broken lost) s = absurd s
spelled_sums None (Whole j) s = absurd s
spelled_sums (Some text) Nothing s = absurd s
spelled_sums (Some text) (Broken lost) s = tt
spelled_sums (Some text) (Whole j) s = s.sums

-- a world whose newer file spells only journals that hold all, is safe
safe_by : (low : ℤ) (kept : Resumption) (w : World) (text : List ℕ) → w.newer ≡ Some text
    → ((older : Found) (j : Journal) → IsSpelled w.older older → Spells text j → is_linked j older ≡ true → HoldAll older j low kept)
    → IsSafe low kept w
safe_by low kept w text is hold = record {
  knows = λ place older newer beside found check (fo, so, eo) (fn, sn, en) b starts late below under.
      by_found place fo fn beside found check so (spelled_in w.newer text fn is sn)
      (ap (λ o. next_start place o (cut_found fn) beside) (sym eo) ∙ (ap (λ n. next_start place older n beside) (sym en) ∙ starts)) late below under;
}
  where
    by_found : (place : Place) (older newer beside : Found) (found : Resumption) (check : Option (List ℕ))
        → IsSpelled w.older older → IsSpelled (Some text) newer
        → next_start place (cut_found older) (cut_found newer) beside ≡ Resumes found check → low ≤ℤ found.floor
        → (below : ℤ) → below ≤ℤ found.floor
        → Knows below kept found
    by_found place older Nothing beside found check o n starts late below under = absurd n
    by_found place older (Broken lost) beside found check o n starts late below under = absurd cc
    by_found place older (Whole j) beside found check o n starts late below under =
        holds_known place older beside j low kept found check (spelled_sums w.older older o) n.sums (hold older j o n) starts late below under

-- no file
pub none_found : (found : Found) → IsFound None found → found ≡ Nothing
none_found found (Nothing, s, is) = is
none_found found (Broken lost, s, is) = absurd s
none_found found (Whole j, s, is) = absurd s

-- what is found as no file is none
pub found_none : (file : Option (List ℕ)) → IsFound file Nothing → file ≡ None
found_none None f = refl
found_none (Some text) (Nothing, s, is) = absurd s
found_none (Some text) (Broken lost, s, is) = absurd cc
found_none (Some text) (Whole j, s, is) = absurd cc

-- a file that is there may be found broken
pub some_found : (file : Option (List ℕ)) → (found : Found) × IsFound file found
some_found None = (Nothing, (Nothing, tt, refl))
some_found (Some text) = (Broken None, (Broken None, tt, refl))

-- ---- without a newer file a start refuses, unless a turn was cut

uncut : (place : Place) (older beside : Found) (b : Bool) → b ≡ false → (found : Resumption) (check : Option (List ℕ))
    → (if b then start_of place older beside Nothing else start_of place older Nothing beside) ≡ Resumes found check → ⊥
uncut place older beside true e found check starts = absurd cc
uncut place older beside false e found check starts = absurd cc

-- what it resumes with does not depend on what is beside
other_resumes : (place : Place) (older beside other : Found) (j : Journal) (d : Option ResumeRefusal) (found : Resumption) (check : Option (List ℕ))
    → start_by place older j beside d ≡ Resumes found check → start_by place older j other d ≡ Resumes found check
other_resumes place older beside other j (Some doubt) found check starts = absurd cc
other_resumes place older beside other j None found check starts = starts

-- so another file beside leaves the files safe, if it does not seem to be that of a turn
module _ (low : ℤ) (r : Resumption) (w : World) (safe : IsSafe low r w) (b : Option (List ℕ))
    (not_cut : w.newer ≡ None → (older beside : Found) → IsFound w.older older → IsFound b beside → goes_behind beside older ≡ false) where
  by_newer : (place : Place) (older newer beside : Found) (found : Resumption) (check : Option (List ℕ))
      → IsFound w.older older → IsFound w.newer newer
      → IsFound b beside → next_start place older newer beside ≡ Resumes found check → low ≤ℤ found.floor
      → (below : ℤ) → below ≤ℤ found.floor
      → Knows below r found
  by_newer place older Nothing beside found check o n f starts late below under =
      absurd (uncut place older beside (goes_behind beside older) (not_cut (found_none w.newer n) older beside o f) found check starts)
  by_newer place older (Broken lost) beside found check o n f starts late below under = absurd cc
  by_newer place older (Whole j) beside found check o n f starts late below under =
      let other = some_found w.beside in
      safe.knows place older (Whole j) other.0 found check o n other.1
      (other_resumes place older beside other.0 j (doubt_of place older j) found check starts) late below under

  pub other_beside : IsSafe low r (with_beside b w)
  other_beside = record { knows = by_newer }

-- ---- a file that links to none is never taken for that of a turn

check_len : (check e : List ℕ) → length (check_of check e) ≡ 16
check_len check e = length-take-le 16 (sha256 (check ++ e)) (omega (arith, length-sha256 (check ++ e)))

last_len : (check : List ℕ) (es : List Entry) → length check ≡ 16 → length (last_check check es) ≡ 16
unfolding last_check
last_len check [] len = len
last_len check (e ∷ es) len = last_len (check_of check (written entry e)) es (check_len check (written entry e))

pub spelled_len : (file : Option (List ℕ)) (j : Journal) → IsSpelled file (Whole j) → length j.check ≡ 16
spelled_len None j s = absurd s
spelled_len (Some text) j s = ap length s.check_is ∙ last_len (header_check j.header) j.entries (check_len j.header.link (written header j.header))

nothing_same : (check : List ℕ) → length check ≡ 16 → pointwise nat_eq check [] ≡ false
nothing_same [] len = absurd (omega (arith, len))
nothing_same (x ∷ xs) len = refl

false_and : (a b : Bool) → a ≡ false → (a && b) ≡ false
false_and true b e = absurd cc
false_and false b e = refl

not_behind : (j before : Journal) → j.header.link ≡ [] → length before.check ≡ 16 → is_behind j before ≡ false
not_behind j before none len =
    false_and (pointwise nat_eq before.check j.header.link) _
    (subst (λ l. pointwise nat_eq before.check l ≡ false) (sym none) (nothing_same before.check len))

unlinked_older : (file : Option (List ℕ)) (older : Found) (j : Journal) → IsFound file older → j.header.link ≡ []
    → goes_behind (Whole j) older ≡ false
unlinked_older file older j (fo, so, eo) none = subst (λ o. goes_behind (Whole j) o ≡ false) (sym eo) (by_found fo so)
  where
    by_found : (fo : Found) → IsSpelled file fo → goes_behind (Whole j) (cut_found fo) ≡ false
    by_found Nothing so = refl
    by_found (Broken lost) so = refl
    by_found (Whole k) so = not_behind j (cut k) none (spelled_len file k so)

-- a part of a text that begins so
part_link : (h : Header) (text part rest check : List ℕ) → BeginsJournal h text check → text ≡ part ++ rest
    → (j : Journal) → Spells part j → j.header ≡ h
part_link h text part rest check begins is j spells =
    sym (onward part rest j (begun_journal h) spells (subst (λ t. Spells t (begun_journal h)) is (spells_begun h text check begins))).header_is

module _ (h : Header) (text part rest check : List ℕ) (begins : BeginsJournal h text check) (none : h.link ≡ []) (is : text ≡ part ++ rest) where
  unlinked_part : (file : Option (List ℕ)) (older beside : Found) → IsFound file older → IsFound (Some part) beside
      → goes_behind beside older ≡ false
  unlinked_part file older beside o (fb, sb, eb) = subst (λ b. goes_behind b older ≡ false) (sym eb) (by_found fb sb)
    where
      by_found : (fb : Found) → IsSpelled (Some part) fb → goes_behind (cut_found fb) older ≡ false
      by_found Nothing sb = absurd sb
      by_found (Broken lost) sb = refl
      by_found (Whole j) sb =
          unlinked_older file older (cut j) o (ap (λ (x : Header). x.link) (part_link h text part rest check begins is j sb) ∙ none)

none_beside : (file : Option (List ℕ)) (older beside : Found) → IsFound file older → IsFound None beside
    → goes_behind beside older ≡ false
none_beside file older beside o b = subst (λ x. goes_behind x older ≡ false) (sym (none_found beside b)) refl

-- ---- a file that could not be begun

beside_safe : (low : ℤ) (r : Resumption) (h : Header) (text check : List ℕ) (old new : World)
    → BeginsJournal h text check → h.link ≡ []
    → IsSafe low r old → HasBeside text old new → IsSafe low r new
beside_safe low r h text check old new begins none safe (inl same) = subst (IsSafe low r) (sym same) safe
beside_safe low r h text check old new begins none safe (inr (inl gone)) =
    subst (IsSafe low r) (sym gone) (other_beside low r old safe None (λ newer older beside o b. none_beside old.older older beside o b))
beside_safe low r h text check old new begins none safe (inr (inr (part, rest, is, there))) =
    subst (IsSafe low r) (sym there)
    (other_beside low r old safe (Some part) (λ newer older beside o b. unlinked_part h text part rest check begins none is old.older older beside o b))

-- without an older file a start finds no more than with one that is broken
broken_start : (place : Place) (beside other : Found) (j : Journal) (lost : Option ℤ) (d : Option ResumeRefusal) (found : Resumption) (check : Option (List ℕ))
    → start_by place Nothing j beside d ≡ Resumes found check
    → start_by place (Broken lost) j other d ≡ Resumes found check
broken_start place beside other j lost (Some doubt) found check starts = absurd cc
broken_start place beside other j lost None found check starts = starts

nothing_start : (place : Place) (beside other : Found) (j : Journal) (d : Option ResumeRefusal) (found : Resumption) (check : Option (List ℕ))
    → start_by place Nothing j beside d ≡ Resumes found check → start_by place Nothing j other d ≡ Resumes found check
nothing_start place beside other j (Some doubt) found check starts = absurd cc
nothing_start place beside other j None found check starts = starts

nothing_behind : (beside : Found) → goes_behind beside Nothing ≡ false
nothing_behind Nothing = refl
nothing_behind (Broken lost) = refl
nothing_behind (Whole j) = refl

module _ (low : ℤ) (r : Resumption) (old : World) (safe : IsSafe low r old) where
  gone_by : (place : Place) (newer beside : Found) (found : Resumption) (check : Option (List ℕ))
      → IsFound old.newer newer → IsFound old.beside beside
      → next_start place Nothing newer beside ≡ Resumes found check → low ≤ℤ found.floor → (below : ℤ)
      → below ≤ℤ found.floor → Knows below r found
  gone_by place Nothing beside found check n b starts late below under =
      absurd (uncut place Nothing beside (goes_behind beside Nothing) (nothing_behind beside) found check starts)
  gone_by place (Broken lost) beside found check n b starts late below under = absurd cc
  gone_by place (Whole j) beside found check n b starts late below under = by_older old.older refl
    where
      by_older : (file : Option (List ℕ)) → old.older ≡ file → Knows below r found
      by_older None is =
          safe.knows place Nothing (Whole j) beside found check (subst (λ f. IsFound f Nothing) (sym is) (Nothing, tt, refl)) n b
          (nothing_start place beside beside j (doubt_of place Nothing j) found check starts) late below under
      by_older (Some text) is =
          safe.knows place (Broken None) (Whole j) beside found check (subst (λ f. IsFound f (Broken None)) (sym is) (Broken None, tt, refl)) n b
          (broken_start place beside beside j None (doubt_of place Nothing j) found check starts) late below under

  older_gone : IsSafe low r (without_older old)
  older_gone = record {
    knows = λ place older newer beside found check o n b starts late below under.
        gone_by place newer beside found check n b (ap (λ x. next_start place x newer beside) (sym (none_found older o)) ∙ starts) late below under;
  }

-- more room leaves the files safe
roomier_safe : (low : ℤ) (r : Resumption) (w : World) → IsSafe low r w → IsSafe low r (roomier w)
roomier_safe low r w safe = by_newer w.newer refl
  where
    by_newer : (newer : Option (List ℕ)) → w.newer ≡ newer → IsSafe low r (record w { older = older_left newer w.older })
    by_newer (Some text) is = older_gone low r w safe
    by_newer None is = safe

pub unbegun_is_safe : UnbegunIsSafe
unbegun_is_safe low r Linked h text check left old new begins none unlinked safe is = absurd unlinked
unbegun_is_safe low r Anew h text check Before old new begins none unlinked safe is = beside_safe low r h text check old new begins none safe is
unbegun_is_safe low r Anew h text check Between old new begins none unlinked safe is = beside_safe low r h text check old new begins none safe is
unbegun_is_safe low r Anew h text check InPlace old new begins none unlinked safe is = absurd unlinked
unbegun_is_safe low r Roomy h text check Before old new begins none unlinked safe is = beside_safe low r h text check old new begins none safe is
unbegun_is_safe low r Roomy h text check Between old new begins none unlinked safe is =
    beside_safe low r h text check (roomier old) new begins none (roomier_safe low r old safe) is
unbegun_is_safe low r Roomy h text check InPlace old new begins none unlinked safe is = absurd unlinked

-- ---- a turn that was cut

-- before it is finished, a start knows what it knows then
module _ (low : ℤ) (r : Resumption) (w : World) (missing : w.newer ≡ None) (safe : IsSafe low r (finished w)) where
  by_cut : (place : Place) (older beside : Found) (found : Resumption) (check : Option (List ℕ)) (b : Bool)
      → goes_behind beside older ≡ b
      → IsFound w.older older → IsFound w.beside beside
      → (if b then start_of place older beside Nothing else start_of place older Nothing beside) ≡ Resumes found check
      → low ≤ℤ found.floor → (below : ℤ)
      → below ≤ℤ found.floor → Knows below r found
  by_cut place older beside found check false is o f starts late below under = absurd cc
  by_cut place older Nothing found check true is o f starts late below under = absurd cc
  by_cut place older (Broken lost) found check true is o f starts late below under = absurd cc
  by_cut place older (Whole j) found check true is o f starts late below under =
      safe.knows place older (Whole j) Nothing found check o f (Nothing, tt, refl) starts late below under

  pub unfinished_safe : IsSafe low r w
  unfinished_safe = record {
    knows = λ place older newer beside found check o n b starts late below under.
        by_cut place older beside found check (goes_behind beside older) refl o b
        (ap (λ x. next_start place older x beside) (sym (none_found newer (subst (λ f. IsFound f newer) missing n))) ∙ starts) late below under;
  }

-- ---- a whole journal

module _ (low : ℤ) (all : Resumption) (w : World) (check : List ℕ) (floor : Option ℤ) (whole : IsWhole low all w check floor) where
  abbrev j : Journal
  j = whole.newer

  pub whole_safe : IsSafe low all w
  whole_safe =
      safe_by low all w whole.text whole.newer_is
      (λ older k o n linked.
      let same = one_journal whole.text j k whole.spells n in
      subst (λ (x : Journal). HoldAll older x low all) (sym same) (whole.hold older o (subst (λ x. is_linked x older ≡ true) same linked)))

  -- with anything at its end
  pub longer_safe : (part : List ℕ) → IsSafe low all (with_more w part)
  longer_safe part =
      safe_by low all (with_more w part) (whole.text ++ part) (ap (option_map (λ front. front ++ part)) whole.newer_is)
      (λ older k o n linked. goes_on older k o n linked (onward whole.text part j k whole.spells n))
    where
      goes_on : (older : Found) (k : Journal) → IsSpelled w.older older → Spells (whole.text ++ part) k → is_linked k older ≡ true → IsOnward j k → HoldAll older k low all
      goes_on older k o n linked on =
          let same : with_entries j on.others k.check ≡ k = same_journal (with_entries j on.others k.check) k (record { latest_is = refl; high_is = refl }) n.sums (sym on.header_is) (sym on.entries_are) refl in
          let is = sym (linked_more j on.others k.check older) ∙ (ap (λ x. is_linked x older) same ∙ linked) in
          subst (λ (x : Journal). HoldAll older x low all) same (hold_more j on.others k.check older low all (whole.hold older o is))

  -- with one more entry
  module _ (at : Moment) (seen : Seen) (more next : List ℕ) (keeps : KeepsEntry check at seen more next) (raised : Option ℤ)
      (rises : IfSome raised (λ f. (g : ℤ) × (floor ≡ Some g) × (f ≡ above g seen.ctime))) where
    kept_here : KeepsEntry j.check at seen more next
    kept_here = subst (λ c. KeepsEntry c at seen more next) whole.check_is keeps

    abbrev e : Entry
    e = kept_here.entry_kept

    raise : (r r' : Resumption) → IfSome floor (λ f. IsAbove f r) → ((g : ℤ) → IsAbove g r → IsAbove (above g seen.ctime) r')
        → (raised : Option ℤ) → IfSome raised (λ f. (g : ℤ) × (floor ≡ Some g) × (f ≡ above g seen.ctime)) → IfSome raised (λ f. IsAbove f r')
    raise r r' a step None rises = tt
    raise r r' a step (Some f) (g, is, same) = subst (λ x. IsAbove x r') (sym same) (step g (subst (λ o. IfSome o (λ f. IsAbove f r)) is a))

    one_linked : (older : Found) × IsSpelled w.older older × (is_linked (with_entries j (e ∷ []) next) older ≡ true)
    one_linked = let (older, o, linked) = whole.linked in (older, o, linked_more j (e ∷ []) next older ∙ linked)

    pub whole_one : IsWhole low (with_one all seen) (with_more w more) next raised
    whole_one = record {
      newer = with_entries j (e ∷ []) next;
      text = whole.text ++ more;
      newer_is = ap (option_map (λ front. front ++ more)) whole.newer_is;
      spells = spells_one whole.text more j at seen next whole.spells kept_here;
      check_is = refl;
      hold = λ older o linked.
          subst (λ s. HoldAll older (with_entries j (e ∷ []) next) low (with_one all s)) kept_here.is
          (hold_one j e next older low all (whole.hold older o (sym (linked_more j (e ∷ []) next older) ∙ linked)));
      linked = one_linked;
      above_newer = raise (held_in j) (held_in (with_entries j (e ∷ []) next)) whole.above_newer
          (λ g a. subst (λ (s : Seen). IsAbove (above g s.ctime) (held_in (with_entries j (e ∷ []) next))) kept_here.is (above_one g j e next a)) raised rises;
      above_all_seen = raise all (with_one all seen) whole.above_all_seen (λ g a. rises_above g all seen a) raised rises;
    }

  -- the files take turns
  module _ (place : Place) (f : ℤ) (floor_is : floor ≡ Some f) (text next : List ℕ) (begins : BeginsJournal (begun place f check) text next) where
    above_new : IsAbove f (held_in j)
    above_new = subst (λ o. IfSome o (λ f. IsAbove f (held_in j))) floor_is whole.above_newer

    above_seen : IsAbove f all
    above_seen = subst (λ o. IfSome o (λ f. IsAbove f all)) floor_is whole.above_all_seen

    abbrev k : Journal
    k = fresh place f check

    spelled : Spells text k
    spelled = spells_fresh place f check text next begins

    by_first : (a : Bool) (older : Found) → is_first k ≡ a → IsSpelled (Some whole.text) older → is_linked k older ≡ true → HoldAll older k low all
    by_first true older first o linked = hold_first place low f check all above_seen older first
    by_first false Nothing first o linked = absurd o
    by_first false (Broken lost) first o linked = absurd (false_true (is_first k) first linked)
      where
        false_true : (b : Bool) → b ≡ false → b ≡ true → ⊥
        false_true true x y = absurd cc
        false_true false x y = absurd cc
    by_first false (Whole b) first o linked =
        let same = one_journal whole.text j b whole.spells o in
        let (older, oo, was) = whole.linked in
        subst (λ (x : Journal). HoldAll (Whole x) k low all) (sym same)
        (hold_turned older j low f all place check (whole.hold older oo was) (spelled_sums w.older older oo) was above_seen)

    either : (b c d : Bool) → c ≡ true → d ≡ true → (b || (c && d)) ≡ true
    either true c d x y = refl
    either false true true x y = refl
    either false true false x y = absurd cc
    either false false d x y = absurd cc

    links : is_linked k (Whole j) ≡ true
    links =
        either (is_first k) (pointwise nat_eq j.check check) _ (subst (λ (c : List ℕ). pointwise nat_eq j.check c ≡ true) (sym whole.check_is) (pointwise_same j.check))
        (above_test k j whole.spells.sums above_new)
      where
        eq_same : (n : ℕ) → nat_eq n n ≡ true
        eq_same n = eq-eqb n n refl

        pointwise_same : (xs : List ℕ) → pointwise nat_eq xs xs ≡ true
        pointwise_same [] = refl
        pointwise_same (x ∷ xs) = rw (eq_same x) (pointwise_same xs)

    pub whole_turned : IsWhole low all (with_file Linked text w) next (Some f)
    whole_turned = record {
      newer = k;
      text = text;
      newer_is = refl;
      spells = spelled;
      check_is = begins.check_is;
      hold = λ older o linked. by_first (is_first k) older refl (spelled_in w.newer whole.text older whole.newer_is o) linked;
      linked = (Whole j, subst (λ x. IsSpelled x (Whole j)) (sym whole.newer_is) whole.spells, links);
      above_newer = fresh_above place f check;
      above_all_seen = above_seen;
    }

-- ---- a file in place of both

pub whole_anew : (low : ℤ) (all : Resumption) (w : World) (place : Place) (f : ℤ) (text next : List ℕ) → IsAbove f all → BeginsJournal (begun place f []) text next
    → w.newer ≡ Some text → IsWhole low all w next (Some f)
whole_anew low all w place f text next above_it begins newer_is =
    let older = some_spelled w.older in
    record {
      newer = fresh place f [];
      text = text;
      newer_is = newer_is;
      spells = spells_fresh place f [] text next begins;
      check_is = begins.check_is;
      hold = λ older o linked. hold_first place low f [] all above_it older refl;
      linked = (older.0, older.1, by_found older.0);
      above_newer = fresh_above place f [];
      above_all_seen = above_it;
    }
  where
    some_spelled : (file : Option (List ℕ)) → (found : Found) × IsSpelled file found
    some_spelled None = (Nothing, tt)
    some_spelled (Some text) = (Broken None, tt)

    by_found : (older : Found) → is_linked (fresh place f []) older ≡ true
    by_found Nothing = refl
    by_found (Broken lost) = refl
    by_found (Whole before) = refl

-- ---- a start

pub text_found : (file : Option (List ℕ)) (j : Journal) → IsSpelled file (Whole j) → (text : List ℕ) × (file ≡ Some text) × Spells text j
text_found None j f = absurd f
text_found (Some text) j f = (text, refl, f)

first_floor : (j : Journal) (older : Found) → is_first j ≡ true → floor_behind j older ≡ j.header.floor
first_floor j Nothing first = refl
first_floor j (Broken lost) first = refl
first_floor j (Whole before) first = ap (λ b. if b then j.header.floor else before.header.floor) first

first_entries : (j : Journal) (older : Found) → is_first j ≡ true → entries_behind j older ≡ j.entries
first_entries j Nothing first = refl
first_entries j (Broken lost) first = refl
first_entries j (Whole before) first = ap (λ b. if b then j.entries else before.entries ++ j.entries) first

-- what goes before a journal that is linked to none is no matter
hold_other : (j : Journal) (low : ℤ) (r : Resumption) (older other : Found) → is_first j ≡ true → HoldAll older j low r → HoldAll other j low r
hold_other j low r older other first hold =
    let floor = first_floor j older first ∙ sym (first_floor j other first) in
    let entries = first_entries j older first ∙ sym (first_entries j other first) in
    record {
      floor = subst (λ f. r.floor ≤ℤ int_max f low) floor hold.floor;
      seen = subst (λ f. All (IsHeld f (entries_behind j other)) r.seen) floor (subst (λ es. All (IsHeld (floor_behind j older) es) r.seen) entries hold.seen);
    }

module _ (place : Place) (w : World) (older : Found) (j : Journal) (older_spelled : IsSpelled w.older older) (newer_spelled : IsSpelled w.newer (Whole j)) (r : Resumption)
    (check : Option (List ℕ)) (beside : Found) (starts : start_of place (cut_found older) (Whole (cut j)) beside ≡ Resumes r check) where
  abbrev sums : HaveSums older
  sums = spelled_sums w.older older older_spelled

  abbrev own : HasSums j
  own = spelled_sums w.newer (Whole j) newer_spelled

  abbrev resumed : IsResumed place older j r check
  resumed = is_resumed place older beside j r check starts

  early_by : (b : Bool) (c : List ℕ) → (if b then None else Some j.check) ≡ Some c → b ≡ false
  early_by true c e = absurd cc
  early_by false c e = refl

  check_by : (b : Bool) (c : List ℕ) → (if b then None else Some j.check) ≡ Some c → c ≡ j.check
  check_by true c e = absurd cc
  check_by false c e = sym (ap (λ o. or_else j.check o) e)
    where
      or_else : List ℕ → Option (List ℕ) → List ℕ
      or_else x (Some y) = y
      or_else x None = x

  late_by : (b : Bool) → (if b then None else Some j.check) ≡ None → b ≡ true
  late_by true e = refl
  late_by false e = absurd cc

  -- it begins another file
  pub starts_above : check ≡ None → IsAbove r.floor r
  starts_above none =
      let early = late_by (is_early place j older) (resumed.goes_on ∙ none) in
      let above_it = early_above place older j sums own resumed.linked early in
      let floor = resumed_floor place (cut j) (cut_found older) in
      let all : All (λ (s : Seen). s.ctime <ℤ floor) (map seen_of (entries_behind j older)) =
      subst (λ f. All (λ (s : Seen). s.ctime <ℤ f) (map seen_of (entries_behind j older))) (sym (cut_floor place older j)) above_it.times_above in
      subst (λ (x : Resumption). IsAbove x.floor x) resumed.resumption
      (record { floor_above = same_le floor; times_above = All_cut (λ (s : Seen). s.ctime <ℤ floor) older j all })

  -- or it goes on
  module _ (c : List ℕ) (is : check ≡ Some c) where
    abbrev early : is_early place j older ≡ false
    early = early_by (is_early place j older) c (resumed.goes_on ∙ is)

    abbrev since : ℤ
    since = place.at.sec -ℤ pos skew

    -- however the older file is found
    any_older : (file : Option (List ℕ)) (was now : Found) → IsSpelled file was → IsSpelled file now → is_linked j was ≡ true → is_linked j now ≡ true
        → HoldAll was j since r → HoldAll now j since r
    any_older None Nothing Nothing a b x y hold = hold
    any_older None Nothing (Broken lost) a b x y hold = absurd b
    any_older None Nothing (Whole k) a b x y hold = absurd b
    any_older None (Broken lost) now a b x y hold = absurd a
    any_older None (Whole k) now a b x y hold = absurd a
    any_older (Some text) Nothing now a b x y hold = absurd a
    any_older (Some text) (Broken lost) Nothing a b x y hold = absurd b
    any_older (Some text) (Whole k) Nothing a b x y hold = absurd b
    any_older (Some text) (Broken lost) (Broken lost_too) a b x y hold = record { floor = hold.floor; seen = hold.seen }
    any_older (Some text) (Broken lost) (Whole l) a b x y hold = hold_other j since r (Broken lost) (Whole l) x hold
    any_older (Some text) (Whole l) (Broken lost) a b x y hold = hold_other j since r (Whole l) (Broken lost) y hold
    any_older (Some text) (Whole k) (Whole l) a b x y hold = subst (λ (z : Journal). HoldAll (Whole z) j since r) (sym (one_journal text k l a b)) hold

    abbrev r0 : Resumption
    r0 = resumption_of place (cut_found older) (cut j)

    goes_on_whole : (text : List ℕ) → w.newer ≡ Some text → Spells text j → IsWhole since r w c (Some (floor_on r.floor j))
    goes_on_whole text is_text spells = record {
      newer = j;
      text = text;
      newer_is = is_text;
      spells = spells;
      check_is = check_by (is_early place j older) c (resumed.goes_on ∙ is);
      hold = λ now o linked.
          any_older w.older older now older_spelled o resumed.linked linked
          (subst (λ (x : Resumption). HoldAll older j since x) resumed.resumption (found_holds place older j early));
      linked = (older, older_spelled, resumed.linked);
      above_newer = on_newer r.floor j own;
      above_all_seen = subst (λ (x : Resumption). IsAbove (floor_on x.floor j) x) resumed.resumption
          (record {
            floor_above = floor_on_stays r0.floor j;
            times_above = All_cut (λ (s : Seen). s.ctime <ℤ floor_on r0.floor j) older j
                (entries_below (floor_on r0.floor j) older j sums resumed.linked (on_newer r0.floor j own));
          });
    }

    pub whole_start : IsWhole since r w c (Some (floor_on r.floor j))
    whole_start = let (text, is_text, spells) = text_found w.newer j newer_spelled in goes_on_whole text is_text spells

-- ---- the laws

pub kept_is_safe : KeptIsSafe
kept_is_safe low kept all w (Some tail) floor (same, whole) = subst (λ r. IsSafe low r w) (sym same) (whole_safe low all w tail.check floor whole)
kept_is_safe low kept all w None floor lacking = lacking.safe

-- ---- a start finishes a turn that was cut

abbrev journal_or : Journal → Found → Journal
journal_or j Nothing = j
journal_or j (Broken lost) = j
journal_or j (Whole k) = k

-- a whole journal is what is left of one
pub whole_found : (file : Option (List ℕ)) (j : Journal) → IsFound file (Whole j)
    → (all : Journal) × IsSpelled file (Whole all) × (j ≡ cut all)
whole_found file j (Nothing, s, is) = absurd cc
whole_found file j (Broken lost, s, is) = absurd cc
whole_found file j (Whole all, s, is) = (all, s, ap (journal_or j) is)

found_one : (file : Option (List ℕ)) (j k : Journal) → IsFound file (Whole j) → IsFound file (Whole k) → j ≡ k
found_one file j k a b =
    let (all, s, is) = whole_found file j a in
    let (others, t, same) = whole_found file k b in
    is ∙ (ap cut (by_file file all others s t) ∙ sym same)
  where
    by_file : (file : Option (List ℕ)) (all others : Journal) → IsSpelled file (Whole all)
        → IsSpelled file (Whole others) → all ≡ others
    by_file None all others s t = absurd s
    by_file (Some text) all others s t = one_journal text others all t s

link_not_first : (check link : List ℕ) → length check ≡ 16 → pointwise nat_eq check link ≡ true
    → pointwise nat_eq link [] ≡ true → ⊥
link_not_first [] link len a b = absurd (omega (arith, len))
link_not_first (x ∷ xs) [] len a b = absurd cc
link_not_first (x ∷ xs) (y ∷ ys) len a b = absurd cc

first_of : (a b : Bool) → (a && b) ≡ true → a ≡ true
first_of true b e = refl
first_of false b e = absurd cc

module _ (low : ℤ) (r : Resumption) (w : World) (safe : IsSafe low r w) (before j : Journal) (older_is : IsFound w.older (Whole before))
    (beside_is : IsFound w.beside (Whole j)) (newer_is : IsFound w.newer Nothing) (behind : is_behind j before ≡ true) where
  not_first : is_first j ≡ true → ⊥
  not_first first =
      let (all, s, is) = whole_found w.older before older_is in
      link_not_first before.check j.header.link (ap (λ (x : Journal). length x.check) is ∙ spelled_len w.older all s)
      (first_of (pointwise nat_eq before.check j.header.link) _ behind) first

  first_by : (place : Place) (older beside : Found) (found : Resumption) (check : Option (List ℕ)) (linked : (k : Journal) → is_linked k older ≡ is_first k)
      → start_of place (cut_found older) (Whole j) beside ≡ Resumes found check → is_first j ≡ true
  first_by place older beside found check linked starts =
      let (all, s, is) = whole_found w.beside j beside_is in
      let resumed = is_resumed place older beside all found check (ap (λ k. start_of place (cut_found older) (Whole k) beside) (sym is) ∙ starts) in
      subst (λ (x : Journal). is_first x ≡ true) (sym is) (sym (linked all) ∙ resumed.linked)

  goes_on_behind_it : (place : Place) (older beside : Found) (found : Resumption) (check : Option (List ℕ))
      → IsFound w.older older
      → start_of place older (Whole j) beside ≡ Resumes found check → goes_behind (Whole j) older ≡ true
  goes_on_behind_it place Nothing beside found check o starts = absurd (not_first (first_by place Nothing beside found check (λ k. refl) starts))
  goes_on_behind_it place (Broken lost) beside found check o starts =
      absurd (not_first (first_by place (Broken lost) beside found check (λ k. refl) starts))
  goes_on_behind_it place (Whole k) beside found check o starts = subst (λ x. is_behind j x ≡ true) (found_one w.older before k older_is o) behind

  finished_by : (place : Place) (older newer beside : Found) (found : Resumption) (check : Option (List ℕ))
      → IsFound w.older older → IsFound w.beside newer
      → IsFound None beside → next_start place older newer beside ≡ Resumes found check → low ≤ℤ found.floor
      → (below : ℤ) → below ≤ℤ found.floor
      → Knows below r found
  finished_by place older Nothing beside found check o n b starts late below under =
      absurd (uncut place older beside (goes_behind beside older) (none_beside w.older older beside o b) found check starts)
  finished_by place older (Broken lost) beside found check o n b starts late below under = absurd cc
  finished_by place older (Whole k) beside found check o n b starts late below under =
      let same = found_one w.beside k j n beside_is in
      let is : start_of place older (Whole j) beside ≡ Resumes found check =
      subst (λ (x : Journal). start_of place older (Whole x) beside ≡ Resumes found check) same starts in
      safe.knows place older Nothing (Whole j) found check o newer_is beside_is
      (subst (λ t. (if t then start_of place older (Whole j) Nothing else start_of place older Nothing (Whole j)) ≡ Resumes found check)
      (sym (goes_on_behind_it place older beside found check o is))
      (other_resumes place older beside Nothing j (doubt_of place older j) found check is)) late below under

  finished_safe : IsSafe low r (finished w)
  finished_safe = record {
    knows = λ place older newer beside found check o n b starts late below under.
        finished_by place older newer beside found check o n b starts late below under;
  }

pub finished_is_safe : FinishedIsSafe
finished_is_safe low r w older Nothing Nothing o n b cut safe = absurd cc
finished_is_safe low r w older Nothing (Broken lost) o n b cut safe = absurd cc
finished_is_safe low r w Nothing Nothing (Whole j) o n b cut safe = absurd cc
finished_is_safe low r w (Broken lost) Nothing (Whole j) o n b cut safe = absurd cc
finished_is_safe low r w (Whole before) Nothing (Whole j) o n b cut safe = finished_safe low r w safe before j o b n cut
finished_is_safe low r w older (Broken lost) beside o n b cut safe = absurd cc
finished_is_safe low r w older (Whole k) beside o n b cut safe = absurd cc

-- ---- what a turn that failed leaves

module _ (low : ℤ) (all : Resumption) (w : World) (check : List ℕ) (floor : Option ℤ) (whole : IsWhole low all w check floor) where
  -- another file beside is no matter to a whole journal
  pub whole_beside : (b : Option (List ℕ)) → IsWhole low all (with_beside b w) check floor
  whole_beside b = record {
    newer = whole.newer;
    text = whole.text;
    newer_is = whole.newer_is;
    spells = whole.spells;
    check_is = whole.check_is;
    hold = whole.hold;
    linked = whole.linked;
    above_newer = whole.above_newer;
    above_all_seen = whole.above_all_seen;
  }

  pub whole_before : (text : List ℕ) (new : World) → HasBeside text w new → IsWhole low all new check floor
  whole_before text new (inl same) = subst (λ x. IsWhole low all x check floor) (sym same) whole
  whole_before text new (inr (inl gone)) = subst (λ x. IsWhole low all x check floor) (sym gone) (whole_beside None)
  whole_before text new (inr (inr (part, rest, is, there))) = subst (λ x. IsWhole low all x check floor) (sym there) (whole_beside (Some part))

  pub turn_safe : (place : Place) (f : ℤ) (text next : List ℕ) (left : Left) (new : World) → floor ≡ Some f
      → BeginsJournal (begun place f check) text next → IsLeft Linked text left w new → IsSafe low all new
  turn_safe place f text next Before new is begins left = whole_safe low all new check floor (whole_before text new left)
  turn_safe place f text next Between new is begins left =
      subst (IsSafe low all) (sym left)
      (unfinished_safe low all (record { newer = None; older = w.newer; beside = Some text; seal = w.seal }) refl
      (whole_safe low all (with_file Linked text w) next (Some f) (whole_turned low all w check floor whole place f is text next begins)))
  turn_safe place f text next InPlace new is begins left =
      subst (IsSafe low all) (sym left)
      (whole_safe low all (with_file Linked text w) next (Some f) (whole_turned low all w check floor whole place f is text next begins))
