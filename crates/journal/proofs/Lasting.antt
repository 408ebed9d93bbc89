-- What a process kept stays in the files, and a start that refuses counts it.
use Rattle.std.proofs.Common.{◌≡◌, inl, inr, ◌+◌, ℕ, zero, suc, ℤ, pos, ◌+ℤ◌, ◌<ℤ◌, Bool, true, false, if◌then◌else◌, List, [], ◌∷◌, ◌++◌, map, length, Option, Some, None, refl, sym, ap, subst, ◌∙◌, append_assoc, arith}
use Rattle.std.specs.Prelude.{Contains, IfSome}
use Rattle.std.specs.Option.{IsSomeAnd}
use Rattle.std.proofs.lemmas.List.{length-append}
use Rattle.std.proofs.lemmas.List.Elements.{All-contains}
use Rattle.krb_der.specs.Spelling.{length_octets, tlv}
use Rattle.krb_elements.specs.Codec.{written}
use Rattle.replay.specs.declared.seen.Resumption.{Resumption}
use Rattle.replay.specs.declared.seen.Seen.{Seen}
use Rattle.journal.specs.Appending.{FoundIn}
use Rattle.journal.specs.Decision.{Place, above_all, came, floor_since, greater, is_cut, last_second, next_start, seen_of, shown_by, start_of}
use Rattle.journal.specs.Forms.{Entry, Header, entry, header}
use Rattle.journal.specs.Holding.{FileHas, FilesHave, IsFound, IsHeld, IsKept, IsStart, StillThere, TextHas, known_by}
use Rattle.journal.specs.Life.{AllCount, AreCalls, Call, IsKeptIn, IsProcess, IsReadOut, IsStage, JournalState, LeavesThere, LivesHold, Process, Serves, Stage, StageCounts, StaysThere, ThereIsCounted}
use Rattle.journal.specs.Life.{all_after, kept_by_process, past_of, result_of}
use Rattle.journal.specs.Life.Stage.{Ran, Finished, Sealed, Lost}
use Rattle.journal.specs.Appending.{kept_by}
use Rattle.journal.specs.Showing.{AreFrom, BeginsWith, Shown, Shows, StandsAt, behind_head, element_length, entry_floor, floor_with, head_floor}
use Rattle.journal.specs.Texts.{HaveElements, chained, check_of, checked, header_check}
use Rattle.journal.specs.World.{World, finished}
use Rattle.journal.specs.declared.decision.ResumeRefusal.{ResumeRefusal}
use Rattle.journal.specs.declared.decision.Found.{Found}
use Rattle.journal.specs.declared.decision.Found.TheVariants.{Nothing, Broken, Whole}
use Rattle.journal.specs.declared.decision.Start.TheVariants.{Refuses}
use Rattle.journal.specs.declared.reading.Journal.{Journal}
use Rattle.journal.proofs.Chains.{have_first, one_first}
use Rattle.journal.proofs.Held.{all_above, all_stays, lt_le}
use Rattle.journal.proofs.Life.{all_is_kept, calls_kept, kept_is_refused, leaves_no_seal, next_boot_refuses, process_is_safe, starts_are_later, stays_safe}
use Rattle.journal.proofs.Remaining.{finished_there, has_spelled, kept_is_there}
use Rattle.journal.proofs.Showings.{head_one, one_place, over_first, over_one, over_second, over_since, over_with, refused_floor, shown_is_refused, stands_one}
use Rattle.journal.proofs.Staying.{same_there, there_twice}
use Rattle.journal.proofs.Walks.{check_len, checked_len, floor_both}

-- ---- a process

calls_there : (seen : Seen) (low : ℤ) (kept all : Resumption) (calls : List Call) (old new : JournalState) → AreCalls calls old new
    → IsKeptIn low kept all old → StillThere seen old.files new.files
calls_there seen low kept all [] old new same is = same_there seen old.files new.files (ap (λ (s : JournalState). s.files) same)
calls_there seen low kept all (call ∷ calls) old new (next, step, rest) is =
    there_twice seen old.files next.files new.files (step.there low kept all is seen)
    (calls_there seen low (kept_by (result_of call) kept (all_after all call)) (all_after all call) calls next new rest (step.kept low kept all is))

still_one : (seen : Seen) (a b : Option World) (old new : World) → a ≡ Some old → b ≡ Some new → StillThere seen a b → FilesHave old seen → FilesHave new seen
still_one seen a b old new first second still =
    subst (λ o. StillThere seen (Some old) o) second (subst (λ o. StillThere seen o b) first still)

module _ (p : Process) (old new : World) (is : IsProcess p old new) where
  abbrev known : Resumption
  known = known_by p.floor p.start

  module _ (begun : p.has_begun ≡ true) where
    made : AreCalls p.calls is.begun is.last
    made = subst (λ b. Serves b p.calls is.begun is.last) begun is.serves

    abbrev low : ℤ
    low = (past_of p).low

    begins : IsKeptIn low known known is.begun
    begins = is.begins.kept begun p.floor is.floor (subst (λ w. IfSome w (IsStart p.at p.floor p.newer p.start)) (sym is.found) is.start)

    leaves_there : (seen : Seen) → Contains (kept_by_process p).seen seen → FilesHave new seen
    leaves_there seen has =
        let (all, kept) = calls_kept low known known p.calls is.begun is.last made begins in
        subst (λ w. IfSome w (λ w. FilesHave w seen)) is.left (by_files all is.last.files kept)
      where
        by_files : (all : Resumption) (files : Option World) → IfSome files (λ w. IsKept low (kept_by_process p) all w is.last.tail is.last.floor)
            → IfSome files (λ w. FilesHave w seen)
        by_files all None kept = tt
        by_files all (Some w) kept = kept_is_there low (kept_by_process p) all w is.last.tail is.last.floor kept seen has

    served_there : (seen : Seen) → StageCounts seen (Ran p) → FilesHave old seen → FilesHave new seen
    served_there seen counts has =
        still_one seen is.first.files is.last.files old new is.found is.left
        (there_twice seen is.first.files is.begun.files is.last.files
        (is.begins.there begun p.floor seen is.floor (subst (λ w. IfSome w (IsStart p.at p.floor p.newer p.start)) (sym is.found) is.start) (counts begun))
        (calls_there seen low known known p.calls is.begun is.last made begins)) has

  failed_there : p.has_begun ≡ false → (seen : Seen) → FilesHave old seen → FilesHave new seen
  failed_there failed seen has =
      let same : is.last ≡ is.begun = subst (λ b. Serves b p.calls is.begun is.last) failed is.serves in
      still_one seen is.first.files is.last.files old new is.found is.left
      (subst (λ (s : JournalState). StillThere seen is.first.files s.files) (sym same) (is.begins.stays seen failed)) has

  process_there : (seen : Seen) → StageCounts seen (Ran p) → FilesHave old seen → FilesHave new seen
  process_there seen counts has = by_begun p.has_begun refl
    where
      by_begun : (b : Bool) → p.has_begun ≡ b → FilesHave new seen
      by_begun true begun = served_there begun seen counts has
      by_begun false failed = failed_there failed seen has

leaves_it_there : LeavesThere
leaves_it_there p old new begun is seen has = leaves_there p old new is begun seen has

-- ---- a life

cut_there : (w : World) (older newer beside : Found) (seen : Seen) → IsFound w.older older → IsFound w.newer newer → IsFound w.beside beside
    → is_cut older newer beside ≡ true → FilesHave w seen → FilesHave (finished w) seen
cut_there w older Nothing Nothing seen o n b cut has = absurd cc
cut_there w older Nothing (Broken lost) seen o n b cut has = absurd cc
cut_there w Nothing Nothing (Whole j) seen o n b cut has = absurd cc
cut_there w (Broken lost) Nothing (Whole j) seen o n b cut has = absurd cc
cut_there w (Whole before) Nothing (Whole j) seen o n b cut has = finished_there w before j seen o n b cut has
cut_there w older (Broken lost) beside seen o n b cut has = absurd cc
cut_there w older (Whole k) beside seen o n b cut has = absurd cc

stage_there : (seen : Seen) (stage : Stage) (old new : World) → IsStage stage old new → StageCounts seen stage → FilesHave old seen → FilesHave new seen
stage_there seen (Ran p) old new is counts has = process_there p old new is seen counts has
stage_there seen Finished old new (finds, same) counts has =
    subst (λ w. FilesHave w seen) (sym same)
    (cut_there old finds.older finds.newer finds.beside seen finds.older_found finds.newer_found finds.beside_found finds.cut has)
stage_there seen Sealed old new (seal, same) counts has = subst (λ w. FilesHave w seen) (sym same) has
stage_there seen Lost old new is counts has = absurd counts

stays_there : StaysThere
unfolding AllCount
stays_there seen [] old new has same counts = subst (λ w. FilesHave w seen) (sym same) has
stays_there seen (stage ∷ life) old new has (next, is, rest) counts =
    stays_there seen life next new (stage_there seen stage old next is counts.0 has) rest counts.1

-- ---- a text shows the entries that it has

tlv_parts : (c : List ℕ) → tlv 4 c ≡ (4 ∷ length_octets (length c)) ++ c
unfolding tlv
tlv_parts c = refl

regrouped : (fb t l c more rest : List ℕ) → fb ++ (((t ++ (l ++ c)) ++ more) ++ rest) ≡ ((fb ++ (t ++ l)) ++ c) ++ (more ++ rest)
regrouped fb t l c more rest =
    ap (λ x. fb ++ x)
    (append_assoc (t ++ (l ++ c)) more rest ∙ (append_assoc t (l ++ c) (more ++ rest) ∙ ap (λ x. t ++ x) (append_assoc l c (more ++ rest))))
    ∙ (ap (λ x. fb ++ x) (sym (append_assoc t l (c ++ (more ++ rest))))
    ∙ (sym (append_assoc fb (t ++ l) (c ++ (more ++ rest))) ∙ sym (append_assoc (fb ++ (t ++ l)) c (more ++ rest))))

none_first : (n : ℕ) → length {A = ℕ} [] + n ≡ n
none_first n = omega arith

-- what stands behind an element, and the 16 octets before it
module _ (fb before element more rest : List ℕ) where
  abbrev c : List ℕ
  c = check_of before element

  abbrev front : List ℕ
  front = fb ++ (tlv 4 element ++ (4 ∷ length_octets (length c)))

  behind_text : fb ++ ((checked before element ++ more) ++ rest) ≡ (front ++ c) ++ (more ++ rest)
  behind_text =
      ap (λ x. fb ++ (((tlv 4 element ++ x) ++ more) ++ rest)) (tlv_parts c)
      ∙ regrouped fb (tlv 4 element) (4 ∷ length_octets (length c)) c more rest

  behind_length : length (front ++ c) ≡ length fb + element_length element
  behind_length =
      ap length (append_assoc fb (tlv 4 element ++ (4 ∷ length_octets (length c))) c
      ∙ ap (λ x. fb ++ x) (append_assoc (tlv 4 element) (4 ∷ length_octets (length c)) c ∙ ap (λ x. tlv 4 element ++ x) (sym (tlv_parts c))))
      ∙ (length-append fb (checked before element) ∙ ap (λ n. length fb + n) (checked_len before element))

module _ (text rest : List ℕ) where
  abbrev front_of : Entry → List ℕ → List ℕ → List ℕ
  front_of e front before = (front ++ before) ++ (tlv 4 (written entry e) ++ (4 ∷ length_octets (length (check_of before (written entry e)))))

  one_stands : (n : ℕ) (e : Entry) (es : List Entry) (front before : List ℕ) → text ≡ (front ++ before) ++ (chained before (e ∷ es) ++ rest)
      → length (front ++ before) ≡ n → length before ≡ 16 → HaveElements (e ∷ es) → StandsAt text n e
  one_stands n e es front before is place sixteen have = record {
    front = front;
    before = before;
    rest = chained (check_of before (written entry e)) es ++ rest;
    text_is = is ∙ (ap (λ l. (front ++ before) ++ (l ++ rest)) (one_first before e es)
        ∙ ap (λ l. (front ++ before) ++ l) (append_assoc (checked before (written entry e)) (chained (check_of before (written entry e)) es) rest));
    place_is = place;
    sixteen = sixteen;
    has = (have_first e es have).0;
  }

  front_shown : (n : ℕ) (es xs : List Entry) (front before : List ℕ) → text ≡ (front ++ before) ++ (chained before es ++ rest)
      → length (front ++ before) ≡ n → length before ≡ 16 → HaveElements es → AreFrom text n xs
      → (others : List Entry) × (xs ≡ es ++ others)
  unfolding AreFrom
  front_shown n [] xs front before is place sixteen have from = (xs, refl)
  front_shown n (e ∷ es) [] front before is place sixteen have from =
      absurd (from n (omega arith) e (one_stands n e es front before is place sixteen have))
  front_shown n (e ∷ es) (x ∷ xs) front before is place sixteen have (p, le, free, stands, later) =
      let first = one_stands n e es front before is place sixteen have in
      let here : p ≡ n = one_place p n (λ lt. absurd (omega (arith, lt, le))) (λ lt. free n (omega arith) lt e first) in
      let same : e ≡ x = stands_one text n e x first (subst (λ q. StandsAt text q x) here stands) in
      let next : AreFrom text (n + element_length (written entry e)) xs =
      subst (λ (y : Entry). AreFrom text (n + element_length (written entry y)) xs) (sym same)
      (subst (λ q. AreFrom text (q + element_length (written entry x)) xs) here later) in
      let (others, are) = front_shown (n + element_length (written entry e)) es xs (front_of e front before) (check_of before (written entry e))
      (is ∙ (ap (λ l. (front ++ before) ++ (l ++ rest)) (one_first before e es)
      ∙ behind_text (front ++ before) before (written entry e) (chained (check_of before (written entry e)) es) rest))
      (behind_length (front ++ before) before (written entry e) (chained (check_of before (written entry e)) es) rest ∙ ap (λ m. m + element_length (written entry e)) place)
      (check_len before (written entry e)) (have_first e es have).1 next in
      (others, ap (λ l. x ∷ l) are ∙ ap (λ y. y ∷ (es ++ others)) (sym same))

-- ---- and its floor is above them

over_seen : (floor : Option ℤ) (es : List Entry) (s : Seen) → Contains (map seen_of es) s → s.ctime <ℤ last_second
    → IsSomeAnd (floor_with floor es) (λ f. s.ctime <ℤ f)
over_seen floor [] s (k, lt, is) early = absurd (omega (arith, lt))
over_seen floor (x ∷ xs) s (zero, lt, is) early =
    over_with s.ctime (greater floor (Some (entry_floor x))) xs
    (over_second s.ctime floor (Some (entry_floor x))
    (subst (λ (y : Seen). y.ctime <ℤ entry_floor x) is
    (over_since x.ctime (x.ctime +ℤ pos 1) (came x) (over_one x.ctime) (subst (λ (y : Seen). y.ctime <ℤ last_second) (sym is) early))))
over_seen floor (x ∷ xs) s (suc k, lt, is) early = over_seen (greater floor (Some (entry_floor x))) xs s (k, omega (arith, lt), is) early

module _ (seen : Seen) (early : seen.ctime <ℤ last_second) where
  abbrev Over : Option ℤ → Type 0
  Over floor = IsSomeAnd floor (λ f. seen.ctime <ℤ f)

  held_high : (floor : ℤ) (es : List Entry) → IsHeld floor es seen → seen.ctime <ℤ above_all floor es
  held_high floor es (inl lt) = lt_le seen.ctime floor (above_all floor es) lt (all_stays floor es)
  held_high floor es (inr has) = All-contains (λ (s : Seen). s.ctime <ℤ above_all floor es) (map seen_of es) seen (all_above floor es) has

  held_over : (h : Header) (es : List Entry) → IsHeld h.floor es seen → Over (floor_with (head_floor (Some h)) es)
  held_over h es (inl lt) = over_with seen.ctime (head_floor (Some h)) es (over_since seen.ctime h.floor h.at lt early)
  held_over h es (inr has) = over_seen (head_floor (Some h)) es seen has early

  -- of a text that is no whole journal
  broken_over : (text : List ℕ) (shown : Shown) → Shows text shown → (has : TextHas text seen) → Over (floor_with (head_floor shown.head) shown.entries)
  broken_over text shown shows has =
      let h = has.header in
      let first : BeginsWith text h =
      record {
        rest = chained (header_check h) has.entries ++ has.rest;
        text_is = has.text_is ∙ append_assoc (checked h.link (written header h)) (chained (header_check h) has.entries) has.rest;
        has = has.has_header;
      } in
      let head : shown.head ≡ Some h = head_one text shown.head (Some h) shows.head first in
      let (others, are) = front_shown text has.rest (element_length (written header h)) has.entries shown.entries
      ([] ++ (tlv 4 (written header h) ++ (4 ∷ length_octets (length (header_check h))))) (header_check h)
      (has.text_is ∙ behind_text [] h.link (written header h) (chained (header_check h) has.entries) has.rest)
      (behind_length [] h.link (written header h) (chained (header_check h) has.entries) has.rest ∙ none_first (element_length (written header h)))
      (check_len h.link (written header h)) has.have_elements
      (subst (λ o. AreFrom text (behind_head o) shown.entries) head shows.entries) in
      subst (λ o. Over (floor_with (head_floor o) shown.entries)) (sym head)
      (subst (λ l. Over (floor_with (head_floor (Some h)) l)) (sym are)
      (subst Over (sym (floor_both (head_floor (Some h)) has.entries others))
      (over_with seen.ctime (floor_with (head_floor (Some h)) has.entries) others (held_over h has.entries has.held))))

  over_text : (text : List ℕ) (found : Found) → FoundIn text found → TextHas text seen → Over (shown_by found)
  over_text text Nothing read has = absurd read
  over_text text (Broken floor) (none, shown, shows, is) has = subst Over (sym is) (broken_over text shown shows has)
  over_text text (Whole k) (all, spells, is) has =
      subst (λ (x : Journal). seen.ctime <ℤ floor_since x.high x.latest) (sym is)
      (over_since seen.ctime all.high all.latest
      (subst (λ h. seen.ctime <ℤ h) (sym spells.sums.high_is) (held_high all.header.floor all.entries (has_spelled text all seen spells has))) early)

  over_file : (file : Option (List ℕ)) (found : Found) → IsReadOut file found → FileHas seen file → Over (shown_by found)
  over_file None found read has = absurd has
  over_file (Some text) found read has = over_text text found read has

  -- the older file is there alone
  older_over : (place : Place) (older newer beside : Found) (doubt : ResumeRefusal) (floor : Option ℤ) → next_start place older newer beside ≡ Refuses doubt floor
      → Over (shown_by older) → Over floor
  older_over place older newer beside doubt floor refuses over = by_cut (is_cut older newer beside) refuses
    where
      by_cut : (b : Bool) → (if b then start_of place older beside Nothing else start_of place older newer beside) ≡ Refuses doubt floor → Over floor
      by_cut true is =
          subst Over (refused_floor place older beside Nothing doubt floor is)
          (over_first seen.ctime (shown_by older) (greater (shown_by beside) (shown_by Nothing)) over)
      by_cut false is =
          subst Over (refused_floor place older newer beside doubt floor is)
          (over_first seen.ctime (shown_by older) (greater (shown_by newer) (shown_by beside)) over)

  -- or the newer one is there, so no turn was cut
  newer_over : (text : List ℕ) (place : Place) (older newer beside : Found) (doubt : ResumeRefusal) (floor : Option ℤ)
      → next_start place older newer beside ≡ Refuses doubt floor
      → FoundIn text newer → TextHas text seen → Over floor
  newer_over text place older Nothing beside doubt floor refuses read has = absurd read
  newer_over text place older (Broken lost) beside doubt floor refuses read has =
      subst Over (refused_floor place older (Broken lost) beside doubt floor refuses)
      (over_second seen.ctime (shown_by older) (greater (shown_by (Broken lost)) (shown_by beside))
      (over_first seen.ctime (shown_by (Broken lost)) (shown_by beside) (over_text text (Broken lost) read has)))
  newer_over text place older (Whole j) beside doubt floor refuses read has =
      subst Over (refused_floor place older (Whole j) beside doubt floor refuses)
      (over_second seen.ctime (shown_by older) (greater (shown_by (Whole j)) (shown_by beside))
      (over_first seen.ctime (shown_by (Whole j)) (shown_by beside) (over_text text (Whole j) read has)))

  newer_file_over : (file : Option (List ℕ)) (place : Place) (older newer beside : Found) (doubt : ResumeRefusal) (floor : Option ℤ)
      → next_start place older newer beside ≡ Refuses doubt floor
      → IsReadOut file newer → FileHas seen file → Over floor
  newer_file_over None place older newer beside doubt floor refuses read has = absurd has
  newer_file_over (Some text) place older newer beside doubt floor refuses read has =
      newer_over text place older newer beside doubt floor refuses read has

there_is_counted : ThereIsCounted
there_is_counted w place older newer beside doubt floor o n b refuses seen (inl has) early =
    newer_file_over seen early w.newer place older newer beside doubt floor refuses n has
there_is_counted w place older newer beside doubt floor o n b refuses seen (inr (none, has)) early =
    older_over seen early place older newer beside doubt floor refuses (over_file seen early w.older older o has)

pub lives_hold : LivesHold
lives_hold = record {
  safe = process_is_safe;
  stays = stays_safe;
  refused = kept_is_refused;
  all_kept = all_is_kept;
  later = starts_are_later;
  no_seal = leaves_no_seal;
  next_boot = next_boot_refuses;
  leaves = leaves_it_there;
  there = stays_there;
  counted = there_is_counted;
  shown = shown_is_refused;
}
