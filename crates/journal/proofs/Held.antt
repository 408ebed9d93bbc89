-- What two journals hold, and why a start that resumes with them refuses it.
use Rattle.std.proofs.Common.{◌≡◌, ◌⊎◌, inl, inr, ℕ, zero, suc, ℤ, pos, ◌-ℤ◌, ◌≤ℤ◌, ◌<ℤ◌, Bool, true, false, cond, not, ◌&&◌, ◌||◌, if◌then◌else◌, List, [], ◌∷◌, ◌++◌, map, Option, Some, refl, sym, ap, subst, ◌∙◌, append_assoc, arith}
use Rattle.std.specs.Prelude.{All, Contains, ⊤, int_le, int_lt, nat_eq}
use Rattle.std.specs.Int.{int_max}
use Rattle.std.specs.Cmp.{Equal-is}
use Rattle.std.specs.Cmp.Lexicographic.{pointwise}
use Rattle.std.specs.FinMap as finmap
use Rattle.std.specs.FinMap.{get-empty, get-insert}
use Rattle.std.specs.Option.{is_some}
use Rattle.std.specs.Ordering.{eq_by_cmp}
use Rattle.std.proofs.lemmas.Bool.{false≢true}
use Rattle.std.proofs.lemmas.Int.{ints, clamps}
use Rattle.std.proofs.lemmas.List.{append-nil, map-append}
use Rattle.std.proofs.lemmas.List.Elements.{All-append, All-contains, All-contains_itself, All-head, All-nil, All-push, All-same, All-tail, All-weaker, Contains-append_cases, Contains-append_left, Contains-append_right, All-cons}
use Rattle.krb_elements.specs.Codec.{written}
use Rattle.krb_fields.specs.Name.{Components, name_cmp}
use Rattle.krb_fields.specs.Skew.{skew}
use Rattle.replay.proofs.Holding.{by_first, either_of, extended_holds, last_spent}
use Rattle.replay.proofs.Stamps.{stamp_exact, stamp_total}
use Rattle.replay.specs.Kept.{nothing_kept}
use Rattle.replay.specs.Opening.{opening_floor}
use Rattle.replay.specs.Resumed.{Holds, is_spent, resumed_cache, stamp_seen, with_all_seen, with_seen}
use Rattle.replay.specs.Stamp.{Stamp, stamp_cmp}
use Rattle.replay.specs.declared.keep.Kept.{Kept}
use Rattle.replay.specs.declared.opening.Opening.TheVariants.{Restart}
use Rattle.replay.specs.declared.seen.Resumption.{Resumption}
use Rattle.replay.specs.declared.seen.Seen.{Seen}
use Rattle.krb_fields.specs.declared.moment.Moment.{Moment}
use Rattle.journal.specs.Decision.{Place, above, above_all, entries_behind, floor_behind, floor_on, is_above, is_behind, is_early, is_first, is_linked, latest_of, recent, resumed_floor, resumption_of, seen_of}
use Rattle.journal.proofs.Chains.{chained-one, have_none, have_one_more, last-one}
use Rattle.journal.specs.Forms.{Entry, Header, entry, header}
use Rattle.journal.specs.Keeping.{BeginsJournal, KeepsEntry, begun}
use Rattle.journal.specs.Texts.{chained, check_of, checked, header_check, last_check}
use Rattle.journal.specs.Holding.{HasSums, HoldAll, IsAbove, IsHeld, Knows, Spells, cut, cut_found, held_in, with_one}
use Rattle.journal.specs.declared.decision.Found.{Found}
use Rattle.journal.specs.declared.decision.Found.TheVariants.{Nothing, Broken, Whole}
use Rattle.journal.specs.declared.reading.Journal.{Journal}

-- ---- numbers

pub same_le : (a : ℤ) → a ≤ℤ a
same_le a = grind (arith, ints)

le_le : (a b c : ℤ) → a ≤ℤ b → b ≤ℤ c → a ≤ℤ c
le_le a b c x y = grind (arith, ints)

pub lt_le : (a b c : ℤ) → a <ℤ b → b ≤ℤ c → a <ℤ c
lt_le a b c x y = grind (arith, ints)

max_first : (a b : ℤ) → a ≤ℤ int_max a b
max_first a b = grind (arith, ints, clamps)

max_second : (a b : ℤ) → b ≤ℤ int_max a b
max_second a b = grind (arith, ints, clamps)

max_under : (a b c : ℤ) → a ≤ℤ b → int_max a c ≤ℤ int_max b c
max_under a b c x = grind (arith, ints, clamps)

max_both : (a b c d : ℤ) → a ≤ℤ int_max b c → c ≤ℤ d → int_max a d ≤ℤ int_max b d
max_both a b c d x y = grind (arith, ints, clamps)

max_of : (a b c : ℤ) → a ≤ℤ c → b ≤ℤ c → int_max a b ≤ℤ c
max_of a b c x y = grind (arith, ints, clamps)

pub one_above : (floor ctime : ℤ) → ctime <ℤ above floor ctime
one_above floor ctime = grind (arith, ints, clamps)

floor_stays : (floor ctime : ℤ) → floor ≤ℤ above floor ctime
floor_stays floor ctime = grind (arith, ints, clamps)

one_within : (floor ctime high : ℤ) → floor ≤ℤ high → ctime <ℤ high → above floor ctime ≤ℤ high
one_within floor ctime high a b = grind (arith, ints, clamps)

max_within : (a b c d e : ℤ) → a ≤ℤ int_max b c → b ≤ℤ e → c ≤ℤ e → d ≤ℤ e → int_max a d ≤ℤ e
max_within a b c d e w x y z = grind (arith, ints, clamps)

-- ---- floors above

pub rises_above : (floor : ℤ) (r : Resumption) (seen : Seen) → IsAbove floor r → IsAbove (above floor seen.ctime) (with_one r seen)
rises_above floor r seen a = record {
  floor_above = le_le r.floor floor (above floor seen.ctime) a.floor_above (floor_stays floor seen.ctime);
  times_above = All-push (λ s. s.ctime <ℤ above floor seen.ctime) r.seen seen
      (All-weaker (λ s. s.ctime <ℤ floor) (λ s. s.ctime <ℤ above floor seen.ctime)
      (λ s lt. lt_le s.ctime floor (above floor seen.ctime) lt (floor_stays floor seen.ctime)) r.seen a.times_above)
      (one_above floor seen.ctime);
}

pub stays_above : (floor : ℤ) (r : Resumption) (seen : Seen) → IsAbove floor r → IsAbove (above floor seen.ctime) r
stays_above floor r seen a = record {
  floor_above = le_le r.floor floor (above floor seen.ctime) a.floor_above (floor_stays floor seen.ctime);
  times_above = All-weaker (λ s. s.ctime <ℤ floor) (λ s. s.ctime <ℤ above floor seen.ctime)
      (λ s lt. lt_le s.ctime floor (above floor seen.ctime) lt (floor_stays floor seen.ctime)) r.seen a.times_above;
}

pub all_stays : (floor : ℤ) (es : List Entry) → floor ≤ℤ above_all floor es
all_stays floor [] = same_le floor
all_stays floor (e ∷ es) =
    le_le floor (above floor e.ctime) (above_all (above floor e.ctime) es) (floor_stays floor e.ctime) (all_stays (above floor e.ctime) es)

pub all_above : (floor : ℤ) (es : List Entry) → All (λ (s : Seen). s.ctime <ℤ above_all floor es) (map seen_of es)
all_above floor [] = All-nil (λ (s : Seen). s.ctime <ℤ floor)
all_above floor (e ∷ es) =
    All-cons (λ (s : Seen). s.ctime <ℤ above_all (above floor e.ctime) es) (seen_of e) (map seen_of es)
    (lt_le e.ctime (above floor e.ctime) (above_all (above floor e.ctime) es) (one_above floor e.ctime) (all_stays (above floor e.ctime) es))
    (all_above (above floor e.ctime) es)

-- the least one that is
least_above : (floor high : ℤ) (es : List Entry) → floor ≤ℤ high → All (λ (s : Seen). s.ctime <ℤ high) (map seen_of es) → above_all floor es ≤ℤ high
least_above floor high [] le all = le
least_above floor high (e ∷ es) le all =
    least_above (above floor e.ctime) high es
    (one_within floor e.ctime high le (All-head (λ (s : Seen). s.ctime <ℤ high) (seen_of e) (map seen_of es) all))
    (All-tail (λ (s : Seen). s.ctime <ℤ high) (seen_of e) (map seen_of es) all)

le_test : (a b : ℤ) → a ≤ℤ b → int_le a b ≡ true
le_test a b x = grind (arith, ints)

test_is_le : (a b : ℤ) → int_le a b ≡ true → a ≤ℤ b
test_is_le a b x = grind (arith, ints)

-- what the code tests of two journals says what it is to say
pub above_test : (j before : Journal) → HasSums before → IsAbove j.header.floor (held_in before) → is_above j before ≡ true
above_test j before sums a =
    subst (λ h. int_le h j.header.floor ≡ true) (sym sums.high_is)
    (le_test _ j.header.floor (least_above before.header.floor j.header.floor before.entries a.floor_above a.times_above))

pub test_above : (j before : Journal) → HasSums before → is_above j before ≡ true → IsAbove j.header.floor (held_in before)
test_above j before sums test =
    let le = test_is_le (above_all before.header.floor before.entries) j.header.floor (subst (λ h. int_le h j.header.floor ≡ true) sums.high_is test) in
    record {
      floor_above = le_le before.header.floor (above_all before.header.floor before.entries) j.header.floor (all_stays before.header.floor before.entries) le;
      times_above = All-weaker (λ (s : Seen). s.ctime <ℤ above_all before.header.floor before.entries) (λ s. s.ctime <ℤ j.header.floor)
          (λ s lt. lt_le s.ctime (above_all before.header.floor before.entries) j.header.floor lt le) (map seen_of before.entries)
          (all_above before.header.floor before.entries);
    }

pub second_of : (a b : Bool) → (a && b) ≡ true → b ≡ true
second_of true b e = e
second_of false b e = absurd cc

linked_if : (b c : Bool) → (b || c) ≡ true → b ≡ false → c ≡ true
linked_if true c e not = absurd cc
linked_if false c e not = e

-- a journal that is linked to another one has a floor above all of it
pub linked_above : (j before : Journal) → HasSums before → is_linked j (Whole before) ≡ true → is_first j ≡ false → IsAbove j.header.floor (held_in before)
linked_above j before sums linked not_first =
    test_above j before sums
    (second_of (pointwise nat_eq before.check j.header.link) (is_above j before) (linked_if (is_first j) (is_behind j before) linked not_first))

-- the sums of what was found
abbrev pub HaveSums : Found → Type 0
HaveSums Nothing = ⊤
HaveSums (Broken lost) = ⊤
HaveSums (Whole before) = HasSums before

-- ---- more entries

abbrev pub with_entries : Journal → List Entry → List ℕ → Journal
with_entries j others check = record {
  header = j.header;
  entries = j.entries ++ others;
  check = check;
  latest = latest_of j.header.at (j.entries ++ others);
  high = above_all j.header.floor (j.entries ++ others);
}

pub held_more : (floor : ℤ) (es more : List Entry) (s : Seen) → IsHeld floor es s → IsHeld floor (es ++ more) s
held_more floor es more s (inl lt) = inl lt
held_more floor es more s (inr has) =
    inr (subst (λ l. Contains l s) (sym (map-append seen_of es more)) (Contains-append_left (map seen_of es) (map seen_of more) s has))

held_last : (floor : ℤ) (es : List Entry) (e : Entry) → IsHeld floor (es ++ e ∷ []) (seen_of e)
held_last floor es e =
    inr (subst (λ l. Contains l (seen_of e)) (sym (map-append seen_of es (e ∷ [])))
    (Contains-append_right (map seen_of es) (seen_of e ∷ []) (seen_of e) (0, omega arith, refl)))

if_more : (b : Bool) (es others more : List Entry)
    → (if b then es ++ more else others ++ (es ++ more)) ≡ (if b then es else others ++ es) ++ more
if_more true es others more = refl
if_more false es others more = sym (append_assoc others es more)

module _ (newer : Journal) (more : List Entry) (check : List ℕ) where
  floor_more : (older : Found) → floor_behind (with_entries newer more check) older ≡ floor_behind newer older
  floor_more Nothing = refl
  floor_more (Broken lost) = refl
  floor_more (Whole before) = refl

  behind_more : (older : Found) → entries_behind (with_entries newer more check) older ≡ entries_behind newer older ++ more
  behind_more Nothing = refl
  behind_more (Broken lost) = refl
  behind_more (Whole before) = if_more (is_first newer) newer.entries before.entries more

  pub linked_more : (older : Found) → is_linked (with_entries newer more check) older ≡ is_linked newer older
  linked_more Nothing = refl
  linked_more (Broken lost) = refl
  linked_more (Whole before) = refl

  module _ (older : Found) (low : ℤ) (r : Resumption) (hold : HoldAll older newer low r) where
    abbrev all_more : All (IsHeld (floor_behind newer older) (entries_behind newer older ++ more)) r.seen
    all_more =
        All-weaker (IsHeld (floor_behind newer older) (entries_behind newer older)) (IsHeld (floor_behind newer older) (entries_behind newer older ++ more))
        (held_more (floor_behind newer older) (entries_behind newer older) more) r.seen hold.seen

    module _ (all : Resumption) (same : all.floor ≡ r.floor) (seen : All (IsHeld (floor_behind newer older) (entries_behind newer older ++ more)) all.seen) where
      joined : HoldAll older (with_entries newer more check) low all
      joined = record {
        floor = subst (λ f. all.floor ≤ℤ int_max f low) (sym (floor_more older)) (subst (λ (f : ℤ). f ≤ℤ int_max (floor_behind newer older) low) (sym same) hold.floor);
        seen = subst (λ f. All (IsHeld f (entries_behind (with_entries newer more check) older)) all.seen) (sym (floor_more older))
            (subst (λ es. All (IsHeld (floor_behind newer older) es) all.seen) (sym (behind_more older)) seen);
      }

    pub hold_more : HoldAll older (with_entries newer more check) low r
    hold_more = joined r refl all_more

pub hold_one : (newer : Journal) (e : Entry) (check : List ℕ) (older : Found) (low : ℤ) (r : Resumption) → HoldAll older newer low r
    → HoldAll older (with_entries newer (e ∷ []) check) low (with_one r (seen_of e))
hold_one newer e check older low r hold =
    joined newer (e ∷ []) check older low r hold (with_one r (seen_of e)) refl
    (All-push (IsHeld (floor_behind newer older) (entries_behind newer older ++ e ∷ [])) r.seen (seen_of e) (all_more newer (e ∷ []) check older low r hold)
    (held_last (floor_behind newer older) (entries_behind newer older) e))

pub above_one : (floor : ℤ) (newer : Journal) (e : Entry) (check : List ℕ) → IsAbove floor (held_in newer)
    → IsAbove (above floor e.ctime) (held_in (with_entries newer (e ∷ []) check))
above_one floor newer e check a =
    subst (λ seen. IsAbove (above floor e.ctime) (record { floor = newer.header.floor; seen = seen })) (sym (map-append seen_of newer.entries (e ∷ [])))
    (rises_above floor (held_in newer) (seen_of e) a)

-- ---- another file

-- a file that was begun, before its first entry
abbrev pub fresh : Place → ℤ → List ℕ → Journal
fresh place floor link = record {
  header = begun place floor link;
  entries = [];
  check = header_check (begun place floor link);
  latest = place.at.sec;
  high = floor;
}

-- what both files hold, the newer one holds alone
module _ (before newer : Journal) where
  in_newer : (s : Seen) → IsAbove newer.header.floor (held_in before) → IsHeld before.header.floor (before.entries ++ newer.entries) s
      → IsHeld newer.header.floor newer.entries s
  in_newer s a (inl lt) = inl (lt_le s.ctime before.header.floor newer.header.floor lt a.floor_above)
  in_newer s a (inr has) =
      by_part (Contains-append_cases (map seen_of before.entries) (map seen_of newer.entries) s
      (subst (λ l. Contains l s) (map-append seen_of before.entries newer.entries) has))
    where
      by_part : Contains (map seen_of before.entries) s ⊎ Contains (map seen_of newer.entries) s → IsHeld newer.header.floor newer.entries s
      by_part (inl old) = inl (All-contains (λ (x : Seen). x.ctime <ℤ newer.header.floor) (map seen_of before.entries) s a.times_above old)
      by_part (inr new) = inr new

  alone_if : (b : Bool) → (b ≡ false → IsAbove newer.header.floor (held_in before)) → (s : Seen)
      → IsHeld (if b then newer.header.floor else before.header.floor) (if b then newer.entries else before.entries ++ newer.entries) s
      → IsHeld newer.header.floor newer.entries s
  alone_if true a s held = held
  alone_if false a s held = in_newer s (a refl) held

  floor_if : (b : Bool) → (b ≡ false → IsAbove newer.header.floor (held_in before))
      → (if b then newer.header.floor else before.header.floor) ≤ℤ newer.header.floor
  floor_if true a = same_le newer.header.floor
  floor_if false a = (a refl).floor_above

pub held_alone : (older : Found) (newer : Journal) → HaveSums older → is_linked newer older ≡ true → (s : Seen)
    → IsHeld (floor_behind newer older) (entries_behind newer older) s → IsHeld newer.header.floor newer.entries s
held_alone Nothing newer sums linked s held = held
held_alone (Broken lost) newer sums linked s held = held
held_alone (Whole before) newer sums linked s held = alone_if before newer (is_first newer) (linked_above newer before sums linked) s held

pub floor_alone : (older : Found) (newer : Journal) → HaveSums older → is_linked newer older ≡ true → floor_behind newer older ≤ℤ newer.header.floor
floor_alone Nothing newer sums linked = same_le newer.header.floor
floor_alone (Broken lost) newer sums linked = same_le newer.header.floor
floor_alone (Whole before) newer sums linked = floor_if before newer (is_first newer) (linked_above newer before sums linked)

-- above all is held by a floor
all_below : (floor : ℤ) (r : Resumption) (es : List Entry) → IsAbove floor r → All (IsHeld floor es) r.seen
all_below floor r es a = All-weaker (λ s. s.ctime <ℤ floor) (IsHeld floor es) (λ s lt. inl lt) r.seen a.times_above

module _ (newer : Journal) (low floor : ℤ) (r : Resumption) (above_it : IsAbove floor r) where
  turned_floor : (b : Bool) → r.floor ≤ℤ int_max newer.header.floor low → r.floor ≤ℤ int_max (if b then floor else newer.header.floor) low
  turned_floor true le = le_le r.floor floor (int_max floor low) above_it.floor_above (max_first floor low)
  turned_floor false le = le

  turned_seen : (b : Bool) → All (IsHeld newer.header.floor newer.entries) r.seen
      → All (IsHeld (if b then floor else newer.header.floor) (if b then [] else newer.entries ++ [])) r.seen
  turned_seen true all = all_below floor r [] above_it
  turned_seen false all = subst (λ es. All (IsHeld newer.header.floor es) r.seen) (sym (append-nil newer.entries)) all

-- the files take turns
pub hold_turned : (older : Found) (newer : Journal) (low floor : ℤ) (r : Resumption) (place : Place) (link : List ℕ)
    → HoldAll older newer low r → HaveSums older → is_linked newer older ≡ true → IsAbove floor r → HoldAll (Whole newer) (fresh place floor link) low r
hold_turned older newer low floor r place link hold sums linked above_it =
    let first = pointwise nat_eq link [] in
    record {
      floor = turned_floor newer low floor r above_it first
          (le_le r.floor (int_max (floor_behind newer older) low) (int_max newer.header.floor low) hold.floor
          (max_under (floor_behind newer older) newer.header.floor low (floor_alone older newer sums linked)));
      seen = turned_seen newer low floor r above_it first
          (All-weaker (IsHeld (floor_behind newer older) (entries_behind newer older)) (IsHeld newer.header.floor newer.entries)
          (held_alone older newer sums linked) r.seen hold.seen);
    }

-- a file that is linked to none holds all that its floor is above
module _ (place : Place) (low floor : ℤ) (link : List ℕ) (r : Resumption) (above_it : IsAbove floor r) where
  abbrev none_before : All (IsHeld floor []) r.seen
  none_before = all_below floor r [] above_it

  abbrev within : r.floor ≤ℤ int_max floor low
  within = le_le r.floor floor (int_max floor low) above_it.floor_above (max_first floor low)

  pub hold_first : (older : Found) → is_first (fresh place floor link) ≡ true → HoldAll older (fresh place floor link) low r
  hold_first Nothing first = record { floor = within; seen = none_before }
  hold_first (Broken lost) first = record { floor = within; seen = none_before }
  hold_first (Whole before) first = record {
    floor = subst (λ b. r.floor ≤ℤ int_max (if b then floor else before.header.floor) low) (sym first) within;
    seen = subst (λ b. All (IsHeld (if b then floor else before.header.floor) (if b then [] else before.entries ++ [])) r.seen) (sym first) none_before;
  }

pub fresh_above : (place : Place) (floor : ℤ) (link : List ℕ) → IsAbove floor (held_in (fresh place floor link))
fresh_above place floor link = record { floor_above = same_le floor; times_above = All-nil (λ (s : Seen). s.ctime <ℤ floor) }

-- ---- a server that resumes

pub on_newer : (floor : ℤ) (newer : Journal) → HasSums newer → IsAbove (floor_on floor newer) (held_in newer)
on_newer floor newer sums =
    let own = above_all newer.header.floor newer.entries in
    let le : own ≤ℤ floor_on floor newer = subst (λ h. own ≤ℤ int_max floor h) (sym sums.high_is) (max_second floor own) in
    record {
      floor_above = le_le newer.header.floor own (floor_on floor newer) (all_stays newer.header.floor newer.entries) le;
      times_above = All-weaker (λ (s : Seen). s.ctime <ℤ own) (λ s. s.ctime <ℤ floor_on floor newer) (λ s lt. lt_le s.ctime own (floor_on floor newer) lt le)
          (map seen_of newer.entries) (all_above newer.header.floor newer.entries);
    }

pub floor_on_stays : (floor : ℤ) (newer : Journal) → floor ≤ℤ floor_on floor newer
floor_on_stays floor newer = max_first floor newer.high

-- what two journals hold is below a floor that is above all of the newer one
pub below_high : (high : ℤ) (newer : Journal) (s : Seen) → IsAbove high (held_in newer) → IsHeld newer.header.floor newer.entries s → s.ctime <ℤ high
below_high high newer s a (inl lt) = lt_le s.ctime newer.header.floor high lt a.floor_above
below_high high newer s a (inr has) = All-contains (λ (x : Seen). x.ctime <ℤ high) (map seen_of newer.entries) s a.times_above has

pub held_below : (high low : ℤ) (older : Found) (newer : Journal) (r : Resumption) → HoldAll older newer low r → HaveSums older → is_linked newer older ≡ true
    → IsAbove high (held_in newer) → All (λ (s : Seen). s.ctime <ℤ high) r.seen
held_below high low older newer r hold sums linked a =
    All-weaker (IsHeld (floor_behind newer older) (entries_behind newer older)) (λ s. s.ctime <ℤ high)
    (λ s held. below_high high newer s a (held_alone older newer sums linked s held)) r.seen hold.seen

entries_held : (older : Found) (newer : Journal) → HoldAll older newer (floor_behind newer older) (record { floor = floor_behind newer older; seen = map seen_of (entries_behind newer older) })
entries_held older newer =
    let seen = map seen_of (entries_behind newer older) in
    record {
      floor = max_first (floor_behind newer older) (floor_behind newer older);
      seen = All-weaker (Contains seen) (IsHeld (floor_behind newer older) (entries_behind newer older)) (λ s has. inr has) seen (All-contains_itself seen);
    }

-- everything that two journals hold is below a floor that is above all of the newer one
pub entries_below : (high : ℤ) (older : Found) (newer : Journal) → HaveSums older → is_linked newer older ≡ true → IsAbove high (held_in newer)
    → All (λ (s : Seen). s.ctime <ℤ high) (map seen_of (entries_behind newer older))
entries_below high older newer sums linked a = held_below high (floor_behind newer older) older newer _ (entries_held older newer) sums linked a

-- a start whose clock is behind has a floor above all that it resumes with
pub early_above : (place : Place) (older : Found) (newer : Journal) → HaveSums older → HasSums newer → is_linked newer older ≡ true
    → is_early place newer older ≡ true → IsAbove (resumed_floor place newer older) (resumption_of place older newer)
early_above place older newer sums own linked early =
    let high = floor_on (opening_floor (Restart place.at)) newer in
    let is : high ≡ resumed_floor place newer older =
    ap (λ b. if b then high else int_max (floor_behind newer older) (place.at.sec -ℤ pos skew)) (sym early) in
    record {
      floor_above = same_le (resumed_floor place newer older);
      times_above = subst (λ f. All (λ (s : Seen). s.ctime <ℤ f) (map seen_of (entries_behind newer older))) is
          (entries_below high older newer sums linked (on_newer (opening_floor (Restart place.at)) newer own));
    }

-- the floor of a start is not below that of the journals
resumed_if : (b : Bool) (floor high low : ℤ) → floor ≤ℤ high → floor ≤ℤ (if b then high else int_max floor low)
resumed_if true floor high low le = le
resumed_if false floor high low le = max_first floor low

pub floor_within : (place : Place) (older : Found) (newer : Journal) → HaveSums older → HasSums newer → is_linked newer older ≡ true
    → floor_behind newer older ≤ℤ resumed_floor place newer older
floor_within place older newer sums own linked =
    resumed_if (is_early place newer older) (floor_behind newer older) (floor_on (opening_floor (Restart place.at)) newer) (place.at.sec -ℤ pos skew)
    (le_le (floor_behind newer older) newer.header.floor (floor_on (opening_floor (Restart place.at)) newer) (floor_alone older newer sums linked)
    (on_newer (opening_floor (Restart place.at)) newer own).floor_above)

-- ---- without the entries that are too old to matter

All_recent : (P : Seen → Type 0) (latest : ℤ) (es : List Entry) → All P (map seen_of es) → All P (map seen_of (recent latest es))
All_recent P latest [] all = all
All_recent P latest (e ∷ es) all =
    by_test (int_le (latest -ℤ pos skew) e.ctime) (All_recent P latest es (All-tail P (seen_of e) (map seen_of es) all))
  where
    by_test : (b : Bool) → All P (map seen_of (recent latest es)) → All P (map seen_of (if b then e ∷ recent latest es else recent latest es))
    by_test true rest = All-cons P (seen_of e) (map seen_of (recent latest es)) (All-head P (seen_of e) (map seen_of es) all) rest
    by_test false rest = rest

All_both : (P : Seen → Type 0) (es others : List Entry) → All P (map seen_of es) → All P (map seen_of others) → All P (map seen_of (es ++ others))
All_both P es others a b = All-same P (map seen_of (es ++ others)) (map seen_of es ++ map seen_of others) (map-append seen_of es others) (All-append P (map seen_of es) (map seen_of others) a b)

All_first : (P : Seen → Type 0) (es others : List Entry) → All P (map seen_of (es ++ others)) → All P (map seen_of es) × All P (map seen_of others)
All_first P [] others all = (All-nil P, all)
All_first P (e ∷ es) others all =
    let rest = All_first P es others (All-tail P (seen_of e) (map seen_of (es ++ others)) all) in
    (All-cons P (seen_of e) (map seen_of es) (All-head P (seen_of e) (map seen_of (es ++ others)) all) rest.0, rest.1)

-- what holds of all that two journals have holds of what is left
pub All_cut : (P : Seen → Type 0) (older : Found) (j : Journal) → All P (map seen_of (entries_behind j older))
    → All P (map seen_of (entries_behind (cut j) (cut_found older)))
All_cut P Nothing j all = All_recent P j.latest j.entries all
All_cut P (Broken lost) j all = All_recent P j.latest j.entries all
All_cut P (Whole before) j all = by_first (is_first j) all
  where
    by_first : (b : Bool) → All P (map seen_of (if b then j.entries else before.entries ++ j.entries))
        → All P (map seen_of (if b then recent j.latest j.entries else recent before.latest before.entries ++ recent j.latest j.entries))
    by_first true all = All_recent P j.latest j.entries all
    by_first false all =
        let parts = All_first P before.entries j.entries all in
        All_both P (recent before.latest before.entries) (recent j.latest j.entries) (All_recent P before.latest before.entries parts.0) (All_recent P j.latest j.entries parts.1)

held_after : (floor : ℤ) (more es : List Entry) (s : Seen) → IsHeld floor es s → IsHeld floor (more ++ es) s
held_after floor more es s (inl lt) = inl lt
held_after floor more es s (inr has) =
    inr (subst (λ l. Contains l s) (sym (map-append seen_of more es)) (Contains-append_right (map seen_of more) (map seen_of es) s has))

held_here : (floor : ℤ) (e : Entry) (es : List Entry) → IsHeld floor (e ∷ es) (seen_of e)
held_here floor e es = inr (0, omega arith, refl)

not_le : (a b c : ℤ) → int_le a b ≡ false → a ≤ℤ c → b <ℤ c
not_le a b c x y = grind (arith, ints)

-- what is left out is below any floor that is not below the time to which it was left out
recent_held : (latest floor : ℤ) → (latest -ℤ pos skew) ≤ℤ floor → (es : List Entry) → All (IsHeld floor (recent latest es)) (map seen_of es)
recent_held latest floor le [] = All-nil (IsHeld floor [])
recent_held latest floor le (e ∷ es) = by_test (int_le (latest -ℤ pos skew) e.ctime) refl (recent_held latest floor le es)
  where
    by_test : (b : Bool) → int_le (latest -ℤ pos skew) e.ctime ≡ b → All (IsHeld floor (recent latest es)) (map seen_of es)
        → All (IsHeld floor (if b then e ∷ recent latest es else recent latest es)) (seen_of e ∷ map seen_of es)
    by_test true is rest =
        All-cons (IsHeld floor (e ∷ recent latest es)) (seen_of e) (map seen_of es) (held_here floor e (recent latest es))
        (All-weaker (IsHeld floor (recent latest es)) (IsHeld floor (e ∷ recent latest es)) (λ s held. held_after floor (e ∷ []) (recent latest es) s held) (map seen_of es) rest)
    by_test false is rest = All-cons (IsHeld floor (recent latest es)) (seen_of e) (map seen_of es) (inl (not_le (latest -ℤ pos skew) e.ctime floor is le)) rest

not_lt : (a b : ℤ) → int_lt a b ≡ false → b ≤ℤ a
not_lt a b x = grind (arith, ints)

le_minus : (a b : ℤ) → a ≤ℤ b → (a -ℤ pos skew) ≤ℤ (b -ℤ pos skew)
le_minus a b x = grind (arith, ints)

first_false : (a b : Bool) → (a || b) ≡ false → (a ≡ false) × (b ≡ false)
first_false true b e = absurd cc
first_false false b e = (refl, e)

-- the clock is not behind them, so what is left out is below the floor of the start
module _ (place : Place) (j : Journal) (floor : ℤ) (under : (place.at.sec -ℤ pos skew) ≤ℤ floor) where
  one_held : (k : Journal) → int_lt place.at.sec k.latest ≡ false → All (IsHeld floor (recent k.latest k.entries)) (map seen_of k.entries)
  one_held k late =
      recent_held k.latest floor
      (le_le (k.latest -ℤ pos skew) (place.at.sec -ℤ pos skew) floor (le_minus k.latest place.at.sec (not_lt place.at.sec k.latest late)) under) k.entries

  late_held : (older : Found) → is_early place j older ≡ false → All (IsHeld floor (entries_behind (cut j) (cut_found older))) (map seen_of (entries_behind j older))
  late_held Nothing late = one_held j late
  late_held (Broken lost) late = one_held j late
  late_held (Whole before) late = by_first (is_first j) late
    where
      by_first : (b : Bool) → (int_lt place.at.sec j.latest || (not b && int_lt place.at.sec before.latest)) ≡ false
          → All (IsHeld floor (if b then recent j.latest j.entries else recent before.latest before.entries ++ recent j.latest j.entries))
          (map seen_of (if b then j.entries else before.entries ++ j.entries))
      by_first true late = one_held j (first_false (int_lt place.at.sec j.latest) false late).0
      by_first false late =
          let tests = first_false (int_lt place.at.sec j.latest) (int_lt place.at.sec before.latest) late in
          let all = recent before.latest before.entries ++ recent j.latest j.entries in
          All_both (IsHeld floor all) before.entries j.entries
          (All-weaker (IsHeld floor (recent before.latest before.entries)) (IsHeld floor all) (held_more floor (recent before.latest before.entries) (recent j.latest j.entries)) (map seen_of before.entries) (one_held before tests.1))
          (All-weaker (IsHeld floor (recent j.latest j.entries)) (IsHeld floor all) (held_after floor (recent before.latest before.entries) (recent j.latest j.entries)) (map seen_of j.entries) (one_held j tests.0))

late_under : (b : Bool) (floor low high : ℤ) → b ≡ false → low ≤ℤ (if b then high else int_max floor low)
late_under true floor low high e = absurd cc
late_under false floor low high e = max_second floor low

-- all that two journals have is held by what is left and the floor of a start
pub cut_held : (place : Place) (older : Found) (j : Journal) → HaveSums older → HasSums j → is_linked j older ≡ true
    → All (IsHeld (resumed_floor place j older) (entries_behind (cut j) (cut_found older))) (map seen_of (entries_behind j older))
cut_held place older j sums own linked = by_clock (is_early place j older) refl
  where
    by_clock : (b : Bool) → is_early place j older ≡ b
        → All (IsHeld (resumed_floor place j older) (entries_behind (cut j) (cut_found older))) (map seen_of (entries_behind j older))
    by_clock true early =
        All-weaker (λ (s : Seen). s.ctime <ℤ resumed_floor place j older) (IsHeld (resumed_floor place j older) (entries_behind (cut j) (cut_found older))) (λ s lt. inl lt)
        (map seen_of (entries_behind j older)) (early_above place older j sums own linked early).times_above
    by_clock false late =
        late_held place j (resumed_floor place j older)
        (late_under (is_early place j older) (floor_behind j older) (place.at.sec -ℤ pos skew) (floor_on (opening_floor (Restart place.at)) j) late) older late

-- ---- a later start refuses what is held

some_of : {A : Type 0} (b : Bool) (x : A) (o : Option A) → is_some (cond b (Some x) o) ≡ true → (b ≡ true) ⊎ (is_some o ≡ true)
some_of true x o e = inl refl
some_of false x o e = inr e

lt_test : (a b c : ℤ) → a <ℤ b → b ≤ℤ c → int_lt a c ≡ true
lt_test a b c x y = grind (arith, ints)

pub test_le : (a b c : ℤ) → int_lt a b ≡ true → b ≤ℤ c → int_lt a c ≡ true
test_le a b c x y = grind (arith, ints)

module _ (c : Components) (s : Stamp) where
  -- the stamp is that of one of these authenticators of the client
  abbrev IsAmong : List Seen → Type 0
  IsAmong [] = ⊥
  IsAmong (x ∷ xs) = ((eq_by_cmp name_cmp c x.client.components ≡ true) × (s ≡ stamp_seen x)) ⊎ IsAmong xs

  abbrev Pairs : Type 0
  Pairs = finmap.FinMap stamp_cmp Kept

  one_in : (pairs : Pairs) (x : Seen) (b : Bool) → eq_by_cmp name_cmp c x.client.components ≡ b
      → is_some (finmap.get (if b then finmap.insert pairs (stamp_seen x) nothing_kept else pairs) s) ≡ true
      → (is_some (finmap.get pairs s) ≡ true) ⊎ ((eq_by_cmp name_cmp c x.client.components ≡ true) × (s ≡ stamp_seen x))
  one_in pairs x false own there = inl there
  one_in pairs x true own there =
      by_key (some_of (eq_by_cmp stamp_cmp s (stamp_seen x)) nothing_kept (finmap.get pairs s)
      (sym (ap is_some (get-insert stamp_total pairs (stamp_seen x) nothing_kept s)) ∙ there))
    where
      by_key : (eq_by_cmp stamp_cmp s (stamp_seen x) ≡ true) ⊎ (is_some (finmap.get pairs s) ≡ true)
          → (is_some (finmap.get pairs s) ≡ true) ⊎ ((eq_by_cmp name_cmp c x.client.components ≡ true) × (s ≡ stamp_seen x))
      by_key (inl same) = inr (own, stamp_exact s (stamp_seen x) ((Equal-is (stamp_cmp s (stamp_seen x))).0 same))
      by_key (inr before) = inl before

  all_in : (pairs : Pairs) (xs : List Seen) → is_some (finmap.get (with_all_seen c pairs xs) s) ≡ true
      → (is_some (finmap.get pairs s) ≡ true) ⊎ IsAmong xs
  all_in pairs [] there = inl there
  all_in pairs (x ∷ xs) there = by_rest (all_in (with_seen c pairs x) xs there)
    where
      with_first : (is_some (finmap.get pairs s) ≡ true) ⊎ ((eq_by_cmp name_cmp c x.client.components ≡ true) × (s ≡ stamp_seen x))
          → (is_some (finmap.get pairs s) ≡ true) ⊎ IsAmong (x ∷ xs)
      with_first (inl before) = inl before
      with_first (inr own) = inr (inl own)

      by_rest : (is_some (finmap.get (with_seen c pairs x) s) ≡ true) ⊎ IsAmong xs → (is_some (finmap.get pairs s) ≡ true) ⊎ IsAmong (x ∷ xs)
      by_rest (inl first) = with_first (one_in pairs x (eq_by_cmp name_cmp c x.client.components) refl first)
      by_rest (inr among) = inr (inr among)

  -- one of the client's authenticators is spent after a start that resumes with it
  contained_spent : (r : Resumption) (x : Seen) → eq_by_cmp name_cmp c x.client.components ≡ true → s ≡ stamp_seen x → (before after : List Seen)
      → r.seen ≡ before ++ x ∷ after → is_spent (resumed_cache r c) s ≡ true
  contained_spent r x own same before after is =
      let first : Resumption = record { floor = r.floor; seen = before } in
      let upto : Resumption = record { floor = r.floor; seen = before ++ x ∷ [] } in
      let there : is_spent (resumed_cache upto c) s ≡ true =
      subst (λ t. is_spent (resumed_cache upto c) t ≡ true) (sym same) (last_spent c first r.floor x own) in
      let seen_is : (before ++ x ∷ []) ++ after ≡ r.seen = append_assoc before (x ∷ []) after ∙ sym is in
      subst (λ l. is_spent (resumed_cache (record { floor = r.floor; seen = l }) c) s ≡ true) seen_is
      (extended_holds c upto r.floor after (same_le r.floor) s there)

-- a list that contains something is cut there
cut_at : (xs : List Seen) (x : Seen) → Contains xs x → (before : List Seen) × (after : List Seen) × (xs ≡ before ++ x ∷ after)
cut_at [] x (k, lt, is) = absurd (omega (arith, lt))
cut_at (y ∷ ys) x (zero, lt, is) = ([], ys, ap (λ z. z ∷ ys) is)
cut_at (y ∷ ys) x (suc k, lt, is) =
    let (before, after, rest) = cut_at ys x (k, omega (arith, lt), is) in
    (y ∷ before, after, ap (λ l. y ∷ l) rest)

module _ (c : Components) (s : Stamp) (floor : ℤ) (es : List Entry) (found : Resumption) (le : floor ≤ℤ found.floor) (seen_is : found.seen ≡ map seen_of es) where
  one_spent : (x : Seen) → eq_by_cmp name_cmp c x.client.components ≡ true → s ≡ stamp_seen x → IsHeld floor es x
      → is_spent (resumed_cache found c) s ≡ true
  one_spent x own same (inl lt) =
      by_first (int_lt s.0 found.floor) (is_some (finmap.get (resumed_cache found c).pairs s))
      (subst (λ (t : Stamp). int_lt t.0 found.floor ≡ true) (sym same) (lt_test x.ctime floor found.floor lt le))
  one_spent x own same (inr has) =
      let (before, after, is) = cut_at (map seen_of es) x has in
      contained_spent c s found x own same before after (seen_is ∙ is)

  among_spent : (xs : List Seen) → All (IsHeld floor es) xs → IsAmong c s xs → is_spent (resumed_cache found c) s ≡ true
  among_spent [] all among = absurd among
  among_spent (x ∷ xs) all (inl (own, same)) = one_spent x own same (All-head (IsHeld floor es) x xs all)
  among_spent (x ∷ xs) all (inr others) = among_spent xs (All-tail (IsHeld floor es) x xs all) others

abbrev none_yet : finmap.FinMap stamp_cmp Kept
none_yet = finmap.empty

none_there : (s : Stamp) → is_some (finmap.get none_yet s) ≡ true → ⊥
none_there s there = absurd (false≢true (sym (ap is_some (get-empty stamp_cmp s)) ∙ there))

module _ (place : Place) (older : Found) (newer : Journal) (sums : HaveSums older) (own : HasSums newer) (linked : is_linked newer older ≡ true) (c : Components) where
  abbrev found : Resumption
  found = resumption_of place (cut_found older) (cut newer)

  abbrev there_after : Resumption → Stamp → Type 0
  there_after r s = is_spent (resumed_cache r c) s ≡ true

  -- a cache of what is held is spent in that of the start
  held_spent : (r : Resumption) → r.floor ≤ℤ found.floor → All (IsHeld found.floor (entries_behind (cut newer) (cut_found older))) r.seen
      → Holds (resumed_cache r c) (resumed_cache found c)
  held_spent r le all s is = by_part (either_of (int_lt s.0 r.floor) (is_some (finmap.get (with_all_seen c finmap.empty r.seen) s)) is)
    where
      by_place : (is_some (finmap.get none_yet s) ≡ true) ⊎ IsAmong c s r.seen → is_spent (resumed_cache found c) s ≡ true
      by_place (inl none) = absurd (none_there s none)
      by_place (inr among) = among_spent c s found.floor (entries_behind (cut newer) (cut_found older)) found (same_le found.floor) refl r.seen all among

      by_part : (int_lt s.0 r.floor ≡ true) ⊎ (is_some (finmap.get (with_all_seen c finmap.empty r.seen) s) ≡ true) → is_spent (resumed_cache found c) s ≡ true
      by_part (inl below) =
          by_first (int_lt s.0 found.floor) (is_some (finmap.get (resumed_cache found c).pairs s))
          (test_le s.0 r.floor found.floor below le)
      by_part (inr there) = by_place (all_in c s finmap.empty r.seen there)

  -- what the two hold is held by what is left of them
  held_left : (s : Seen) → IsHeld (floor_behind newer older) (entries_behind newer older) s → IsHeld (resumed_floor place newer older) (entries_behind (cut newer) (cut_found older)) s
  held_left s (inl lt) = inl (lt_le s.ctime (floor_behind newer older) (resumed_floor place newer older) lt (floor_within place older newer sums own linked))
  held_left s (inr has) =
      All-contains (IsHeld (resumed_floor place newer older) (entries_behind (cut newer) (cut_found older))) (map seen_of (entries_behind newer older)) s
      (cut_held place older newer sums own linked) has

-- the floor of a start is the same, whatever is left out
pub cut_floor : (place : Place) (older : Found) (j : Journal) → resumed_floor place (cut j) (cut_found older) ≡ resumed_floor place j older
cut_floor place Nothing j = refl
cut_floor place (Broken lost) j = refl
cut_floor place (Whole before) j = refl

pub resumes_with_held : (place : Place) (older : Found) (newer : Journal) (low : ℤ) (r : Resumption) → HaveSums older → HasSums newer → HoldAll older newer low r
    → is_linked newer older ≡ true → low ≤ℤ resumed_floor place (cut newer) (cut_found older) → (below : ℤ) → below ≤ℤ resumed_floor place (cut newer) (cut_found older)
    → Knows below r (resumption_of place (cut_found older) (cut newer))
resumes_with_held place older newer low r sums own hold linked late below under c =
    let same = cut_floor place older newer in
    let high = resumed_floor place (cut newer) (cut_found older) in
    held_spent place older newer sums own linked c (record { floor = int_max r.floor below; seen = r.seen })
    (max_within r.floor (floor_behind newer older) low below high hold.floor
    (subst (λ f. floor_behind newer older ≤ℤ f) (sym same) (floor_within place older newer sums own linked)) late under)
    (All-weaker (IsHeld (floor_behind newer older) (entries_behind newer older)) (IsHeld high (entries_behind (cut newer) (cut_found older)))
    (λ s held. subst (λ f. IsHeld f (entries_behind (cut newer) (cut_found older)) s) (sym same) (held_left place older newer sums own linked c s held)) r.seen hold.seen)

-- a start holds what it resumes with, if the clock is not behind
pub found_holds : (place : Place) (older : Found) (newer : Journal) → is_early place newer older ≡ false
    → HoldAll older newer (place.at.sec -ℤ pos skew) (resumption_of place (cut_found older) (cut newer))
found_holds place older newer early =
    let low = place.at.sec -ℤ pos skew in
    let r = resumption_of place (cut_found older) (cut newer) in
    let all = map seen_of (entries_behind newer older) in
    record {
      floor = subst (λ f. f ≤ℤ int_max (floor_behind newer older) low) (sym (cut_floor place older newer))
          (subst (λ b. (if b then floor_on (opening_floor (Restart place.at)) newer else int_max (floor_behind newer older) low) ≤ℤ int_max (floor_behind newer older) low) (sym early)
          (same_le (int_max (floor_behind newer older) low)));
      seen = All_cut (IsHeld (floor_behind newer older) (entries_behind newer older)) older newer
          (All-weaker (Contains all) (IsHeld (floor_behind newer older) (entries_behind newer older)) (λ s has. inr has) all (All-contains_itself all));
    }

-- ---- texts

none_chained : (check : List ℕ) → chained check [] ≡ []
unfolding chained
none_chained check = refl

none_last : (check : List ℕ) → last_check check [] ≡ check
unfolding last_check
none_last check = refl

-- a journal before its first entry
abbrev pub begun_journal : Header → Journal
begun_journal h = record { header = h; entries = []; check = header_check h; latest = h.at; high = h.floor }

pub spells_begun : (h : Header) (text check : List ℕ) → BeginsJournal h text check → Spells text (begun_journal h)
spells_begun h text check begins = record {
  text_is = begins.text_is ∙ sym (append-nil (checked h.link (written header h))) ∙ ap (λ l. checked h.link (written header h) ++ l) (sym (none_chained (header_check h)));
  check_is = sym (none_last (header_check h));
  has_header = begins.has;
  have_elements = have_none;
  sums = record { latest_is = refl; high_is = refl };
}

pub spells_fresh : (place : Place) (floor : ℤ) (link text check : List ℕ) → BeginsJournal (begun place floor link) text check
    → Spells text (fresh place floor link)
spells_fresh place floor link text check begins = spells_begun (begun place floor link) text check begins

pub spells_one : (text more : List ℕ) (j : Journal) (at : Moment) (seen : Seen) (check : List ℕ) → Spells text j
    → (keeps : KeepsEntry j.check at seen more check) → Spells (text ++ more) (with_entries j (keeps.entry_kept ∷ []) check)
spells_one text more j at seen check is keeps =
    let e = keeps.entry_kept in
    let first = checked j.header.link (written header j.header) in
    record {
      text_is = ap (λ l. l ++ more) is.text_is
          ∙ append_assoc first (chained (header_check j.header) j.entries) more
          ∙ ap (λ l. first ++ (chained (header_check j.header) j.entries ++ l)) (keeps.text_is ∙ ap (λ c. checked c (written entry e)) is.check_is)
          ∙ ap (λ l. first ++ l) (sym (chained-one (header_check j.header) j.entries e));
      check_is = keeps.check_is ∙ ap (λ c. check_of c (written entry e)) is.check_is ∙ sym (last-one (header_check j.header) j.entries e);
      has_header = is.has_header;
      have_elements = have_one_more j.entries e is.have_elements keeps.has;
      sums = record { latest_is = refl; high_is = refl };
    }
