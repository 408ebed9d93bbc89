-- The entries before a second: how many there are, and what is left once they are removed.
use Rattle.std.proofs.Common.{◌≡◌, ℕ, zero, suc, ◌+◌, ◌-◌, ◌≤◌, nat_le, Bool, true, false, not, T, List, [], ◌∷◌, length, drop, slice_get, Option, Some, None, is_some, option_map, ℤ, ◌≤ℤ◌, ◌<ℤ◌, Less, Equal, Greater, Ordering, refl, sym, ap, ◌∙◌, arith}
use Rattle.std.specs.Prelude.{int_lt}
use Rattle.std.specs.Ordering.{nat_cmp, int_cmp, ordering_then, is_le}
use Rattle.std.proofs.lemmas.Cmp.{int_ranked, ranked}
use Rattle.std.proofs.lemmas.Int.{ints}
use Rattle.std.proofs.lemmas.Bool.Decides.{nat_tests}
use Rattle.std.proofs.lemmas.List.Filters.{length-filter_both}
use Rattle.std.specs.BTreeMap.Range.{range_contains, entries_between}
use Rattle.std.specs.declared.ops.Bound.TheVariants.{Excluded, Unbounded}
use Rattle.std.specs.FinMap.{FinMap, from_sorted, is_sorted}
use Rattle.std.specs.FinMap as map
use Rattle.replay.specs.Stamp.{Stamp, stamp_cmp, is_from}
use Rattle.replay.proofs.Stamps.{stamp_total, stamp_exact}
use Rattle.rule_lists.proofs.Ordered.{retained, count_is}

seconds_rise : (a b : ℤ) (o r : Ordering) → o ≡ int_cmp a b → ordering_then o r ≡ Less → a ≤ℤ b
seconds_rise a b Less r is e = let h = int_ranked a b Less is in omega (arith, ints)
seconds_rise a b Equal r is e = let h = int_ranked a b Equal is in omega (arith, ints)
seconds_rise a b Greater r is e = cc

from_both : (a b start : ℤ) → a ≤ℤ b → not (int_lt a start) ≡ true → not (int_lt b start) ≡ true
from_both a b start le h = grind (arith, ints)

-- what follows a stamp that is not below a second isn't below it either
rises : (start : ℤ) (a b : Stamp) → stamp_cmp a b ≡ Less → is_from start a ≡ true → is_from start b ≡ true
rises start a b e h = from_both a.0 b.0 start (seconds_rise a.0 b.0 (int_cmp a.0 b.0) _ refl e) h

from_zero : (n : ℕ) (r : Ordering) → r ≡ nat_cmp 0 n → is_le r ≡ true
from_zero n Less is = refl
from_zero n Equal is = refl
from_zero n Greater is = let h = ranked 0 n Greater is in absurd (omega (arith, h))

not_below : (a b : ℤ) → a ≤ℤ b → int_lt b a ≡ false
not_below a b le = grind (arith, ints)

below : (a b : ℤ) → b <ℤ a → int_lt b a ≡ true
below a b lt = grind (arith, ints)

is_from_first : (start : ℤ) (s : Stamp) (r : Ordering) → r ≡ int_cmp start s.0 → is_le (ordering_then r (nat_cmp 0 s.1)) ≡ is_from start s
is_from_first start s Less is = let h = int_ranked start s.0 Less is in sym (ap not (not_below start s.0 (omega (arith, ints))))
is_from_first start s Equal is = let h = int_ranked start s.0 Equal is in from_zero s.1 (nat_cmp 0 s.1) refl ∙ sym (ap not (not_below start s.0 (omega (arith, ints))))
is_from_first start s Greater is = let h = int_ranked start s.0 Greater is in sym (ap not (below start s.0 h))

-- the stamps before the first of a second are those below it
before_is_not_from : (start : ℤ) (s : Stamp) → range_contains stamp_cmp Unbounded (Excluded (start, 0)) s ≡ not (is_from start s)
before_is_not_from start s = ap not (is_from_first start s (int_cmp start s.0) refl)

fewer : (n before len number : ℕ) → n + before ≡ len → ¬ (number ≤ len) → false ≡ nat_le number n
fewer n before len number all few = grind (arith, nat_tests)

turned : (n before number beyond : ℕ) → n + before ≡ number + beyond → nat_le before beyond ≡ nat_le number n
turned n before number beyond all = grind (arith, nat_tests)

le_later : (a b : ℕ) → nat_le a b ≡ nat_le (suc a) (suc b)
le_later a b = grind (arith, nat_tests)

le_any : (i : ℕ) → true ≡ nat_le 0 i
le_any i = grind (arith, nat_tests)

not_le : (n : ℕ) → false ≡ nat_le (suc n) 0
not_le n = grind (arith, nat_tests)

is_past : {B : Type 0} (xs : List B) (i : ℕ) → not (is_some (slice_get xs i)) ≡ nat_le (length xs) i
is_past [] i = le_any i
is_past (x ∷ xs) zero = not_le (length xs)
is_past (x ∷ xs) (suc i) = is_past xs i ∙ le_later (length xs) i

-- there is no entry at i if and only if there are no more than i
past_all : {A B : Type 0} (shows : A → B) (o : Option A) (xs : List B) (i : ℕ) (absent : Bool) → option_map shows o ≡ slice_get xs i → is_some o ≡ not absent → absent ≡ nat_le (length xs) i
past_all shows (Some a) xs i false e is = ap (λ o. not (is_some o)) e ∙ is_past xs i
past_all shows None xs i true e is = ap (λ o. not (is_some o)) e ∙ is_past xs i
past_all shows (Some a) xs i true e is = cc
past_all shows None xs i false e is = cc

module _ {X : Type 0} where
  -- the entries whose stamps are before the first of a second
  abbrev pub before : ℤ → List (Stamp × X) → List (Stamp × X)
  before start = entries_between stamp_cmp Unbounded (Excluded (start, 0))

  -- the entries after removing those before the second from the front
  pub forgotten : (start : ℤ) (es fs : List (Stamp × X)) (n : ℕ) → T (is_sorted stamp_cmp es) → n ≡ length (before start es) → fs ≡ drop n es
      → T (is_sorted stamp_cmp fs) × (from_sorted {R = stamp_cmp} fs ≡ map.retain_keys (from_sorted es) (is_from start))
  forgotten start = retained stamp_cmp stamp_total stamp_exact (is_from start) (range_contains stamp_cmp Unbounded (Excluded (start, 0))) (before_is_not_from start) (rises start)

  -- how many are not before it
  counted : (start : ℤ) (es : List (Stamp × X)) (m : FinMap stamp_cmp X) (n : ℕ) → T (is_sorted stamp_cmp es) → from_sorted es ≡ m → n ≡ length (before start es) → length es - n ≡ map.len (map.retain_keys m (is_from start))
  counted start = count_is stamp_cmp stamp_total stamp_exact (is_from start) (range_contains stamp_cmp Unbounded (Excluded (start, 0))) (before_is_not_from start) (rises start)

  -- those that are not before it, and those before it
  all_counted : (start : ℤ) (es : List (Stamp × X)) (m : FinMap stamp_cmp X) → T (is_sorted stamp_cmp es) → from_sorted es ≡ m → map.len (map.retain_keys m (is_from start)) + length (before start es) ≡ length es
  all_counted start es m s is_map =
      let from = counted start es m (length (before start es)) s is_map refl in
      let both = length-filter_both (λ (e : Stamp × X). is_from start e.0) (λ e. range_contains stamp_cmp Unbounded (Excluded (start, 0)) e.0) (λ e. before_is_not_from start e.0) es in
      omega (arith, from, both)

  -- fewer than the number, if all are fewer
  pub too_few : (start : ℤ) (es : List (Stamp × X)) (m : FinMap stamp_cmp X) (number : ℕ) → T (is_sorted stamp_cmp es) → from_sorted es ≡ m → ¬ (number ≤ length es) → false ≡ nat_le number (map.len (map.retain_keys m (is_from start)))
  too_few start es m number s is_map few = fewer (map.len (map.retain_keys m (is_from start))) (length (before start es)) (length es) number (all_counted start es m s is_map) few

  -- at least the number, if no entry before the second follows as many as there are beyond the number
  pub enough : {A : Type 0} (shows : A → Stamp × X) (start : ℤ) (es : List (Stamp × X)) (m : FinMap stamp_cmp X) (number beyond : ℕ) (next : Option A) (absent : Bool) → T (is_sorted stamp_cmp es) → from_sorted es ≡ m
      → number ≤ length es → beyond ≡ length es - number → option_map shows next ≡ slice_get (before start es) beyond → is_some next ≡ not absent → absent ≡ nat_le number (map.len (map.retain_keys m (is_from start)))
  enough shows start es m number beyond next absent s is_map le beyond_is reached is =
      let all = all_counted start es m s is_map in
      past_all shows next (before start es) beyond absent reached is
      ∙ turned (map.len (map.retain_keys m (is_from start))) (length (before start es)) number beyond (omega (arith, all, le, beyond_is))
