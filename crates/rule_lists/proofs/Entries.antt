-- Sorted entries as finite maps: what a search finds, and what an edit at that place does.
use Rattle.std.proofs.Common.{◌≡◌, ℕ, zero, suc, ◌<◌, ◌≤◌, ◌-◌, Bool, true, false, ◌&&◌, T, List, [], ◌∷◌, length, get_or, set, Some, None, Result, Ok, Err, Less, Equal, Greater, Ordering, sym, refl, ap, subst, ◌∙◌, arith, is_eq, is_lt, inl, inr, le_refl, slice_get, IfOk, IfErr}
use Rattle.std.specs.Ordering.{ordering_index, ordering_reverse}
use Rattle.std.specs.Cmp.{IsTotalOrder, alike_right}
use Rattle.std.specs.List.{insert}
use Rattle.std.specs.List.Sorted.{IsNonDecreasingBy, IsBinarySearchResult, IsSearchInRange}
use Rattle.std.specs.FinMap.{FinMap, entries, from_sorted, find, put, is_sorted, get, entries-from_sorted, get-from_sorted, entries-insert, len-entries, len-empty, same_entries_map}
use Rattle.std.specs.FinMap as map
use Rattle.std.specs.FinMap.Entries.{below_all, is_sorted-put}
use Rattle.std.proofs.lemmas.Bool.{cases_lt}
use Rattle.rule_lists.specs.Entries.{pairs_of, IsAt, IsGap}

pub first : (a b : Bool) → T (a && b) → T a
first true b p = tt
first false b p = p

pub second : (a b : Bool) → T (a && b) → T b
second true b p = p
second false b p = absurd p

pub less : (o : Ordering) → T (is_lt o) → o ≡ Less
less Less p = refl
less Equal p = absurd p
less Greater p = absurd p

at_most_two : (r : Ordering) → ordering_index r ≤ 2
at_most_two Less = omega arith
at_most_two Equal = omega arith
at_most_two Greater = omega arith

-- R orders the keys; an entry e has the key `key e` and the value `value e`
module _ {E K V : Type 0} (R : K → K → Ordering) (o : IsTotalOrder R) (key : E → K) (value : E → V) where
  abbrev pairs : List E → List (K × V)
  pairs = pairs_of key value

  -- swapping the arguments reverses a comparison
  turned : (a b : K) (r : Ordering) → R a b ≡ r → R b a ≡ ordering_reverse r
  turned a b r e = o.antisymm b a ∙ ap ordering_reverse e

  -- inserting an entry in the gap is `put`
  insert_is_put : (k : K) (e : E) (es : List E) (i : ℕ) → key e ≡ k → IsGap R key k es i → pairs (insert es i e) ≡ put R k (value e) (pairs es)
  insert_is_put k e [] zero n p = ap (λ (m : K). (m, value e) ∷ []) n
  insert_is_put k e [] (suc i) n p = absurd (omega (arith, p.0))
  insert_is_put k e (a ∷ es) zero n p =
      rw (turned (key a) k Greater (p.2 0 a (omega arith) (omega arith)))
      (ap (λ (m : K). (m, value e) ∷ (key a, value a) ∷ pairs es) n)
  insert_is_put k e (a ∷ es) (suc i) n p =
      rw (turned (key a) k Less (p.1 0 a (omega arith) (omega arith)))
      (ap (λ l. (key a, value a) ∷ l) (insert_is_put k e es i n (
        omega (arith, p.0),
        λ j d a b. p.1 (suc j) d (omega arith) (omega (arith, b)),
        λ j d a b. p.2 (suc j) d (omega (arith, a)) (omega (arith, b)),
      )))

  -- a key below all entries is below any key that ties with one of them
  pub below_then : (x : K) (es : List E) (i : ℕ) (d : E) (k : K) → T (below_all R x (pairs es)) → i < length es → R (key (get_or es i d)) k ≡ Equal → R x k ≡ Less
  below_then x [] i d k b lt e = absurd (omega (arith, lt))
  below_then x (a ∷ es) zero d k b lt e = sym (alike_right o (key a) k x e) ∙ less _ (first _ _ b)
  below_then x (a ∷ es) (suc i) d k b lt e = below_then x es i d k (second _ _ b) (omega (arith, lt)) e

  -- writing a new value into the entry of the key is `put`, which keeps the old key
  set_is_put : (k : K) (e f : E) (es : List E) (i : ℕ) → T (is_sorted R (pairs es)) → IsAt R key k es i → get_or es i e ≡ e → key f ≡ key e → pairs (set es i f) ≡ put R k (value f) (pairs es)
  set_is_put k e f [] i s p h same = absurd (omega (arith, p.0))
  set_is_put k e f (a ∷ es) zero s p h same =
      rw (turned (key a) k Equal (p.1 a)) (ap (λ (m : K). (m, value f) ∷ pairs es) (same ∙ sym (ap key h)))
  set_is_put k e f (a ∷ es) (suc i) s p h same =
      rw (turned (key a) k Less (below_then (key a) es i e k (first _ _ s) (omega (arith, p.0)) (p.1 e)))
      (ap (λ l. (key a, value a) ∷ l) (set_is_put k e f es i (second _ _ s) (omega (arith, p.0), λ d. p.1 d) h same))

  -- a key that ties with none is not found
  none_found : (k : K) (es : List E) → ((j : ℕ) (d : E) → j < length es → is_eq (R k (key (get_or es j d))) ≡ false) → find R k (pairs es) ≡ None
  none_found k [] h = refl
  none_found k (a ∷ es) h = rw (h 0 a (omega arith)) (none_found k es (λ j d lt. h (suc j) d (omega (arith, lt))))

  pub found_none : (k : K) (es : List E) (i : ℕ) → IsGap R key k es i → find R k (pairs es) ≡ None
  found_none k es i p = none_found k es (λ j d lt. elim (cases_lt j i) [
    | inl before ↦ ap is_eq (turned _ k Less (p.1 j d (omega arith) before))
    | inr after ↦ ap is_eq (turned _ k Greater (p.2 j d after lt))
  ])

  found_some : (k : K) (es : List E) (i : ℕ) (d : E) → T (is_sorted R (pairs es)) → IsAt R key k es i → find R k (pairs es) ≡ Some (value (get_or es i d))
  found_some k [] i d s p = absurd (omega (arith, p.0))
  found_some k (a ∷ es) zero d s p = rw (turned (key a) k Equal (p.1 a)) refl
  found_some k (a ∷ es) (suc i) d s p =
      rw (turned (key a) k Less (below_then (key a) es i d k (first _ _ s) (omega (arith, p.0)) (p.1 d)))
      (found_some k es i d (second _ _ s) (omega (arith, p.0), λ d. p.1 d))

  -- `put` keeps the pairs sorted, and their map is that of `insert`
  put_inserts : (l m : List (K × V)) (k : K) (v : V) → T (is_sorted R l) → m ≡ put R k v l → T (is_sorted R m) × (from_sorted {R = R} m ≡ map.insert (from_sorted l) k v)
  put_inserts l m k v s e =
      let sorted : T (is_sorted R m) = subst (λ x. T (is_sorted R x)) (sym e) (is_sorted-put R o k v l s) in (
        sorted,
        same_entries_map _ _ (
            entries-from_sorted R m sorted ∙ e ∙ ap (put R k v) (sym (entries-from_sorted R l s))
            ∙ sym (entries-insert o (from_sorted l) k v)),
      )

  -- an entry is inserted in the gap of its key
  pub inserted : (es m searched : List E) (e : E) (i : ℕ) → T (is_sorted R (pairs es)) → searched ≡ es → IsGap R key (key e) searched i → m ≡ insert es i e → T (is_sorted R (pairs m)) × (from_sorted {R = R} (pairs m) ≡ map.insert (from_sorted (pairs es)) (key e) (value e))
  inserted es m searched e i s here gap made =
      put_inserts (pairs es) (pairs m) (key e) (value e) s (ap pairs made ∙ insert_is_put (key e) e es i refl (subst (λ l. IsGap R key (key e) l i) here gap))

  -- an entry f with the same key replaces the entry e of a key
  pub replaced : (es searched : List E) (k : K) (e f : E) (i : ℕ) → T (is_sorted R (pairs es)) → searched ≡ es → IsAt R key k searched i → e ≡ get_or es i e → key f ≡ key e → T (is_sorted R (pairs (set es i f))) × (from_sorted {R = R} (pairs (set es i f)) ≡ map.insert (from_sorted (pairs es)) k (value f))
  replaced es searched k e f i s here at is same =
      put_inserts (pairs es) (pairs (set es i f)) k (value f) s (set_is_put k e f es i s (subst (λ l. IsAt R key k l i) here at) (sym is) same)

  -- a key below all entries is below each of them
  below_at : (x : K) (es : List E) (i : ℕ) (d : E) → T (below_all R x (pairs es)) → i < length es → R x (key (get_or es i d)) ≡ Less
  below_at x [] i d b lt = absurd (omega (arith, lt))
  below_at x (a ∷ es) zero d b lt = less _ (first _ _ b)
  below_at x (a ∷ es) (suc i) d b lt = below_at x es i d (second _ _ b) (omega (arith, lt))

  -- the comparisons with a key don't decrease along sorted entries
  rises : (k : K) (es : List E) → T (is_sorted R (pairs es)) → IsNonDecreasingBy (λ e. ordering_index (R (key e) k)) es
  rises k [] s i j d le lt = absurd (omega (arith, lt))
  rises k (a ∷ es) s zero zero d le lt = le_refl _
  rises k (a ∷ es) s (suc i) zero d le lt = absurd (omega (arith, le))
  rises k (a ∷ es) s (suc i) (suc j) d le lt = rises k es (second _ _ s) i j d (omega (arith, le)) (omega (arith, lt))
  rises k (a ∷ es) s zero (suc j) d le lt = step (key a) (key (get_or es j d)) (below_at (key a) es j d (first _ _ s) (omega (arith, lt)))
    where
      step : (x y : K) → R x y ≡ Less → ordering_index (R x k) ≤ ordering_index (R y k)
      step x y e = elim (R y k) as (λ r. R y k ≡ r → ordering_index (R x k) ≤ ordering_index r) [
        | Less ↦ λ p. rw (o.trans x y k e p) (omega arith)
        | Equal ↦ λ p. rw (sym (alike_right o y k x p) ∙ e) (omega arith)
        | Greater ↦ λ p. at_most_two (R x k)
      ] refl

  pub placed : (k : K) (es : List E) (r : Result ℕ ℕ) → T (is_sorted R (pairs es)) → IsSearchInRange r (length es) → IsBinarySearchResult (λ e. R (key e) k) es r → IfOk r (IsAt R key k es) × IfErr r (IsGap R key k es)
  placed k es (Ok i) s b h = ((b, h), tt)
  placed k es (Err i) s b h = let q = h (rises k es s) in (tt, (b, q.0, q.1))

  pub empty_is : from_sorted {K = K} {X = V} {R = R} [] ≡ map.empty
  empty_is = same_entries_map _ _ (entries-from_sorted R [] tt ∙ sym (no_entries (entries map.empty) (sym (len-entries map.empty) ∙ len-empty R V)))
    where
      no_entries : (l : List (K × V)) → length l ≡ 0 → l ≡ []
      no_entries [] e = refl
      no_entries (x ∷ l) e = absurd (omega (arith, e))

  length-pairs : (es : List E) → length (pairs es) ≡ length es
  length-pairs [] = refl
  length-pairs (e ∷ es) = ap suc (length-pairs es)

  len-from_sorted : (es : List E) → T (is_sorted R (pairs es)) → map.len (from_sorted {R = R} (pairs es)) ≡ length es
  len-from_sorted es s = len-entries (from_sorted (pairs es)) ∙ ap length (entries-from_sorted R (pairs es) s) ∙ length-pairs es

  pub length_is : (es : List E) (m : FinMap R V) → T (is_sorted R (pairs es)) → from_sorted (pairs es) ≡ m → length es ≡ map.len m
  length_is es m s is_map = sym (len-from_sorted es s) ∙ ap map.len is_map

  -- what `get` returns if the key is there, and if it is not
  pub get_found : (es searched : List E) (m : FinMap R V) (k : K) (i : ℕ) (e : E) → T (is_sorted R (pairs es)) → from_sorted (pairs es) ≡ m → searched ≡ es → IsAt R key k searched i → e ≡ get_or es i e → Some (value e) ≡ get m k
  get_found es searched m k i e s is_map here at is =
      ap (λ (e : E). Some (value e)) is ∙ sym (found_some k es i e s (subst (λ l. IsAt R key k l i) here at)) ∙ sym (get-from_sorted R (pairs es) k s)
      ∙ ap (λ m. get m k) is_map

  pub get_absent : (es searched : List E) (m : FinMap R V) (k : K) (i : ℕ) → T (is_sorted R (pairs es)) → from_sorted (pairs es) ≡ m → searched ≡ es → IsGap R key k searched i → None ≡ get m k
  get_absent es searched m k i s is_map here gap =
      sym (found_none k es i (subst (λ l. IsGap R key k l i) here gap)) ∙ sym (get-from_sorted R (pairs es) k s)
      ∙ ap (λ m. get m k) is_map

  -- the entry at an index
  slice_get-pairs : (es : List E) (i : ℕ) (e : E) → i < length es → e ≡ get_or es i e → Some (key e, value e) ≡ slice_get (pairs es) i
  slice_get-pairs [] i e lt is = absurd (omega (arith, lt))
  slice_get-pairs (a ∷ es) zero e lt is = ap (λ (e : E). Some (key e, value e)) is
  slice_get-pairs (a ∷ es) (suc i) e lt is = slice_get-pairs es i e (omega (arith, lt)) is

  slice_get-past : (es : List E) (i : ℕ) → length es ≤ i → None ≡ slice_get (pairs es) i
  slice_get-past [] i le = refl
  slice_get-past (e ∷ es) zero le = absurd (omega (arith, le))
  slice_get-past (e ∷ es) (suc i) le = slice_get-past es i (omega (arith, le))

  pub entries_are : (l : List (K × V)) (m : FinMap R V) → T (is_sorted R l) → from_sorted l ≡ m → l ≡ entries m
  entries_are l m s is_map = sym (entries-from_sorted R l s) ∙ ap entries is_map

  pub at_some : (es : List E) (m : FinMap R V) (i : ℕ) (e : E) → T (is_sorted R (pairs es)) → from_sorted (pairs es) ≡ m → i < length es → e ≡ get_or es i e → Some (key e, value e) ≡ slice_get (entries m) i
  at_some es m i e s is_map lt is = slice_get-pairs es i e lt is ∙ ap (λ l. slice_get l i) (entries_are (pairs es) m s is_map)

  pub at_none : (es : List E) (m : FinMap R V) (i : ℕ) → T (is_sorted R (pairs es)) → from_sorted (pairs es) ≡ m → length es ≤ i → None ≡ slice_get (entries m) i
  at_none es m i s is_map le = slice_get-past es i le ∙ ap (λ l. slice_get l i) (entries_are (pairs es) m s is_map)
