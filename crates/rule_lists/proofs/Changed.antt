-- Sorted entries with all values changed, as finite maps.
use Rattle.std.proofs.Common.{◌≡◌, ℕ, zero, suc, ◌<◌, ◌≤◌, ◌+◌, Bool, true, false, cond, T, List, [], ◌∷◌, length, get_or, set, Some, option_map, Ordering, refl, sym, ap, subst, ◌∙◌, arith, is_eq}
use Rattle.std.specs.FinMap.{FinMap, entries, entries_sorted, find, is_sorted, from_sorted, entries-from_sorted, get-entries, get-from_sorted}
use Rattle.std.specs.FinMap as map
use Rattle.std.specs.FinMap.Entries.{below_all}
use Rattle.rule_lists.specs.Entries.{pairs_of}
use Rattle.rule_lists.specs.Changed.{change_each, change_values}
use Rattle.rule_lists.proofs.Entries.{first, second}
use Rattle.rule_lists.proofs.Removed.{both}

module _ {K V : Type 0} (R : K → K → Ordering) (change : V → V) where
  below_changed : (x : K) (es : List (K × V)) → T (below_all R x es) → T (below_all R x (change_each change es))
  below_changed x [] h = tt
  below_changed x (e ∷ es) h = both _ _ (first _ _ h) (below_changed x es (second _ _ h))

  pub sorted_changed : (es : List (K × V)) → T (is_sorted R es) → T (is_sorted R (change_each change es))
  sorted_changed [] h = tt
  sorted_changed (e ∷ es) h = both _ _ (below_changed e.0 es (first _ _ h)) (sorted_changed es (second _ _ h))

  find_changed : (q : K) (es : List (K × V)) → find R q (change_each change es) ≡ option_map change (find R q es)
  find_changed q [] = refl
  find_changed q (e ∷ es) = at (find_changed q es) (is_eq (R q e.0))
    where
      at : find R q (change_each change es) ≡ option_map change (find R q es) → (b : Bool)
          → cond b (Some (change e.1)) (find R q (change_each change es)) ≡ option_map change (cond b (Some e.1) (find R q es))
      at rest true = refl
      at rest false = rest

  -- the new value of a key is its old value, changed
  pub get-change_values : (m : FinMap R V) (q : K) → map.get (change_values m change) q ≡ option_map change (map.get m q)
  get-change_values m q =
      get-from_sorted R (change_each change (entries m)) q (sorted_changed (entries m) (entries_sorted m))
      ∙ find_changed q (entries m) ∙ ap (option_map change) (sym (get-entries m q))

-- ---- one value after another

-- the first n values changed
abbrev pub changed_first : {K V : Type 0} → (V → V) → ℕ → List (K × V) → List (K × V)
changed_first change zero es = es
changed_first change (suc n) [] = []
changed_first change (suc n) (e ∷ es) = (e.0, change e.1) ∷ changed_first change n es

module _ {E K V : Type 0} (key : E → K) (value : E → V) (change : V → V) where
  abbrev pairs : List E → List (K × V)
  pairs = pairs_of key value

  next_changed : (es : List E) (ps : List (K × V)) (i : ℕ) (e f : E) → pairs es ≡ changed_first change i ps → i < length es → e ≡ get_or es i e → key f ≡ key e → value f ≡ change (value e)
      → pairs (set es i f) ≡ changed_first change (suc i) ps
  next_changed [] ps i e f so_far lt is same new = absurd (omega (arith, lt))
  next_changed (a ∷ es) [] zero e f so_far lt is same new = cc
  next_changed (a ∷ es) [] (suc i) e f so_far lt is same new = cc
  next_changed (a ∷ es) (p ∷ ps) zero e f so_far lt is same new =
      let there : (key a, value a) ≡ p = cc in
      let rest : pairs es ≡ ps = cc in
      λ i. (
        (same ∙ ap key is ∙ ap (λ (x : K × V). x.0) there) i,
        (new ∙ ap (λ x. change (value x)) is ∙ ap (λ (x : K × V). change x.1) there) i,
      ) ∷ rest i
  next_changed (a ∷ es) (p ∷ ps) (suc i) e f so_far lt is same new =
      let there : (key a, value a) ≡ (p.0, change p.1) = cc in
      let rest : pairs es ≡ changed_first change i ps = cc in
      λ k. there k ∷ next_changed es ps i e f rest (omega (arith, lt)) is same new k

  -- the value of the next entry is changed in place
  pub one_changed : (es : List E) (ps : List (K × V)) (i : ℕ) (e f : E) → pairs es ≡ changed_first change i ps → i < length es → e ≡ get_or es i e → key f ≡ key e → value f ≡ change (value e)
      → pairs (set es i f) ≡ changed_first change (i + 1) ps
  one_changed es ps i e f so_far lt is same new =
      let next : suc i ≡ i + 1 = omega arith in
      next_changed es ps i e f so_far lt is same new ∙ ap (λ n. changed_first change n ps) next

  all_first : (ps : List (K × V)) (n : ℕ) → length ps ≤ n → changed_first change n ps ≡ change_each change ps
  all_first [] zero le = refl
  all_first [] (suc n) le = refl
  all_first (p ∷ ps) zero le = absurd (omega (arith, le))
  all_first (p ∷ ps) (suc n) le = ap (λ l. (p.0, change p.1) ∷ l) (all_first ps n (omega (arith, le)))

  length_changed : (ps : List (K × V)) (n : ℕ) → length (changed_first change n ps) ≡ length ps
  length_changed ps zero = refl
  length_changed [] (suc n) = refl
  length_changed (p ∷ ps) (suc n) = ap suc (length_changed ps n)

  length_pairs : (es : List E) → length (pairs es) ≡ length es
  length_pairs [] = refl
  length_pairs (e ∷ es) = ap suc (length_pairs es)

  -- all values are changed: the new entries are those of the loop at its end
  pub values_changed : (R : K → K → Ordering) (old walked new : List E) (n : ℕ) → T (is_sorted R (pairs old)) → pairs walked ≡ changed_first change n (pairs old) → length walked ≤ n → new ≡ walked
      → T (is_sorted R (pairs new)) × (from_sorted {R = R} (pairs new) ≡ change_values (from_sorted (pairs old)) change)
  values_changed R old walked new n s so_far all is =
      let many : length (pairs old) ≤ n =
      (let a = length_changed (pairs old) n in let b = length_pairs walked in let c = ap (λ l. length l) so_far in omega (arith, a, b, c, all)) in
      let made : pairs new ≡ change_each change (pairs old) = ap pairs is ∙ so_far ∙ all_first (pairs old) n many in (
        subst (λ l. T (is_sorted R l)) (sym made) (sorted_changed R change (pairs old) s),
        ap from_sorted (made ∙ ap (change_each change) (sym (entries-from_sorted R (pairs old) s))),
      )
