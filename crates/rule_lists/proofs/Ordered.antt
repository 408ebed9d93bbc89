-- The entries of an ordered map as finite maps: what an insertion does, and what is left after the first ones are
-- removed.
use Rattle.std.proofs.Common.{◌≡◌, ℕ, zero, suc, ◌+◌, ◌-◌, ◌<◌, Bool, true, false, cond, not, T, List, [], ◌∷◌, ◌++◌, length, drop, Option, Some, None, IfSome, IfNone, IsSome, ◌↔◌, Ordering, Less, Equal, Greater, sym, refl, ap, subst, ◌∙◌, arith, length-drop}
use Rattle.std.proofs.Math.Seq.{drop-nil}
use Rattle.std.specs.Ordering.{match_ordering, ordering_reverse, eq_by_cmp}
use Rattle.std.specs.Cmp.{IsTotalOrder}
use Rattle.std.specs.List.{filter}
use Rattle.std.specs.Map.{lookup}
use Rattle.std.specs.BTreeMap.{is_at, insert_entry}
use Rattle.std.specs.FinMap.{FinMap, IsAntisymmetric, entries, from_sorted, find, put, is_sorted, get, entries-from_sorted, get-from_sorted, get-retain_keys, entries-insert, len-entries, len-empty, same_entries_map, same_map}
use Rattle.std.specs.FinMap as map
use Rattle.std.specs.FinMap.Entries.{by_order, below_all, where_key, find-where_key, is_sorted-put, is_sorted-where_key}
use Rattle.rule_lists.proofs.Entries.{first, second, less}

fails : {K : Type 0} (p opposite : K → Bool) → ((k : K) → opposite k ≡ not (p k)) → (k : K) (b : Bool) → p k ≡ b → opposite k ≡ not b
fails p opposite is_opposite k b e = is_opposite k ∙ ap not e

module _ {A : Type 0} where
  no_items : (l : List A) → length l ≡ 0 → l ≡ []
  no_items [] e = refl
  no_items (x ∷ l) e = absurd (omega (arith, e))

  drop-one : (i : ℕ) (es : List A) → drop (i + 1) es ≡ drop 1 (drop i es)
  drop-one zero es = refl
  drop-one (suc i) [] = drop-nil (suc i + 1)
  drop-one (suc i) (e ∷ es) = let next : suc i + 1 ≡ suc (i + 1) = omega arith in ap (λ n. drop n (e ∷ es)) next ∙ drop-one i es

  -- one more entry removed from the front
  pub popped : (r : Option A) (es old new : List A) (i : ℕ) → old ≡ drop i es → IsSome r ↔ (0 < length old) → IfSome r (λ e. old ≡ e ∷ new) → IfNone r (new ≡ old) → new ≡ drop (i + 1) es
  popped (Some e) es old new i is some taken none = ap (drop 1) (sym taken ∙ is) ∙ sym (drop-one i es)
  popped None es [] new i is some taken none = none ∙ ap (drop 1) is ∙ sym (drop-one i es)
  popped None es (x ∷ old) new i is some taken none = let there = some.1 (omega arith) in cc

-- R orders the keys
module _ {K X : Type 0} (R : K → K → Ordering) (o : IsTotalOrder R) where
  -- the ordered map inserts an entry like `put`
  insert_entry_is : (k : K) (v : X) (es : List (K × X)) → insert_entry R es k v ≡ put R k v es
  insert_entry_is k v [] = refl
  insert_entry_is k v (e ∷ es) =
      elim (R k e.0) as (λ r. match_ordering r ((k, v) ∷ e ∷ es) ((e.0, v) ∷ es) (e ∷ insert_entry R es k v) ≡ by_order r ((k, v) ∷ e ∷ es) ((e.0, v) ∷ es) (e ∷ put R k v es)) [
        | Less ↦ refl
        | Equal ↦ refl
        | Greater ↦ ap (λ l. e ∷ l) (insert_entry_is k v es)
      ]

  lookup_is : (q : K) (es : List (K × X)) → lookup (is_at (R q)) es ≡ find R q es
  lookup_is q [] = refl
  lookup_is q (e ∷ es) = ap (cond (eq_by_cmp R q e.0) (Some e.1)) (lookup_is q es)

  pub get_is : (es : List (K × X)) (m : FinMap R X) (q : K) → T (is_sorted R es) → from_sorted es ≡ m → lookup (is_at (R q)) es ≡ get m q
  get_is es m q s is_map = lookup_is q es ∙ sym (get-from_sorted R es q s) ∙ ap (λ m. get m q) is_map

  pub empty_is : (es : List (K × X)) → es ≡ [] → T (is_sorted R es) × (from_sorted {R = R} es ≡ map.empty)
  empty_is es e = (
    subst (λ l. T (is_sorted R l)) (sym e) tt,
    ap from_sorted e ∙ same_entries_map _ _ (entries-from_sorted R [] tt ∙ sym (no_items (entries map.empty) (sym (len-entries map.empty) ∙ len-empty R X))),
  )

  pub inserted : (es fs : List (K × X)) (k : K) (v : X) → T (is_sorted R es) → fs ≡ insert_entry R es k v → T (is_sorted R fs) × (from_sorted {R = R} fs ≡ map.insert (from_sorted es) k v)
  inserted es fs k v s e =
      let made : fs ≡ put R k v es = e ∙ insert_entry_is k v es in
      let sorted : T (is_sorted R fs) = subst (λ x. T (is_sorted R x)) (sym made) (is_sorted-put R o k v es s) in (
        sorted,
        same_entries_map _ _ (
            entries-from_sorted R fs sorted ∙ made ∙ ap (put R k v) (sym (entries-from_sorted R es s))
            ∙ sym (entries-insert o (from_sorted es) k v)),
      )

  -- an entry whose key is above all others goes last
  below_last : (x k : K) (v : X) (es fs : List (K × X)) → T (below_all R x (es ++ (k, v) ∷ fs)) → R x k ≡ Less
  below_last x k v [] fs h = less _ (first _ _ h)
  below_last x k v (e ∷ es) fs h = below_last x k v es fs (second _ _ h)

  insert_last : (k : K) (v : X) (es fs : List (K × X)) → T (is_sorted R (es ++ (k, v) ∷ fs)) → insert_entry R es k v ≡ es ++ (k, v) ∷ []
  insert_last k v [] fs s = refl
  insert_last k v (e ∷ es) fs s =
      rw (o.antisymm k e.0 ∙ ap ordering_reverse (below_last e.0 k v es fs (first _ _ s)))
      (ap (λ l. e ∷ l) (insert_last k v es fs (second _ _ s)))

  append-one : (es fs : List (K × X)) (e : K × X) → (es ++ e ∷ []) ++ fs ≡ es ++ e ∷ fs
  append-one [] fs e = refl
  append-one (x ∷ es) fs e = ap (λ l. x ∷ l) (append-one es fs e)

  -- the first entry that is left to copy is inserted after those that are copied
  pub copied : (all es fs left rest : List (K × X)) (k : K) (v : X) → T (is_sorted R all) → es ++ left ≡ all → left ≡ (k, v) ∷ rest → fs ≡ insert_entry R es k v → fs ++ rest ≡ all
  copied all es fs left rest k v s so_far next made =
      let whole : es ++ (k, v) ∷ rest ≡ all = ap (λ l. es ++ l) (sym next) ∙ so_far in
      ap (λ l. l ++ rest) (made ∙ insert_last k v es rest (subst (λ l. T (is_sorted R l)) (sym whole) s)) ∙ append-one es rest (k, v) ∙ whole

  -- a test p on keys that keeps passing for larger keys, and the opposite test
  module _ (exact : IsAntisymmetric R) (p opposite : K → Bool) (is_opposite : (k : K) → opposite k ≡ not (p k)) (rises : (x y : K) → R x y ≡ Less → p x ≡ true → p y ≡ true) where
    -- if one entry passes, all later ones pass
    all_pass : (x : K) (es : List (K × X)) → p x ≡ true → T (below_all R x es) → (filter (λ e. opposite e.0) es ≡ []) × (where_key R p es ≡ es)
    all_pass x [] h b = (refl, refl)
    all_pass x (e ∷ es) h b =
        let at : p e.0 ≡ true = rises x e.0 (less _ (first _ _ b)) h in
        let later = all_pass x es h (second _ _ b) in
        (rw (fails p opposite is_opposite e.0 true at) later.0, rw at (ap (λ l. e ∷ l) later.1))

    -- those that fail come before those that pass
    kept_behind : (es : List (K × X)) → T (is_sorted R es) → drop (length (filter (λ e. opposite e.0) es)) es ≡ where_key R p es
    kept_behind [] s = refl
    kept_behind (e ∷ es) s = at (kept_behind es (second _ _ s)) (p e.0) refl
      where
        at : drop (length (filter (λ e. opposite e.0) es)) es ≡ where_key R p es → (b : Bool) → p e.0 ≡ b → drop (length (cond (opposite e.0) (e ∷ filter (λ e. opposite e.0) es) (filter (λ e. opposite e.0) es))) (e ∷ es) ≡ cond (p e.0) (e ∷ where_key R p es) (where_key R p es)
        at behind true is =
            let later = all_pass e.0 es is (first _ _ s) in
            rw (is, fails p opposite is_opposite e.0 true is) (ap (λ l. drop (length l) (e ∷ es)) later.0 ∙ ap (λ l. e ∷ l) (sym later.1))
        at behind false is = rw (is, fails p opposite is_opposite e.0 false is) behind

    -- removing as many from the front as fail the test
    pub retained : (es fs : List (K × X)) (n : ℕ) → T (is_sorted R es) → n ≡ length (filter (λ e. opposite e.0) es) → fs ≡ drop n es → T (is_sorted R fs) × (from_sorted {R = R} fs ≡ map.retain_keys (from_sorted es) p)
    retained es fs n s count e =
        let made : fs ≡ where_key R p es = e ∙ ap (λ n. drop n es) count ∙ kept_behind es s in
        let sorted : T (is_sorted R fs) = subst (λ x. T (is_sorted R x)) (sym made) (is_sorted-where_key R p es s) in
        let alike = λ (q x : K) (t : R q x ≡ Equal). ap p (sym (exact q x t)) in (
          sorted,
          same_map o exact _ _ (λ q.
              get-from_sorted R fs q sorted ∙ ap (find R q) made ∙ find-where_key R p q (alike q) es
              ∙ ap (λ f. cond (p q) f None) (sym (get-from_sorted R es q s))
              ∙ sym (get-retain_keys (from_sorted es) p q (alike q))),
        )

    -- how many pass
    pub count_is : (es : List (K × X)) (m : FinMap R X) (n : ℕ) → T (is_sorted R es) → from_sorted es ≡ m → n ≡ length (filter (λ e. opposite e.0) es) → length es - n ≡ map.len (map.retain_keys m p)
    count_is es m n s is_map count =
        let kept = retained es (drop n es) n s count refl in
        sym (length-drop n es) ∙ sym (len-entries (from_sorted (drop n es)) ∙ ap length (entries-from_sorted R (drop n es) kept.0))
        ∙ ap map.len kept.1 ∙ ap (λ m. map.len (map.retain_keys m p)) is_map
