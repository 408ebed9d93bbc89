-- Entries sorted by name, with only the first of each name kept, as finite maps.
use Rattle.std.proofs.Common.{◌≡◌, Bool, true, false, not, cond, ◌&&◌, T, List, [], ◌∷◌, Option, Some, None, Less, Equal, Greater, Ordering, refl, sym, ap, subst, ◌∙◌, pos, is_eq, is_lt}
use Rattle.std.specs.Ordering.{eq_by_cmp, ordering_reverse}
use Rattle.std.specs.Cmp.{IsTotalOrder, IsStrictWeakOrder}
use Rattle.std.specs.List.{filter, dedup, dedup_from, AllByRecursion}
use Rattle.std.specs.List.Sorted.{IsSorted, IsStable, IsStrictlySortedBy, ties}
use Rattle.std.specs.FinMap.{find, is_sorted, from_sorted, from_entries, get-from_sorted, get-from_entries, same_map}
use Rattle.std.specs.FinMap.Entries.{below_all}
use Rattle.std.proofs.lemmas.List.Kept.{IsStrictlySortedBy-dedup}
use Rattle.std.proofs.lemmas.List.MinMax.{ranks_by}
use Rattle.krb_fields.specs.Name.{Components, name_cmp, name_total, name_exact}
use Rattle.principal_rows.specs.declared.name_map.Entry.{Entry}
use Rattle.principal_rows.specs.NameMap.{pairs}

both : (a b : Bool) → T a → T b → T (a && b)
both true b p q = q
both false b p q = p

-- if neither is before the other, they are equal
tied_order : (o : Ordering) → (not (is_lt o) && not (is_lt (ordering_reverse o))) ≡ is_eq o
tied_order Less = refl
tied_order Equal = refl
tied_order Greater = refl

some_then : {A : Type 0} (a b : Option A) → ((v : A) → a ≡ Some v → a ≡ b) → ((v : A) → b ≡ Some v → a ≡ b) → a ≡ b
some_then (Some v) b f g = f v refl
some_then None (Some v) f g = g v refl
some_then None None f g = refl

equal : (o : Ordering) → is_eq o ≡ true → o ≡ Equal
equal Less e = cc
equal Equal e = refl
equal Greater e = cc

module _ {V : Type 0} where
  abbrev pub entry_cmp : Entry V → Entry V → Ordering
  entry_cmp a b = name_cmp a.name.components b.name.components

  abbrev pub has_same_name : Entry V → Entry V → Bool
  has_same_name a b = eq_by_cmp name_cmp a.name.components b.name.components

  pub entry_total : IsTotalOrder entry_cmp
  entry_total = record {
    antisymm = λ x y. name_total.antisymm x.name.components y.name.components;
    trans = λ x y z. name_total.trans x.name.components y.name.components z.name.components;
    congr = λ x y z. name_total.congr x.name.components y.name.components z.name.components;
  }

  pub entry_ranks : IsStrictWeakOrder (λ x y. is_lt (entry_cmp x y))
  entry_ranks = ranks_by name_total (λ (e : Entry V). e.name.components)

  below : (x : Entry V) (es : List (Entry V)) → AllByRecursion (λ y. entry_cmp x y ≡ Less) es → T (below_all name_cmp x.name.components (pairs es))
  below x [] h = tt
  below x (e ∷ es) h = both _ _ (subst (λ o. T (is_lt o)) (sym h.0) tt) (below x es h.1)

  sorted_pairs : (es : List (Entry V)) → IsStrictlySortedBy entry_cmp es → T (is_sorted name_cmp (pairs es))
  unfolding IsStrictlySortedBy
  sorted_pairs [] h = tt
  sorted_pairs (e ∷ es) h = both _ _ (below e es h.0) (sorted_pairs es h.1)

  -- the value of the first entry
  first_value : List (Entry V) → Option V
  first_value [] = None
  first_value (e ∷ es) = Some e.value

  first_kept : (b c : Bool) (e : Entry V) (es rest : List (Entry V)) (found : Option V) → b ≡ c → first_value rest ≡ found → first_value (cond b (e ∷ rest) rest) ≡ cond c (Some e.value) found
  unfolding first_value
  first_kept true true e es rest found s h = refl
  first_kept false false e es rest found s h = h
  first_kept true false e es rest found s h = cc
  first_kept false true e es rest found s h = cc

  -- the entry that is found is the first of those that tie
  find_first : (x : Entry V) (es : List (Entry V)) → first_value (filter (ties (λ a b. is_lt (entry_cmp a b)) x) es) ≡ find name_cmp x.name.components (pairs es)
  unfolding first_value
  find_first x [] = refl
  find_first x (e ∷ es) =
      first_kept _ _ e es _ _
      (ap (λ o. not (is_lt (entry_cmp x e)) && not (is_lt o)) (name_total.antisymm e.name.components x.name.components) ∙ tied_order (entry_cmp x e))
      (find_first x es)

  find-stable : (xs ys : List (Entry V)) → IsStable entry_cmp xs ys → (q : Components) → find name_cmp q (pairs ys) ≡ find name_cmp q (pairs xs)
  find-stable xs ys stable q =
      let same : (v : V) → find name_cmp q (pairs ys) ≡ find name_cmp q (pairs xs) =
      λ v. let x : Entry V = record { name = record { name_type = pos 0; components = q }; value = v } in
      sym (find_first x ys) ∙ ap first_value (stable x) ∙ find_first x xs in
      some_then _ _ (λ v _. same v) (λ v _. same v)

  -- an entry with the name of the one before it is not found
  hidden : (q k x : Components) (v w : V) (rest : Option V) → name_cmp x k ≡ Equal → cond (eq_by_cmp name_cmp q k) (Some v) rest ≡ cond (eq_by_cmp name_cmp q k) (Some v) (cond (eq_by_cmp name_cmp q x) (Some w) rest)
  hidden q k x v w rest tied = at (eq_by_cmp name_cmp q k) refl
    where
      at : (b : Bool) → eq_by_cmp name_cmp q k ≡ b → cond b (Some v) rest ≡ cond b (Some v) (cond (eq_by_cmp name_cmp q x) (Some w) rest)
      at true is = refl
      at false is = ap (λ c. cond c (Some w) rest) (sym (ap is_eq (alike q k x tied) ∙ is))
        where
          alike : (q k x : Components) → name_cmp x k ≡ Equal → name_cmp q x ≡ name_cmp q k
          alike q k x tied = name_total.antisymm q x ∙ ap ordering_reverse (name_total.congr x k q tied) ∙ sym (name_total.antisymm q k)

  find-dedup_from : (q : Components) (k : Entry V) (es : List (Entry V)) → find name_cmp q (pairs (dedup_from has_same_name k es)) ≡ find name_cmp q (pairs (k ∷ es))
  find-dedup_from q k [] = refl
  find-dedup_from q k (x ∷ es) = at (find-dedup_from q k es) (find-dedup_from q x es) (has_same_name x k) refl
    where
      at : find name_cmp q (pairs (dedup_from has_same_name k es)) ≡ find name_cmp q (pairs (k ∷ es)) → find name_cmp q (pairs (dedup_from has_same_name x es)) ≡ find name_cmp q (pairs (x ∷ es)) → (b : Bool) → has_same_name x k ≡ b → find name_cmp q (pairs (cond b (dedup_from has_same_name k es) (k ∷ dedup_from has_same_name x es))) ≡ find name_cmp q (pairs (k ∷ x ∷ es))
      at skipped kept true is = skipped ∙ hidden q k.name.components x.name.components k.value x.value (find name_cmp q (pairs es)) (equal _ is)
      at skipped kept false is = ap (cond (eq_by_cmp name_cmp q k.name.components) (Some k.value)) kept

  find-dedup : (q : Components) (es : List (Entry V)) → find name_cmp q (pairs (dedup has_same_name es)) ≡ find name_cmp q (pairs es)
  find-dedup q [] = refl
  find-dedup q (e ∷ es) = find-dedup_from q e es

  -- entries that were sorted, and then freed of later ones with the same name
  pub collected : (xs ys zs : List (Entry V)) → IsSorted entry_cmp ys → IsStable entry_cmp xs ys → zs ≡ dedup has_same_name ys → T (is_sorted name_cmp (pairs zs)) × (from_sorted {R = name_cmp} (pairs zs) ≡ from_entries (pairs xs))
  collected xs ys zs sorted stable is =
      let rising : T (is_sorted name_cmp (pairs zs)) = subst (λ l. T (is_sorted name_cmp (pairs l))) (sym is) (sorted_pairs _ (IsStrictlySortedBy-dedup entry_total (λ x y. refl) ys sorted)) in (
        rising,
        same_map name_total name_exact _ _ (λ q.
            get-from_sorted name_cmp (pairs zs) q rising ∙ ap (λ l. find name_cmp q (pairs l)) is ∙ find-dedup q ys ∙ find-stable xs ys stable q
            ∙ sym (get-from_entries name_total (pairs xs) q)),
      )
