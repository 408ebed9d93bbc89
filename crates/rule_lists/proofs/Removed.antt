-- Sorted entries with one removed, as finite maps.
use Rattle.std.proofs.Common.{◌≡◌, ℕ, zero, suc, Bool, true, false, cond, ◌&&◌, T, List, [], ◌∷◌, Some, None, Less, Equal, Greater, Ordering, refl, sym, ap, subst, ◌∙◌, arith, is_eq}
use Rattle.std.specs.Ordering.{eq_by_cmp, ordering_reverse}
use Rattle.std.specs.Cmp.{IsTotalOrder}
use Rattle.std.specs.List.{remove}
use Rattle.std.specs.FinMap.{FinMap, IsAntisymmetric, find, is_sorted, from_sorted, get-from_sorted, get-remove, same_map, get}
use Rattle.std.specs.FinMap as map
use Rattle.std.specs.FinMap.Entries.{below_all}
use Rattle.rule_lists.specs.Entries.{pairs_of, IsAt, IsGap}
use Rattle.rule_lists.proofs.Entries.{first, second, less, below_then, found_none}

pub both : (a b : Bool) → T a → T b → T (a && b)
both true b p q = q
both false b p q = p

-- R orders the keys; an entry e has the key `key e` and the value `value e`
module _ {E K V : Type 0} (R : K → K → Ordering) (o : IsTotalOrder R) (exact : IsAntisymmetric R) (key : E → K) (value : E → V) where
  abbrev pairs : List E → List (K × V)
  pairs = pairs_of key value

  below-remove : (x : K) (es : List E) (i : ℕ) → T (below_all R x (pairs es)) → T (below_all R x (pairs (remove es i)))
  below-remove x [] zero h = tt
  below-remove x [] (suc i) h = tt
  below-remove x (e ∷ es) zero h = second _ _ h
  below-remove x (e ∷ es) (suc i) h = both _ _ (first _ _ h) (below-remove x es i (second _ _ h))

  sorted-remove : (es : List E) (i : ℕ) → T (is_sorted R (pairs es)) → T (is_sorted R (pairs (remove es i)))
  sorted-remove [] zero h = tt
  sorted-remove [] (suc i) h = tt
  sorted-remove (e ∷ es) zero h = second _ _ h
  sorted-remove (e ∷ es) (suc i) h = both _ _ (below-remove (key e) es i (first _ _ h)) (sorted-remove es i (second _ _ h))

  -- a key that ties with one below all entries is not found
  pub none_above : (x q : K) (es : List E) → T (below_all R x (pairs es)) → R q x ≡ Equal → find R q (pairs es) ≡ None
  none_above x q [] h tied = refl
  none_above x q (e ∷ es) h tied = rw (o.congr q x (key e) tied ∙ less (R x (key e)) (first _ _ h)) (none_above x q es (second _ _ h) tied)

  -- apart from k, every key has the same value as before
  find-remove : (k q : K) (es : List E) (i : ℕ) → T (is_sorted R (pairs es)) → IsAt R key k es i → find R q (pairs (remove es i)) ≡ cond (eq_by_cmp R q k) None (find R q (pairs es))
  find-remove k q [] i s p = absurd (omega (arith, p.0))
  find-remove k q (e ∷ es) zero s p = at (R q k) refl
    where
      here : R (key e) k ≡ Equal
      here = p.1 e

      as_here : R q (key e) ≡ R q k
      as_here = o.antisymm q (key e) ∙ ap ordering_reverse (o.congr (key e) k q here) ∙ sym (o.antisymm q k)

      at : (r : Ordering) → R q k ≡ r → find R q (pairs es) ≡ cond (is_eq r) None (cond (eq_by_cmp R q (key e)) (Some (value e)) (find R q (pairs es)))
      at Less is = rw (as_here, is) refl
      at Equal is = none_above (key e) q es (first _ _ s) (as_here ∙ is)
      at Greater is = rw (as_here, is) refl
  find-remove k q (e ∷ es) (suc i) s p = at (find-remove k q es i (second _ _ s) (omega (arith, p.0), λ d. p.1 d)) (R q (key e)) refl
    where
      at : find R q (pairs (remove es i)) ≡ cond (eq_by_cmp R q k) None (find R q (pairs es)) → (r : Ordering) → R q (key e) ≡ r → cond (is_eq r) (Some (value e)) (find R q (pairs (remove es i))) ≡ cond (eq_by_cmp R q k) None (cond (is_eq r) (Some (value e)) (find R q (pairs es)))
      at later Less is = later
      at later Greater is = later
      at later Equal is = ap (λ r. cond (is_eq r) None (Some (value e))) (sym (o.congr q (key e) k is ∙ below_then R o key value (key e) es i e k (first _ _ s) (omega (arith, p.0)) (p.1 e)))

  -- an entry removed at the place of its key
  pub removed : (es m searched : List E) (k : K) (i : ℕ) → T (is_sorted R (pairs es)) → searched ≡ es → IsAt R key k searched i → m ≡ remove es i → T (is_sorted R (pairs m)) × (from_sorted {R = R} (pairs m) ≡ map.remove (from_sorted (pairs es)) k)
  removed es m searched k i s here at made =
      let sorted : T (is_sorted R (pairs m)) = subst (λ l. T (is_sorted R (pairs l))) (sym made) (sorted-remove es i s) in (
        sorted,
        same_map o exact _ _ (λ q.
            get-from_sorted R (pairs m) q sorted ∙ ap (λ l. find R q (pairs l)) made ∙ find-remove k q es i s (subst (λ l. IsAt R key k l i) here at)
            ∙ sym (get-remove o (from_sorted (pairs es)) k q ∙ ap (cond (eq_by_cmp R q k) None) (get-from_sorted R (pairs es) q s))),
      )

  -- removing a key that is not there changes nothing
  pub removed_none : (es searched : List E) (m : FinMap R V) (k : K) (i : ℕ) → T (is_sorted R (pairs es)) → from_sorted (pairs es) ≡ m → searched ≡ es → IsGap R key k searched i → m ≡ map.remove m k
  removed_none es searched m k i s is_map here gap =
      let absent : get m k ≡ None = ap (λ m. get m k) (sym is_map) ∙ get-from_sorted R (pairs es) k s ∙ found_none R o key value k es i (subst (λ l. IsGap R key k l i) here gap) in
      same_map o exact _ _ (λ q. at q absent (R q k) refl ∙ sym (get-remove o m k q))
    where
      at : (q : K) → get m k ≡ None → (r : Ordering) → R q k ≡ r → get m q ≡ cond (is_eq r) None (get m q)
      at q absent Less is = refl
      at q absent Greater is = refl
      at q absent Equal is = sym (map.get_tied o m q k is) ∙ absent
