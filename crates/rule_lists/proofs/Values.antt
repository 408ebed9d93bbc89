-- Sorted entries, with only those kept whose values pass a test, as finite maps.
use Rattle.std.proofs.Common.{◌≡◌, Bool, true, false, cond, ◌&&◌, T, List, [], ◌∷◌, filter, Option, Some, None, Less, Equal, Greater, Ordering, refl, sym, ap, subst, ◌∙◌, is_eq}
use Rattle.std.specs.Ordering.{eq_by_cmp}
use Rattle.std.specs.Cmp.{IsTotalOrder}
use Rattle.std.specs.FinMap.{FinMap, IsAntisymmetric, find, is_sorted, from_sorted, get-from_sorted, get-retain_keys, get_tied, same_map}
use Rattle.std.specs.FinMap as map
use Rattle.std.specs.FinMap.Entries.{below_all}
use Rattle.rule_lists.specs.Entries.{pairs_of}
use Rattle.rule_lists.specs.Values.{passes_if, retain_values}
use Rattle.rule_lists.proofs.Entries.{first, second}
use Rattle.rule_lists.proofs.Removed.{both, none_above}

-- the value, if it passes
abbrev pub passing : {V : Type 0} → (V → Bool) → Option V → Option V
passing test o = cond (passes_if test o) o None

module _ {K V : Type 0} {R : K → K → Ordering} (o : IsTotalOrder R) where
  pub get-retain_values : (m : FinMap R V) (test : V → Bool) (q : K) → map.get (retain_values m test) q ≡ passing test (map.get m q)
  get-retain_values m test q = get-retain_keys m (λ k. passes_if test (map.get m k)) q (λ x t. ap (passes_if test) (get_tied o m q x t))

-- R orders the keys; an entry e has the key `key e` and the value `value e`
module _ {E K V : Type 0} (R : K → K → Ordering) (o : IsTotalOrder R) (exact : IsAntisymmetric R) (key : E → K) (value : E → V) (test : V → Bool) where
  abbrev pairs : List E → List (K × V)
  pairs = pairs_of key value

  abbrev kept : List E → List E
  kept es = filter (λ e. test (value e)) es

  below-kept : (x : K) (es : List E) → T (below_all R x (pairs es)) → T (below_all R x (pairs (kept es)))
  below-kept x [] h = tt
  below-kept x (e ∷ es) h = at (test (value e)) (below-kept x es (second _ _ h))
    where
      at : (b : Bool) → T (below_all R x (pairs (kept es))) → T (below_all R x (pairs (cond b (e ∷ kept es) (kept es))))
      at true rest = both _ _ (first _ _ h) rest
      at false rest = rest

  sorted-kept : (es : List E) → T (is_sorted R (pairs es)) → T (is_sorted R (pairs (kept es)))
  sorted-kept [] h = tt
  sorted-kept (e ∷ es) h = at (test (value e)) (sorted-kept es (second _ _ h))
    where
      at : (b : Bool) → T (is_sorted R (pairs (kept es))) → T (is_sorted R (pairs (cond b (e ∷ kept es) (kept es))))
      at true rest = both _ _ (below-kept (key e) es (first _ _ h)) rest
      at false rest = rest

  find-kept : (q : K) (es : List E) → T (is_sorted R (pairs es)) → find R q (pairs (kept es)) ≡ passing test (find R q (pairs es))
  find-kept q [] h = refl
  find-kept q (e ∷ es) h = at (find-kept q es (second _ _ h)) (test (value e)) refl (R q (key e)) refl
    where
      at : find R q (pairs (kept es)) ≡ passing test (find R q (pairs es)) → (b : Bool) → test (value e) ≡ b → (r : Ordering) → R q (key e) ≡ r
          → find R q (pairs (cond b (e ∷ kept es) (kept es))) ≡ passing test (cond (is_eq r) (Some (value e)) (find R q (pairs es)))
      at rest true passes Less is = ap (λ r. cond (is_eq r) (Some (value e)) (find R q (pairs (kept es)))) is ∙ rest
      at rest true passes Greater is = ap (λ r. cond (is_eq r) (Some (value e)) (find R q (pairs (kept es)))) is ∙ rest
      at rest true passes Equal is = ap (λ r. cond (is_eq r) (Some (value e)) (find R q (pairs (kept es)))) is ∙ sym (ap (λ b. cond b (Some (value e)) None) passes)
      at rest false fails Less is = rest
      at rest false fails Greater is = rest
      at rest false fails Equal is = rest ∙ ap (passing test) (none_above R o exact key value (key e) q es (first _ _ h) is) ∙ sym (ap (λ b. cond b (Some (value e)) None) fails)

  pub values_kept : (es ys : List E) → T (is_sorted R (pairs es)) → ys ≡ kept es → T (is_sorted R (pairs ys)) × (from_sorted {R = R} (pairs ys) ≡ retain_values (from_sorted (pairs es)) test)
  values_kept es ys s is =
      let sorted : T (is_sorted R (pairs ys)) = subst (λ l. T (is_sorted R (pairs l))) (sym is) (sorted-kept es s) in (
        sorted,
        same_map o exact _ _ (λ q.
            get-from_sorted R (pairs ys) q sorted ∙ ap (λ l. find R q (pairs l)) is ∙ find-kept q es s
            ∙ ap (passing test) (sym (get-from_sorted R (pairs es) q s)) ∙ sym (get-retain_values o (from_sorted (pairs es)) test q)),
      )
