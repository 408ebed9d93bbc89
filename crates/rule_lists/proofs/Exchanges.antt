-- Taking a value out of a map, changing it and putting it back; and a key without a value.
use Rattle.std.proofs.Common.{◌≡◌, Bool, true, false, cond, Option, Some, None, Ordering, refl, sym, ap, ◌∙◌, is_eq, is_some}
use Rattle.std.specs.Option.{unwrap_or}
use Rattle.std.specs.Ordering.{eq_by_cmp}
use Rattle.std.specs.Cmp.{IsTotalOrder, Equal-is, tied_itself}
use Rattle.std.specs.FinMap.{FinMap, IsAntisymmetric, get, same_map, get-insert}
use Rattle.std.specs.FinMap as map

shadowed : {A : Type 0} (b : Bool) (x y z : A) → cond b x (cond b y z) ≡ cond b x z
shadowed true x y z = refl
shadowed false x y z = refl

none_or : {V : Type 0} (o : Option V) (d : V) → is_some o ≡ false → unwrap_or o d ≡ d
none_or None d e = refl
none_or (Some x) d e = cc

module _ {K V : Type 0} (R : K → K → Ordering) (o : IsTotalOrder R) (exact : IsAntisymmetric R) where
  -- a second value at the same key replaces the first
  pub insert_twice : (m : FinMap R V) (k : K) (a b : V) → map.insert (map.insert m k a) k b ≡ map.insert m k b
  insert_twice m k a b = same_map o exact _ _ (λ q.
      get-insert o (map.insert m k a) k b q ∙ ap (cond (eq_by_cmp R q k) (Some b)) (get-insert o m k a q)
      ∙ shadowed (eq_by_cmp R q k) _ _ _ ∙ sym (get-insert o m k b q))

  -- putting back what was there changes nothing
  pub insert_back : (m : FinMap R V) (k : K) (a : V) → get m k ≡ Some a → map.insert m k a ≡ m
  insert_back m k a h = same_map o exact _ _ (λ q. get-insert o m k a q ∙ at (eq_by_cmp R q k) q refl)
    where
      at : (b : Bool) (q : K) → eq_by_cmp R q k ≡ b → cond b (Some a) (get m q) ≡ get m q
      at true q e = sym h ∙ ap (get m) (sym (exact q k ((Equal-is (R q k)).0 e)))
      at false q e = refl

  -- the value at the key, or the default if there is none
  pub taken_is : (m : FinMap R V) (k : K) (a d : V) → get m k ≡ Some a → unwrap_or (get m k) d ≡ a
  taken_is m k a d h = ap (λ x. unwrap_or x d) h

  pub absent_is : (m : FinMap R V) (k : K) (d : V) → map.contains_key m k ≡ false → unwrap_or (get m k) d ≡ d
  absent_is m k d h = none_or (get m k) d h

  -- the key is still there after its value was replaced
  pub still_there : (m n : FinMap R V) (k : K) (a : V) → n ≡ map.insert m k a → map.contains_key n k ≡ true
  still_there m n k a e = ap is_some (ap (λ l. get l k) e ∙ get-insert o m k a k ∙ ap (λ r. cond (is_eq r) (Some a) (get m k)) (tied_itself o k))

  -- a value replaced by a, changed to w and put back
  pub put_back : (m n l : FinMap R V) (k : K) (a w : V) → n ≡ map.insert m k a → l ≡ map.insert n k w → l ≡ map.insert m k w
  put_back m n l k a w out back = back ∙ ap (λ x. map.insert x k w) out ∙ insert_twice m k a w

  -- a value replaced by a, unchanged and put back
  pub put_back_same : (m n l : FinMap R V) (k : K) (a w : V) → get m k ≡ Some w → n ≡ map.insert m k a → l ≡ map.insert n k w → l ≡ m
  put_back_same m n l k a w there out back = put_back m n l k a w out back ∙ insert_back m k w there
