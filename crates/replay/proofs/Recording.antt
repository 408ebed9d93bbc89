-- Adding a pair and then forgetting what lies below the floor equals forgetting first and then adding.
use Rattle.std.proofs.Common.{◌≡◌, Bool, true, false, cond, Equal, not, ◌||◌, ℤ, pos, ◌-ℤ◌, nat_lt, Option, Some, None, Ordering, refl, sym, ap, ◌∙◌, arith}
use Rattle.std.specs.Prelude.{int_lt, unsigned_abs}
use Rattle.std.specs.Int.{int_max}
use Rattle.std.specs.Ordering.{eq_by_cmp}
use Rattle.std.specs.Cmp.{IsTotalOrder, Equal-is}
use Rattle.std.specs.FinMap.{FinMap, IsAntisymmetric, get, same_map, get-insert, get-retain_keys}
use Rattle.std.specs.FinMap as map
use Rattle.std.proofs.lemmas.Int.{ints, clamps}
use Rattle.krb_fields.specs.Skew.{skew}
use Rattle.replay.specs.Stamp.{Stamp, stamp_cmp, is_from, is_beyond_clock_skew}
use Rattle.replay.specs.declared.cache.ReplayCache.{ReplayCache}
use Rattle.replay.specs.ReplayCache.{floor_at, recorded}
use Rattle.replay.proofs.Stamps.{stamp_total, stamp_exact}

-- a pair within the clock skew is not below the floor that it makes
pub is_from_floor_at : (floor now : ℤ) (stamp : Stamp) → is_beyond_clock_skew floor now stamp.0 ≡ false → is_from (floor_at floor now) stamp ≡ true
is_from_floor_at floor now stamp timely = at stamp.0 (not_late timely) (not_low timely)
  where
    not_late : (nat_lt skew (unsigned_abs (stamp.0 -ℤ now)) || int_lt stamp.0 floor) ≡ false → nat_lt skew (unsigned_abs (stamp.0 -ℤ now)) ≡ false
    not_late h = grind arith

    not_low : (nat_lt skew (unsigned_abs (stamp.0 -ℤ now)) || int_lt stamp.0 floor) ≡ false → int_lt stamp.0 floor ≡ false
    not_low h = grind arith

    at : (ctime : ℤ) → nat_lt skew (unsigned_abs (ctime -ℤ now)) ≡ false → int_lt ctime floor ≡ false → not (int_lt ctime (int_max floor (now -ℤ pos skew))) ≡ true
    at ctime near high = grind (arith, ints, clamps)

by_tests : {V : Type 0} (same passes : Bool) (x y : Option V) → (same ≡ true → passes ≡ true) → cond passes (cond same x y) None ≡ cond same x (cond passes y None)
by_tests true true x y h = refl
by_tests true false x y h = let e = h refl in cc
by_tests false true x y h = refl
by_tests false false x y h = refl

module _ {K V : Type 0} {R : K → K → Ordering} (o : IsTotalOrder R) (exact : IsAntisymmetric R) where
  -- a key that passes the test may be inserted before or after the others are dropped
  pub retain_keys-insert : (p : K → Bool) (m : FinMap R V) (k : K) (v : V) → p k ≡ true → map.retain_keys (map.insert m k v) p ≡ map.insert (map.retain_keys m p) k v
  retain_keys-insert p m k v passes =
      let alike = λ (q x : K) (t : R q x ≡ Equal). ap p (sym (exact q x t)) in
      same_map o exact _ _ (λ q.
      get-retain_keys (map.insert m k v) p q (alike q) ∙ ap (λ f. cond (p q) f None) (get-insert o m k v q)
      ∙ by_tests (eq_by_cmp R q k) (p q) (Some v) (get m q) (λ e. ap p (exact q k ((Equal-is (R q k)).0 e)) ∙ passes)
      ∙ ap (cond (eq_by_cmp R q k) (Some v)) (sym (get-retain_keys m p q (alike q)))
      ∙ sym (get-insert o (map.retain_keys m p) k v q))

module _ {V : Type 0} where
  -- the cache with the floor raised, after the pair was added and then the pairs below the floor were forgotten
  pub records : (m : ReplayCache V) (now floor : ℤ) (stamp : Stamp) (kept : V) (put left : FinMap stamp_cmp V) → is_beyond_clock_skew m.floor now stamp.0 ≡ false → put ≡ map.insert m.pairs stamp kept → floor ≡ floor_at m.floor now → left ≡ map.retain_keys put (is_from floor) → ◌≡◌ {A = ReplayCache V} (record { failures = m.failures; floor = floor; pairs = left }) (recorded m now stamp kept)
  records m now floor stamp kept put left timely put_is floor_is left_is =
      let pairs : left ≡ map.insert (map.retain_keys m.pairs (is_from (floor_at m.floor now))) stamp kept =
      left_is ∙ ap (λ f. map.retain_keys put (is_from f)) floor_is ∙ ap (λ p. map.retain_keys p (is_from (floor_at m.floor now))) put_is
      ∙ retain_keys-insert stamp_total stamp_exact (is_from (floor_at m.floor now)) m.pairs stamp kept (is_from_floor_at m.floor now stamp timely) in
      λ i. record { failures = m.failures; floor = floor_is i; pairs = pairs i }
