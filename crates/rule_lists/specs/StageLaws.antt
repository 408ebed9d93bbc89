-- A value found in stages was found in each of them.
use Rattle.std.proofs.Common.{◌≡◌, Result, Ok, Err, refl}
use Rattle.rule_lists.specs.Stages.{◌>>=◌}

pub stage_ok : {A B R : Type 0} (r : Result A R) (f : A → Result B R) (y : B) → (r >>= f) ≡ Ok y
    → (x : A) × (r ≡ Ok x) × (f x ≡ Ok y)
stage_ok (Ok x) f y e = (x, refl, e)
stage_ok (Err reason) f y e = absurd cc

abbrev found : {A : Type 0} (R : Type 0) → A → Result A R
found R x = Ok x

pub ok_is : {A R : Type 0} (x y : A) → found R x ≡ found R y → x ≡ y
ok_is x y e = cc
