-- Properties of a call's result.
use Rattle.std.proofs.Common.{◌≡◌, ℕ, List, Option, Some, None, Result, Ok, Err, IfOk, IfSome, subst}

pub respelled : {A V E : Type 0} (S : A → List ℕ → Type 0) (octets : V → List ℕ) (x y : A) (r : Result V E) → x ≡ y → IfOk r (λ v. S x (octets v)) → IfOk r (λ v. S y (octets v))
respelled S octets x y (Ok v) e s = subst (λ z. S z (octets v)) e s
respelled S octets x y (Err f) e s = tt

-- what holds with a part holds with its equal
pub with_equal : {A B V E : Type 0} (P : A → B → Type 0) (r : Result V E) (held : Option A) (x y : B) → x ≡ y
    → IfSome held (λ s. P s x) → IfSome held (λ s. IfOk r (λ v. P s y))
with_equal P (Ok v) (Some s) x y e is = subst (λ z. P s z) e is
with_equal P (Ok v) None x y e is = tt
with_equal P (Err f) (Some s) x y e is = tt
with_equal P (Err f) None x y e is = tt
