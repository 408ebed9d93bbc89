-- Properties of all elements, proved from the front on.
use Rattle.std.proofs.Common.{◌≡◌, ◌<◌, ◌≤◌, ◌-◌, List, [], ◌∷◌, length, get_or, take, drop, subst, arith, All}
use Rattle.std.proofs.lemmas.List.{take_all}
use Rattle.std.proofs.lemmas.List.Elements.{All-cons}

-- a property of the first element and of those after it holds of all
pub All-front : {A : Type 0} (P : A → Type 0) (xs : List A) (x : A) → 1 ≤ length xs → x ≡ get_or xs 0 x → P x → All P (take (length xs - 1) (drop 1 xs)) → All P xs
All-front P [] x some is here later = absurd (omega (arith, some))
All-front P (y ∷ ys) x some is here later = All-cons P y ys (subst P is here) (subst (All P) (take_all (length (y ∷ ys) - 1) ys (omega arith)) later)

pub All-none : {A : Type 0} (P : A → Type 0) (xs : List A) → length xs < 1 → All P xs
All-none P xs none k d within = absurd (omega (arith, none, within))
