-- A copy of a list, or of an optional value, is equal if it consists of equal copies.
use Rattle.std.proofs.Common.{◌≡◌, List, [], ◌∷◌, map, Option, Some, None, refl, ap, ◌∙◌}
use Rattle.std.specs.Prelude.{option_map}

pub map_all : {A : Type 0} (f : A → A) → ((x : A) → f x ≡ x) → (xs : List A) → map f xs ≡ xs
map_all f same [] = refl
map_all {A} f same (x ∷ xs) = ap (λ (y : A). y ∷ map f xs) (same x) ∙ ap (λ (ys : List A). x ∷ ys) (map_all f same xs)

pub option_all : {A : Type 0} (f : A → A) → ((x : A) → f x ≡ x) → (o : Option A) → option_map f o ≡ o
option_all f same None = refl
option_all {A} f same (Some x) = ap (λ (y : A). Some y) (same x)
