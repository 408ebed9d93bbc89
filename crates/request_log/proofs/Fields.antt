-- Fields that are added in two parts.
use Rattle.std.proofs.Common.{◌≡◌, List, [], ◌∷◌, ◌++◌, refl}
use Rattle.request_log.specs.Field.{Field, with_fields}

pub in_two_parts : (fields first then : List Field) → with_fields fields (first ++ then) ≡ with_fields (with_fields fields first) then
in_two_parts fields [] then = refl
in_two_parts fields (f ∷ first) then = in_two_parts (fields ++ f ∷ []) first then
