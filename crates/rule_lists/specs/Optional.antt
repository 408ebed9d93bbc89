-- Conditions on values that may be absent.
use Rattle.std.specs.Prelude.{Bool, false, Option, Some, None}

-- the result of a test for a value, false if there is none
abbrev pub holds_of : {A : Type 0} → (A → Bool) → Option A → Bool
holds_of test (Some x) = test x
holds_of test None = false
