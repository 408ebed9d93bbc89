-- The keys of a map whose values pass a test.
use Rattle.std.specs.Prelude.{Bool, false, Option, Some, None}
use Rattle.std.specs.declared.cmp.Ordering.{Ordering}
use Rattle.std.specs.FinMap as map

-- there is a value, and it passes
abbrev pub passes_if : {V : Type 0} → (V → Bool) → Option V → Bool
passes_if test (Some value) = test value
passes_if test None = false

abbrev pub retain_values : {K V : Type 0} {R : K → K → Ordering} → map.FinMap R V → (V → Bool) → map.FinMap R V
retain_values m test = map.retain_keys m (λ k. passes_if test (map.get m k))
