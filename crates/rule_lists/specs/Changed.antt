-- A map with all its values changed.
use Rattle.std.specs.Prelude.{List, map as map_list}
use Rattle.std.specs.declared.cmp.Ordering.{Ordering}
use Rattle.std.specs.FinMap as map

-- each entry with its value changed
abbrev pub change_each : {K V : Type 0} → (V → V) → List (K × V) → List (K × V)
change_each change = map_list (λ e. (e.0, change e.1))

-- the same keys with changed values
abbrev pub change_values : {K V : Type 0} {R : K → K → Ordering} → map.FinMap R V → (V → V) → map.FinMap R V
change_values m change = map.from_sorted (change_each change (map.entries m))
