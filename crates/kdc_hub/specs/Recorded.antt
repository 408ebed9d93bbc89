-- The record of a source of rows that may be absent.
use Rattle.std.specs.Prelude.{Bool, true, List, Option, Some, None}
use Rattle.kdc_hub.specs.declared.rows.Look.{Look}

abbrev pub recorded_by_any : {S : Type 0} → (S → Option (List Look)) → Option S → Option (List Look)
recorded_by_any recorded (Some source) = recorded source
recorded_by_any recorded None = None

-- without a source the rows never change
abbrev pub is_fixed_if : {S : Type 0} → (S → Bool) → Option S → Bool
is_fixed_if is_fixed (Some source) = is_fixed source
is_fixed_if is_fixed None = true
