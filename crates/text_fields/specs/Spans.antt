-- Time spans, each with the texts that denote it.
use Rattle.std.specs.Prelude.{◌≡◌, ◌<◌, ◌*◌, ◌^◌, ◌++◌, ℕ, List, codes}
use Rattle.std.specs.Str.Parse.{IsNumeral, digits_value}
use Rattle.text_fields.specs.declared.spans.Unit.{Unit}
use Rattle.text_fields.specs.declared.spans.Unit.TheVariants.{Second, Minute, Hour, Day}

abbrev pub unit_mark : Unit → List ℕ
unit_mark Second = codes "s"
unit_mark Minute = codes "m"
unit_mark Hour = codes "h"
unit_mark Day = codes "d"

abbrev pub unit_seconds : Unit → ℕ
unit_seconds Second = 1
unit_seconds Minute = 60
unit_seconds Hour = 3600
unit_seconds Day = 86400

-- a decimal number followed by the letter of its unit, below 2^32 seconds
abbrev pub IsSpanText : ℕ → List ℕ → Type 0
IsSpanText seconds text =
    (digits : List ℕ) × (unit : Unit) × (text ≡ digits ++ unit_mark unit) × IsNumeral 10 digits
    × (seconds ≡ digits_value 10 digits * unit_seconds unit) × (seconds < 2 ^ 32)
