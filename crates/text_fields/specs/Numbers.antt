-- Decimal numbers, and the texts that spell them.
use Rattle.std.specs.Prelude.{◌≡◌, ℕ, ◌<◌, ◌^◌, List}
use Rattle.std.specs.Str.Parse.{IsNumeral, digits_value}

-- a number in decimal digits, with leading zeros allowed
abbrev pub IsNumberText : ℕ → List ℕ → Type 0
IsNumberText n text = IsNumeral 10 text × (digits_value 10 text ≡ n)

-- a number of 32 bits
abbrev pub IsU32Text : ℕ → List ℕ → Type 0
IsU32Text n text = IsNumberText n text × (n < 2 ^ 32)
