-- The bytes of an input, line by line.
use Rattle.std.specs.Prelude.{◌≡◌, ℕ, ◌+◌, List, ◌∷◌, length, Option, Some, None}
use Rattle.kdcd.specs.Script.{lines_of, line_text, IsWithinLimits}

-- a line was read from the remaining bytes, after `before` bytes of the input, and this is its text
abbrev pub TakesLine : Option (List ℕ) → Option (List ℕ) → ℕ → ℕ → List ℕ → Type 0
TakesLine None new before after text = Unit {0}
TakesLine (Some octets) None before after text = ⊥
TakesLine (Some octets) (Some rest) before after text =
    (line : List ℕ) × (lines_of octets ≡ line ∷ lines_of rest) × IsWithinLimits before line × (text ≡ line_text line)
    × (after ≡ before + length line)

-- the next line exceeds the limits
abbrev pub IsBeyond : Option (List ℕ) → ℕ → Type 0
IsBeyond None before = Unit {0}
IsBeyond (Some octets) before =
    (line : List ℕ) × (lines : List (List ℕ)) × (lines_of octets ≡ line ∷ lines) × ¬ IsWithinLimits before line
