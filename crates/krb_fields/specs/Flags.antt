-- Flags of 32 bits, numbered from the most significant: bit 0 is 2 ^ 31, and bit 31 is 1.
use Rattle.std.specs.Prelude.{◌==◌, ℕ, ◌-◌, ◌^◌, Bool, bit_and, bit_or}
use Rattle.std.specs.Int.{bit_at, bit_not, w32}

-- the bit with this number is set
abbrev pub has_bit : ℕ → ℕ → Bool
has_bit flags n = bit_at flags (31 - n) == 1

-- the flags with that bit set, and with it cleared
abbrev pub with_bit : ℕ → ℕ → ℕ
with_bit flags n = bit_or flags (2 ^ (31 - n))

abbrev pub without_bit : ℕ → ℕ → ℕ
without_bit flags n = bit_and flags (bit_not w32 (2 ^ (31 - n)))
