-- BIT STRING: the number of unused bits in the last byte, followed by the bytes (X.690, sections 8.6 and 11.2).
use Rattle.std.specs.Prelude.{ℕ, ◌*◌, ◌-◌, ◌%◌, ◌^◌, ◌==◌, ◌&&◌, Bool, false, List, [], ◌∷◌, ◌++◌, length, take}
use Rattle.std.specs.Prelude.{slice_index, nat_lt, if◌then◌else◌}
use Rattle.std.specs.Int.{w32, to_be_bytes, from_be_bytes}
use Rattle.krb_der.specs.Spelling.{Leaf, tlv}

-- at most seven unused bits, all zero; none if there is no byte
unfoldable pub is_padded : ℕ → List ℕ → Bool
is_padded unused octets =
    if length octets == 0 then unused == 0
    else nat_lt unused 8 && slice_index octets (length octets - 1) % 2 ^ unused == 0

unfoldable pub is_bits : List ℕ → Bool
is_bits [] = false
is_bits (unused ∷ octets) = is_padded unused octets

-- the first 32 bits, most significant first; missing ones are zero
unfoldable pub first_bits : List ℕ → ℕ
first_bits octets = from_be_bytes w32 (take 4 (octets ++ 0 ∷ 0 ∷ 0 ∷ 0 ∷ []))

-- the first 32 bits, and the number of bits
unfoldable pub bits_value : List ℕ → ℕ × ℕ
bits_value [] = (0, 0)
bits_value (unused ∷ octets) = (first_bits octets, 8 * length octets - unused)

-- the bytes encode these bits, and this many
abbrev pub Bits : ℕ × ℕ → List ℕ → Type 0
Bits = Leaf 3 is_bits bits_value

-- the encoding of 32 bits
abbrev pub bits_spelling : ℕ → List ℕ
bits_spelling bits = tlv 3 (0 ∷ to_be_bytes w32 bits)
