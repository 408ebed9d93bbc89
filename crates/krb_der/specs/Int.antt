-- INTEGER: two's complement, most significant byte first, in the fewest bytes (X.690, section 8.3); here at most eight.
use Rattle.std.specs.Prelude.{ℕ, ℤ, ◌-◌, ◌==◌, ◌&&◌, ◌||◌, not, Bool, true, false, List, [], ◌∷◌, ◌++◌, length}
use Rattle.std.specs.Prelude.{replicate, slice_index, nat_lt, nat_le, if◌then◌else◌}
use Rattle.std.specs.Int.{w64, to_be_bytes, from_be_bytes, cast_signed, cast_unsigned}
use Rattle.krb_der.specs.Spelling.{Leaf, tlv}

-- the first of two bytes is not needed: the first nine bits are all equal
abbrev pub is_redundant : ℕ → ℕ → Bool
is_redundant a b = (a == 0 && nat_lt b 128) || (a == 255 && nat_le 128 b)

abbrev pub is_shortest : List ℕ → Bool
is_shortest [] = false
is_shortest (a ∷ []) = true
is_shortest (a ∷ b ∷ rest) = not (is_redundant a b)

unfoldable pub is_int : List ℕ → Bool
is_int octets = is_shortest octets && nat_le (length octets) 8

-- the byte that extends a signed number to the left
abbrev pub sign_octet : List ℕ → ℕ
sign_octet octets = if nat_lt (slice_index octets 0) 128 then 0 else 255

unfoldable pub int_value : List ℕ → ℤ
int_value octets = cast_signed w64 (from_be_bytes w64 (replicate (8 - length octets) (sign_octet octets) ++ octets))

-- the bytes encode the number
abbrev pub Int : ℤ → List ℕ → Type 0
Int = Leaf 2 is_int int_value

-- without the leading bytes that are not needed
unfoldable pub shortest : List ℕ → List ℕ
shortest [] = []
shortest (a ∷ []) = a ∷ []
shortest (a ∷ b ∷ rest) = if is_redundant a b then shortest (b ∷ rest) else a ∷ b ∷ rest

abbrev pub int_octets : ℤ → List ℕ
int_octets z = shortest (to_be_bytes w64 (cast_unsigned w64 z))

-- the encoding of the number
abbrev pub int_spelling : ℤ → List ℕ
int_spelling z = tlv 2 (int_octets z)
