-- The fields of a line.
use Rattle.std.specs.Prelude.{◌≡◌, ℕ, List, [], ◌∷◌, length, map, codes, Ok}
use Rattle.std.specs.Borrow.{Bor}
use Rattle.std.specs.Str.Parse.{IsNumeral, digits_value}
use Rattle.hex.specs.Hex.{decode_of}

abbrev pub Field : Type 0
Field = List ℕ

-- what borrowed fields hold
abbrev pub texts : List (Bor Field) → List Field
texts fields = map (λ field. field.now) fields

-- a number in decimal
abbrev pub IsNumber : Field → ℕ → Type 0
IsNumber field n = IsNumeral 10 field × (n ≡ digits_value 10 field)

-- bytes in hexadecimal; -1 stands for none
abbrev pub IsHex : Field → List ℕ → Type 0
IsHex field [] = field ≡ codes "-1"
IsHex field (octet ∷ octets) = decode_of field ≡ Ok (octet ∷ octets)

-- this many bytes in hexadecimal
abbrev pub IsOctets : ℕ → Field → List ℕ → Type 0
IsOctets size field octets = (length octets ≡ size) × IsHex field octets

-- ---- at the front of fields, with the fields after it

abbrev pub TakesNumber : List Field → ℕ → List Field → Type 0
TakesNumber fields n rest = (field : Field) × (fields ≡ field ∷ rest) × IsNumber field n

-- this many bytes
abbrev pub TakesOctets : List Field → ℕ → List ℕ → List Field → Type 0
TakesOctets fields size octets rest = (field : Field) × (fields ≡ field ∷ rest) × IsOctets size field octets
