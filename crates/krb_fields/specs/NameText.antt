-- The text of a name.
use Rattle.std.specs.Prelude.{◌≡◌, ◌==◌, ℕ, ◌+◌, ◌-◌, ◌/◌, ◌%◌, ◌&&◌, not, nat_le, nat_lt, Bool, List, [], ◌∷◌}
use Rattle.std.specs.Prelude.{if◌then◌else◌, map}
use Rattle.std.specs.List.{flat_map, join_with_byte}
use Rattle.krb_fields.specs.Name.{Components}
use Rattle.krb_fields.specs.NameLimits.{IsComponent, IsWithinLimits}

-- a byte is written as it is: 21 to 7E except `/` (2F), `\` (5C) and `@` (40)
abbrev pub is_plain : ℕ → Bool
is_plain o = nat_le 0x21 o && nat_le o 0x7E && not (o == 0x2F) && not (o == 0x5C) && not (o == 0x40)

-- the lowercase hexadecimal digit for a value below 16: `0` is 30 and `a` is 61
abbrev pub hex_digit : ℕ → ℕ
hex_digit v = if nat_lt v 10 then 0x30 + v else 0x61 + (v - 10)

-- the two digits of a byte
abbrev pub digits_of : ℕ → List ℕ
digits_of o = hex_digit (o / 16) ∷ hex_digit (o % 16) ∷ []

-- a byte that is not plain is written as `\` and its digits
unfoldable pub octet_text : ℕ → List ℕ
octet_text o = if is_plain o then o ∷ [] else 0x5C ∷ digits_of o

abbrev pub component_text : List ℕ → List ℕ
component_text octets = flat_map octet_text octets

-- components are separated by `/`
abbrev pub text_of : Components → List ℕ
text_of name = join_with_byte 0x2F (map component_text name)

-- this is the text of a component within the limits
abbrev pub IsComponentText : List ℕ → List ℕ → Type 0
IsComponentText octets text = IsComponent octets × (component_text octets ≡ text)

-- this is the text of a name within the limits
abbrev pub IsNameText : Components → List ℕ → Type 0
IsNameText name text = IsWithinLimits name × (text_of name ≡ text)
