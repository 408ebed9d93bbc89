-- The names of principals as MIT writes them.
use Rattle.std.specs.Prelude.{◌==◌, ◌||◌, ◌++◌, ◌∷◌, [], ℕ, List, Option, Some, None, if◌then◌else◌}
use Rattle.std.specs.List.{flat_map}
use Rattle.krb_fields.specs.Name.{Components}

-- the letter that stands after a backslash for a byte: / @ and \ for themselves, n t b 0 for 0A 09 08 00
abbrev pub letter_of : ℕ → Option ℕ
letter_of octet =
    if octet == 0x2F || octet == 0x40 || octet == 0x5C then Some octet
    else if octet == 0x0A then Some 0x6E
    else if octet == 0x09 then Some 0x74
    else if octet == 0x08 then Some 0x62
    else if octet == 0x00 then Some 0x30
    else None

abbrev pub text_by : ℕ → Option ℕ → List ℕ
text_by octet (Some letter) = 0x5C ∷ letter ∷ []
text_by octet None = octet ∷ []

abbrev pub octet_text : ℕ → List ℕ
octet_text octet = text_by octet (letter_of octet)

abbrev pub component_text : List ℕ → List ℕ
component_text octets = flat_map octet_text octets

-- a slash stands before each component but the first
abbrev pub component_part : List ℕ → List ℕ
component_part octets = 0x2F ∷ component_text octets

abbrev pub components_text : Components → List ℕ
components_text [] = []
components_text (first ∷ others) = component_text first ++ flat_map component_part others

-- then `@`, and the realm
abbrev pub full_text : Components → List ℕ → List ℕ
full_text name realm = components_text name ++ 0x40 ∷ component_text realm
