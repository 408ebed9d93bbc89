-- The name that a text denotes.
use Rattle.std.specs.Prelude.{ℕ, ◌+◌, ◌-◌, ◌*◌, ◌==◌, ◌&&◌, nat_lt, bytes_eq, if◌then◌else◌, List, [], ◌∷◌, map, Option}
use Rattle.std.specs.Prelude.{Some, None}
use Rattle.std.specs.List.{slice_split}
use Rattle.krb_fields.specs.Name.{Components}
use Rattle.krb_fields.specs.NameText.{component_text, text_of}
use Rattle.krb_fields.specs.NameLimits.{is_component, is_within_limits}

abbrev pub digit_value : ℕ → ℕ
digit_value digit = if nat_lt digit 0x61 then digit - 0x30 else (digit - 0x61) + 10

-- the bytes that a component's text denotes, if it is one: `\` (5C) comes before two digits
unfoldable pub unescaped : List ℕ → List ℕ
unescaped [] = []
unescaped (o ∷ []) = o ∷ []
unescaped (o ∷ h ∷ []) = o ∷ h ∷ []
unescaped (o ∷ h ∷ l ∷ text) =
    if o == 0x5C then (digit_value h * 16 + digit_value l) ∷ unescaped text else o ∷ unescaped (h ∷ l ∷ text)

-- the component, or realm, that has this text
abbrev pub component_of : List ℕ → Option (List ℕ)
component_of text =
    if is_component (unescaped text) && bytes_eq (component_text (unescaped text)) text then Some (unescaped text)
    else None

-- the components between the bytes `/` (2F)
abbrev pub parts_of : List ℕ → Components
parts_of text = map unescaped (slice_split (λ o. o == 0x2F) text)

-- the name that has this text
abbrev pub name_of : List ℕ → Option Components
name_of text =
    if is_within_limits (parts_of text) && bytes_eq (text_of (parts_of text)) text then Some (parts_of text) else None
