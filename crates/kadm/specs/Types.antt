-- The encryption types that words ask for.
use Rattle.std.specs.Prelude.{◌≡◌, ◌==◌, List, [], ◌∷◌, Option, Some, None, ⊤}
use Rattle.std.specs.List.{slice_split}
use Rattle.enctypes.specs.declared.etype.Etype.{Etype}
use Rattle.text_fields.specs.Etypes.{IsEtypeText, offered}
use Rattle.kadm_changes.specs.Texts.{Text}

-- the texts between the commas of a list
abbrev pub parts_of : Text → List Text
parts_of text = slice_split (λ b. b == 0x2C) text

-- each text has the number of the type in its place
abbrev pub AreTypesIn : List Etype → List Text → Type 0
AreTypesIn [] [] = ⊤
AreTypesIn [] (part ∷ parts) = ⊥
AreTypesIn (etype ∷ etypes) [] = ⊥
AreTypesIn (etype ∷ etypes) (part ∷ parts) = IsEtypeText etype part × AreTypesIn etypes parts

-- the types of new keys: those of --types, in its order, and else all four
abbrev pub AreTypesAsked : Option Text → List Etype → Type 0
AreTypesAsked None etypes = etypes ≡ offered
AreTypesAsked (Some text) etypes = AreTypesIn etypes (parts_of text)
