-- Patterns of names.
use Rattle.std.specs.Prelude.{◌==◌, ◌&&◌, ◌||◌, ℕ, Bool, true, false, List, [], ◌∷◌, if◌then◌else◌, filter, map}
use Rattle.krb_fields.specs.Name.{Components}
use Rattle.krb_fields.specs.NameText.{text_of}
use Rattle.principal_rows.specs.declared.row.Row.{Row}

-- the text itself passes, or what is left of it without some of its first octets
abbrev pub some_end : (List ℕ → Bool) → List ℕ → Bool
some_end test [] = test []
some_end test (octet ∷ text) = test (octet ∷ text) || some_end test text

-- the text begins with this octet, and what follows passes
abbrev pub begins : ℕ → (List ℕ → Bool) → List ℕ → Bool
begins octet test [] = false
begins octet test (first ∷ text) = first == octet && test text

-- a text fits a pattern, in which each star (0x2A) stands for any octets, also for none, and any other octet for itself
abbrev pub fits : List ℕ → List ℕ → Bool
fits [] [] = true
fits [] (octet ∷ text) = false
fits (octet ∷ pattern) text = if octet == 0x2A then some_end (fits pattern) text else begins octet (fits pattern) text

-- the names of these rows that fit a pattern, in their order
abbrev pub names_like : List ℕ → List (Components × Row) → List Components
names_like pattern rows = filter (λ name. fits pattern (text_of name)) (map (λ row. row.0) rows)
