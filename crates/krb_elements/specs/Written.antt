-- The encoding that is written: each definition is one way to combine texts.
use Rattle.std.specs.Prelude.{ℕ, List, [], ◌∷◌, ◌++◌, Option, Some, None}
use Rattle.krb_der.specs.Spelling.{tlv}

-- a field: its tag around the value with its own tag
abbrev pub field_text : ℕ → ℕ → List ℕ → List ℕ
field_text outer tag contents = tlv outer (tlv tag contents)

-- an optional field
abbrev pub maybe_text : {A : Type 0} → ℕ → ℕ → (A → List ℕ) → Option A → List ℕ
maybe_text outer tag text None = []
maybe_text outer tag text (Some x) = field_text outer tag (text x)

-- a field, followed by all later ones
abbrev pub field_then : {A B : Type 0} → ℕ → ℕ → (A → List ℕ) → (B → List ℕ) → A × B → List ℕ
field_then outer tag text others x = field_text outer tag (text x.0) ++ others x.1

abbrev pub optional_then : {A B : Type 0} → ℕ → ℕ → (A → List ℕ) → (B → List ℕ) → Option A × B → List ℕ
optional_then outer tag text others x = maybe_text outer tag text x.0 ++ others x.1

-- no more fields
abbrev pub no_more : Unit {0} → List ℕ
no_more x = []

-- values in order
abbrev pub items_text : {A : Type 0} → ℕ → (A → List ℕ) → List A → List ℕ
items_text tag text [] = []
items_text tag text (x ∷ xs) = tlv tag (text x) ++ items_text tag text xs
