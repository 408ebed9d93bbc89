-- Which bytes encode a message: each definition is one way to combine encodings. None of them mentions a reader.
use Rattle.std.specs.Prelude.{◌≡◌, ℕ, ◌<◌, ◌^◌, List, [], ◌∷◌, ◌++◌, length, Option, Some, None, Bool, IsTrue}
use Rattle.krb_der.specs.Spelling.{tlv}
use Rattle.krb_elements.specs.Sent.{WithOctets}

-- a value with this tag, whose contents encode it by S
abbrev pub Inside : {A : Type 0} → ℕ → (A → List ℕ → Type 0) → A → List ℕ → Type 0
Inside tag S x bytes = (contents : List ℕ) × (length contents < 2 ^ 32) × S x contents × (bytes ≡ tlv tag contents)

-- a value that passes a test
abbrev pub Such : {A : Type 0} → (A → Bool) → (A → List ℕ → Type 0) → A → List ℕ → Type 0
Such test S x bytes = IsTrue (test x) × S x bytes

-- the part of a value that is kept
abbrev pub SeenAs : {A B : Type 0} → (A → B) → (A → List ℕ → Type 0) → B → List ℕ → Type 0
SeenAs {A} to S y bytes = (x : A) × S x bytes × (to x ≡ y)

-- no more fields
abbrev pub End : Unit {0} → List ℕ → Type 0
End x bytes = bytes ≡ []

-- a field with this tag, followed by the others
abbrev pub Field : {A B : Type 0} → ℕ → (A → List ℕ → Type 0) → (B → List ℕ → Type 0) → A × B → List ℕ → Type 0
Field tag S G x bytes =
    (front : List ℕ) × (back : List ℕ) × Inside tag S x.0 front × G x.1 back × (bytes ≡ front ++ back)

abbrev pub OptionalOf : {A B : Type 0} → ℕ → (A → List ℕ → Type 0) → (B → List ℕ → Type 0) → Option A → B → List ℕ
    → Type 0
OptionalOf tag S G None y bytes = G y bytes
OptionalOf tag S G (Some x) y bytes = Field tag S G (x, y) bytes

-- a value and its bytes as they were sent
abbrev pub Sent : {A : Type 0} → (A → List ℕ → Type 0) → WithOctets A → List ℕ → Type 0
Sent S x bytes = S x.value bytes × (x.octets ≡ bytes)

-- an optional field, followed by the others
abbrev pub Optional : {A B : Type 0} → ℕ → (A → List ℕ → Type 0) → (B → List ℕ → Type 0) → Option A × B → List ℕ
    → Type 0
Optional tag S G x bytes = OptionalOf tag S G x.0 x.1 bytes

-- values in order
abbrev pub Items : {A : Type 0} → (A → List ℕ → Type 0) → List A → List ℕ → Type 0
Items S [] bytes = bytes ≡ []
Items S (x ∷ xs) bytes = (front : List ℕ) × (back : List ℕ) × S x front × Items S xs back × (bytes ≡ front ++ back)

-- a SEQUENCE OF
abbrev pub ListOf : {A : Type 0} → (A → List ℕ → Type 0) → List A → List ℕ → Type 0
ListOf S = Inside 48 (Items S)

-- a value in a tag, and what the tag stands for
abbrev pub InTagOf : {K A : Type 0} → (K → ℕ) → (A → List ℕ → Type 0) → K × A → List ℕ → Type 0
InTagOf tag S x = Inside (tag x.0) S x.1
