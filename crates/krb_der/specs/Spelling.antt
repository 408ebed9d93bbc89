-- Which bytes encode a value: its tag, its length in the fewest bytes, its contents (X.690, sections 8.1 and 10.1). No
-- definition here mentions a reader.
use Rattle.std.specs.Prelude.{◌≡◌, ℕ, ◌<◌, ◌^◌, Bool, IsTrue, List, ◌∷◌, [], ◌++◌, length, get_or, drop, nat_lt}
use Rattle.std.specs.Prelude.{if◌then◌else◌}
use Rattle.std.specs.Int.{w32, to_be_bytes}

-- bytes: each is below 256
abbrev pub IsBytes : List ℕ → Type 0
IsBytes bytes = (i : ℕ) → get_or bytes i 0 < 256

-- a length below 128 in one byte; otherwise the number of its bytes plus 128, followed by these, most significant first
unfoldable pub length_octets : ℕ → List ℕ
length_octets n =
    if nat_lt n (2 ^ 7) then n ∷ []
    else if nat_lt n (2 ^ 8) then 129 ∷ n ∷ []
    else if nat_lt n (2 ^ 16) then 130 ∷ drop 2 (to_be_bytes w32 n)
    else if nat_lt n (2 ^ 24) then 131 ∷ drop 1 (to_be_bytes w32 n)
    else 132 ∷ to_be_bytes w32 n

-- tag, length, contents
unfoldable pub tlv : ℕ → List ℕ → List ℕ
tlv tag contents = tag ∷ (length_octets (length contents) ++ contents)

-- contents that pass a test and have this value
pub record IsContents {A : Type 0} (test : List ℕ → Bool) (value : List ℕ → A) (x : A)
    (contents : List ℕ) : Type 0 where
  pub passes : IsTrue (test contents)
  pub stands : value contents ≡ x

-- a value of a simple type
abbrev pub Leaf : {A : Type 0} → ℕ → (List ℕ → Bool) → (List ℕ → A) → A → List ℕ → Type 0
Leaf tag test value x bytes =
    (contents : List ℕ) × (length contents < 2 ^ 32) × IsContents test value x contents × (bytes ≡ tlv tag contents)

-- an encoding is at the front of the bytes, followed by the rest
abbrev pub Stands : (List ℕ → Type 0) → List ℕ → List ℕ → Type 0
Stands S bytes rest = (front : List ℕ) × S front × (bytes ≡ front ++ rest)
