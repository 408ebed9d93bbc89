-- Standard input: its lines, each of which is read once. A store without a record of it has no input, and nothing is
-- stated about it.
use Rattle.std.specs.Prelude.{◌≡◌, ◌<◌, ◌==◌, ℕ, Bool, true, false, List, [], ◌∷◌, Option, Some, IfSome, if◌then◌else◌}
use Rattle.std.specs.Prelude.{length}

-- with one more byte before the first line
abbrev pub with_octet : ℕ → List (List ℕ) → List (List ℕ)
with_octet octet [] = (octet ∷ []) ∷ []
with_octet octet (line ∷ lines) = (octet ∷ line) ∷ lines

-- the lines of a text: the bytes before each line feed, and those after the last one, if there are any
abbrev pub lines_of : List ℕ → List (List ℕ)
lines_of [] = []
lines_of (octet ∷ octets) = if octet == 0x0A then [] ∷ lines_of octets else with_octet octet (lines_of octets)

-- what was not read yet
pub record Input : Type 0 where
  pub lines : List (List ℕ)
  pub terminal : Bool  -- whether a terminal gives them

-- the input of a program that may read none: no line of it is left
abbrev pub no_input : Option Input
no_input = Some (record { lines = []; terminal = false })

-- the next line was read, and those after it are left
abbrev pub TakesLine : Option Input → List ℕ → Option Input → Type 0
TakesLine before line after =
    IfSome before (λ held. (left : List (List ℕ)) × (held.lines ≡ line ∷ left)
    × (after ≡ Some (record held { lines = left })))

-- the first of these lines has more bytes than this
abbrev pub IsFirstLong : List (List ℕ) → ℕ → Type 0
IsFirstLong lines most = (line : List ℕ) × (left : List (List ℕ)) × (lines ≡ line ∷ left) × (most < length line)

-- the next line has more bytes than this
abbrev pub HasLongLine : Option Input → ℕ → Type 0
HasLongLine before most = IfSome before (λ held. IsFirstLong held.lines most)

-- every line was read
abbrev pub HasEnded : Option Input → Type 0
HasEnded before = IfSome before (λ held. held.lines ≡ [])

abbrev pub IsTerminal : Option Input → Bool → Type 0
IsTerminal input found = IfSome input (λ held. found ≡ held.terminal)

-- what is typed for a password: at a terminal the same line twice, otherwise one line
abbrev pub typed : Bool → List ℕ → List (List ℕ) → List (List ℕ)
typed true line left = line ∷ line ∷ left
typed false line left = line ∷ left

abbrev pub IsTyped : Option Input → List ℕ → Type 0
IsTyped input line = IfSome input (λ held. (left : List (List ℕ)) × (held.lines ≡ typed held.terminal line left))
