-- The text of a dump.
use Rattle.std.specs.Prelude.{◌≡◌, ◌==◌, ◌||◌, ◌++◌, ◌∷◌, ℕ, Bool, IsTrue, List, [], bytes_eq, codes}
use Rattle.std.specs.Prelude.{Option, Some, None}
use Rattle.std.specs.Option.{option_to_list}
use Rattle.std.specs.List.{slice_split}
use Rattle.mit_dump.specs.Fields.{Field}
use Rattle.mit_dump.specs.Principal.{IsPrincipal}
use Rattle.mit_dump.specs.declared.principal.DumpedPrincipal.{DumpedPrincipal}

-- tabs separate the fields of a line, and a line feed ends each line
abbrev pub fields_of : List ℕ → List Field
fields_of line = slice_split (λ o. o == 0x09) line

abbrev pub lines_of : List ℕ → List (List ℕ)
lines_of text = slice_split (λ o. o == 0x0A) text

-- the first line names the version of the format
abbrev pub is_header : List ℕ → Bool
is_header line =
    bytes_eq line (codes "kdb5_util load_dump version 5") || (bytes_eq line (codes "kdb5_util load_dump version 6")
    || (bytes_eq line (codes "kdb5_util load_dump version 7") || bytes_eq line (codes "kdb5_util load_dump version 8")))

-- a line is that of a principal, or of a policy
abbrev pub IsLineBy : List Field → Option DumpedPrincipal → Type 0
IsLineBy (word ∷ fields) (Some p) = (word ≡ codes "princ") × IsPrincipal fields p
IsLineBy (word ∷ fields) None = word ≡ codes "policy"
IsLineBy [] found = ⊥

abbrev pub IsLine : List ℕ → Option DumpedPrincipal → Type 0
IsLine line found = IsLineBy (fields_of line) found

-- the principals that were found, with the one of this line, if it has one
abbrev pub AddsLine : List ℕ → List DumpedPrincipal → List DumpedPrincipal → Type 0
AddsLine line old new = (first : Option DumpedPrincipal) × IsLine line first × (new ≡ old ++ option_to_list first)

-- the lines of principals and policies
abbrev pub AreFound : List (List ℕ) → List DumpedPrincipal → Type 0
AreFound [] found = found ≡ []
AreFound (line ∷ lines) found =
    (first : Option DumpedPrincipal) × (others : List DumpedPrincipal) × IsLine line first × AreFound lines others
    × (found ≡ option_to_list first ++ others)

-- the lines after the first one; nothing follows the last line feed
abbrev pub AreLines : List (List ℕ) → List DumpedPrincipal → Type 0
AreLines lines found = (body : List (List ℕ)) × (lines ≡ body ++ [] ∷ []) × AreFound body found

-- a text and its principals
abbrev pub IsDumpBy : List (List ℕ) → List DumpedPrincipal → Type 0
IsDumpBy (header ∷ lines) found = IsTrue (is_header header) × AreLines lines found
IsDumpBy [] found = ⊥

abbrev pub IsDump : List ℕ → List DumpedPrincipal → Type 0
IsDump text found = IsDumpBy (lines_of text) found
