-- The effect of the lines of a batch, one after another.
use Rattle.std.specs.Prelude.{◌≡◌, ◌⊎◌, ◌++◌, ℕ, Bool, true, false, List, [], ◌∷◌, IfSome, Option, Some}
use Rattle.file_store.specs.Input.{Input, no_input}
use Rattle.file_store.specs.World.{World}
use Rattle.text_fields.specs.LineWords.{words_of_line}
use Rattle.principals.specs.Database.{Principals}
use Rattle.kadm_changes.specs.Updates.{IsUpdated}
use Rattle.kadm_changes.specs.Texts.{Text}
use Rattle.kadm_changes.specs.Worlds.{Rewritten}
use Rattle.kadm.specs.declared.commands.Command.{Command}
use Rattle.kadm.specs.declared.commands.CommandKind.TheVariants as kinds
use Rattle.kadm_changes.specs.declared.updates.Update.{Update}
use Rattle.kadm.specs.declared.writing.WriteCommand.TheVariants as writes
use Rattle.kadm.specs.Words.{Spells, in_batch}

-- ---- the database

-- the change that was ordered is made; a line of a batch takes no line of the input
abbrev pub IsCommandMade : Option World → Bool → Command → Principals → Principals → Type 0
IsCommandMade world whole command p new =
    (update : Update) × (command.kind ≡ kinds.Write (writes.Update update))
    × IsUpdated world no_input whole command.target update p new

-- the change that words spell is made
abbrev pub IsSpelledMade : Option World → Bool → List Text → Principals → Principals → Type 0
IsSpelledMade world whole words p new = (command : Command) × Spells words command
    × IsCommandMade world whole command p new

-- the same for a line of a batch
abbrev pub IsLineDone : Option World → Bool → Text → List Text → Principals → Principals → Type 0
IsLineDone world whole db line p new = IsSpelledMade world whole (in_batch db line) p new

-- all of them, one after another
abbrev pub AreDone : Option World → Bool → Text → List (List Text) → Principals → Principals → Type 0
AreDone world whole db [] p new = new ≡ p
AreDone world whole db (line ∷ lines) p new = (next : Principals) × IsLineDone world whole db line p next
    × AreDone world whole db lines next new

-- each of them, or what it changes is left as it was
abbrev pub AreTried : Option World → Bool → Text → List (List Text) → Principals → Principals → Type 0
AreTried world whole db [] p new = new ≡ p
AreTried world whole db (line ∷ lines) p new =
    (next : Principals) × (IsLineDone world whole db line p next ⊎ (next ≡ p)) × AreTried world whole db lines next new

-- a run over the lines: all were done, or it keeps going and some were
abbrev pub IsRun : Option World → Bool → Text → Bool → List (List Text) → Principals → Principals → Bool → Type 0
IsRun world whole db keep_going lines p new true = AreDone world whole db lines p new
IsRun world whole db keep_going lines p new false = (keep_going ≡ true) × AreTried world whole db lines p new

-- a line was done, or is left and the run is no longer whole
abbrev pub IsTurn : Option World → Bool → Text → List Text → Bool → Principals → Principals → Bool → Type 0
IsTurn world allowed db line whole p new whole_then =
    (IsLineDone world allowed db line p new × (whole_then ≡ whole)) ⊎ ((new ≡ p) × (whole_then ≡ false))

-- ---- the input

-- before the lines of these words, unless there are none: an empty line and a comment have none
abbrev pub with_words : List Text → List (List Text) → List (List Text)
with_words [] lines = lines
with_words (word ∷ words) lines = (word ∷ words) ∷ lines

-- the words of each line that has any, in their order; every line can be split into words
abbrev pub AreWords : List (List ℕ) → List (List Text) → Type 0
AreWords [] worded = worded ≡ []
AreWords (line ∷ lines) worded =
    (words : List Text) × (words_of_line line ≡ Some words) × (later : List (List Text)) × AreWords lines later
    × (worded ≡ with_words words later)

-- these lines with the words of one more line
abbrev pub IsLineAdded : List ℕ → List (List Text) → List (List Text) → Type 0
IsLineAdded line old new = (words : List Text) × (words_of_line line ≡ Some words) × (new ≡ old ++ with_words words [])

-- the lines of a batch are those of the input: each of them, once, in their order
abbrev pub AreInput : Option Input → List (List Text) → Type 0
AreInput input lines = IfSome input (λ held. AreWords held.lines lines)

-- ---- the files

-- the changes of all lines of the input, one after another
abbrev pub Batched : Option World → Option Input → Bool → List ℕ → Option World → Type 0
Batched before input whole db after =
    (lines : List (List Text)) × AreInput input lines × Rewritten before db (AreDone before whole db lines) after

-- those of some of them
abbrev pub Tried : Option World → Option Input → Bool → List ℕ → Option World → Type 0
Tried before input whole db after =
    (lines : List (List Text)) × AreInput input lines × Rewritten before db (AreTried before whole db lines) after
