-- A script: the lines of an input, run in order.
use Rattle.std.specs.Prelude.{◌≡◌, ◌≢◌, ℕ, ◌+◌, ◌≤◌, ◌==◌, if◌then◌else◌, ◌⊎◌, List, [], ◌∷◌, ◌++◌, length, take}
use Rattle.std.specs.Prelude.{Option, None, codes, decimal}
use Rattle.std.specs.Io.BufRead.{strip_last}
use Rattle.std.specs.Io.KnownBytes.{Appends}
use Rattle.hex.specs.Hex.{encode_lower}
use Rattle.command_line.specs.declared.status.Status.{Status}
use Rattle.command_line.specs.declared.status.Status.TheVariants as statuses
use Rattle.principals.specs.FaultName.{fault_name}
use Rattle.kdc_state.specs.declared.state.State.{State}
use Rattle.kdcd.specs.Line.{IsLineText}
use Rattle.kdcd.specs.Run.{Runs, CannotRun}
use Rattle.kdcd.specs.declared.answer.Answer.{Answer}
use Rattle.kdcd.specs.declared.answer.Answer.TheVariants.{Done, Refused, Reply, NoReply}
use Rattle.kdcd.specs.declared.line.Line.{Line}

-- a byte, put before the first line
abbrev pub with_front : ℕ → List (List ℕ) → List (List ℕ)
with_front o [] = (o ∷ []) ∷ []
with_front o (line ∷ lines) = (o ∷ line) ∷ lines

-- the lines of an input, each with the line feed (0A) that ends it; the last may lack it
abbrev pub lines_of : List ℕ → List (List ℕ)
lines_of [] = []
lines_of (o ∷ os) = if o == 0x0A then (o ∷ []) ∷ lines_of os else with_front o (lines_of os)

-- a line without its line feed
abbrev pub line_text : List ℕ → List ℕ
line_text line = strip_last 0x0A line

-- what a result prints
abbrev pub answer_text : Answer → List ℕ
answer_text Done = codes "ok\n"
answer_text (Refused fault) = codes "refused " ++ fault_name fault ++ codes "\n"
answer_text (Reply octets) = codes "reply " ++ encode_lower octets.items ++ codes "\n"
answer_text NoReply = codes "none\n"

-- what a fault prints: the number of its line, from 1
abbrev pub fault_text : ℕ → List ℕ
fault_text number = codes "fault " ++ decimal number ++ codes "\n"

-- a line after `before` bytes has at most 262144 bytes, and ends within the first 16777216 of the input
pub record IsWithinLimits (before : ℕ) (line : List ℕ) : Type 0 where
  pub short : length (line_text line) ≤ 262144
  pub early : before + length line ≤ 16777216

-- the bytes of an input that a run reads at most: the last of them shows that the input is too long
unfoldable pub read_part : List ℕ → List ℕ
read_part octets = take 16777217 octets

-- the text of no line that can run
pub record IsFaultText (kdc : Option State) (text : List ℕ) : Type 0 where
  pub not_empty : text ≢ []
  pub none_runs : (line : Line) → IsLineText line text → CannotRun kdc line

-- a text that runs, with the KDC before and after it, and what it prints; an empty text does and prints nothing
abbrev pub RunsText : Option State → List ℕ → Option State → List ℕ → Type 0
RunsText before [] after printed = (after ≡ before) × (printed ≡ [])
RunsText before (o ∷ os) after printed =
    (line : Line) × (answer : Answer) × IsLineText line (o ∷ os) × Runs before line after answer
    × (printed ≡ answer_text answer)

-- a line after `before` bytes that ends the run
abbrev pub EndsRun : Option State → ℕ → List ℕ → Type 0
EndsRun kdc before line = ¬ IsWithinLimits before line ⊎ IsFaultText kdc (line_text line)

-- what the remaining lines print, and the status, for this KDC and this many lines and bytes before them
abbrev pub IsRun : Option State → ℕ → ℕ → List (List ℕ) → List ℕ → ℕ → Type 0
IsRun kdc number before [] printed status = (printed ≡ []) × (status ≡ 0)
IsRun kdc number before (line ∷ lines) printed status =
    (EndsRun kdc before line × (printed ≡ fault_text (number + 1)) × (status ≡ 1))
    ⊎
    ((after : Option State) × (first later : List ℕ) × IsWithinLimits before line
    × RunsText kdc (line_text line) after first
    × IsRun after (number + 1) (before + length line) lines later status × (printed ≡ first ++ later))

-- what a script prints, and its status; no KDC is open at first
abbrev pub IsScript : List ℕ → List ℕ → ℕ → Type 0
IsScript octets printed status = IsRun None 0 0 (lines_of octets) printed status

-- a run is done, is refused at a line, or failed
abbrev pub IsRunStatus : Status → Type 0
IsRunStatus status = (status ≡ statuses.Done) ⊎ ((status ≡ statuses.Refused) ⊎ (status ≡ statuses.Failed))

-- the writer's contents, if they are known, grow by what a script prints
abbrev pub PrintsScript : List ℕ → Option (List ℕ) → Option (List ℕ) → ℕ → Type 0
PrintsScript octets old new status = (printed : List ℕ) × IsScript octets printed status × Appends old new printed

-- they grew by all of it except the text of the final fault
abbrev pub PrintsUpToFault : List ℕ → Option (List ℕ) → Option (List ℕ) → ℕ → Type 0
PrintsUpToFault octets old new number =
    (printed : List ℕ) × IsScript octets (printed ++ fault_text number) 1 × Appends old new printed

-- a text that was run, with what it printed
abbrev pub PrintsText : Option State → List ℕ → Option State → Option (List ℕ) → Option (List ℕ) → Type 0
PrintsText before text after old new = (printed : List ℕ) × RunsText before text after printed × Appends old new printed
