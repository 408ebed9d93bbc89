-- The lines of a batch.
use Rattle.std.specs.Prelude.{◌≡◌, Bool, true, false, IfSome, List, map, Option, string_bytes}
use Rattle.file_store.specs.Input.{Input}
use Rattle.file_store.specs.World.{World}
use Rattle.kadm_changes.specs.Found.{IsFound}
use Rattle.kadm_changes.specs.Texts.{Text}
use Rattle.kadm.specs.Lines.{Batched, Tried}
use Rattle.kadm.specs.declared.batch.BatchLine.{BatchLine}
use Rattle.kadm.specs.declared.batch.InputLine.{InputLine}

abbrev pub line_text : BatchLine → List Text
line_text line = map string_bytes line.words.items

abbrev pub line_texts : List BatchLine → List (List Text)
line_texts lines = map line_text lines

abbrev pub input_text : InputLine → List Text
input_text line = map string_bytes line.words.items

abbrev pub input_texts : List InputLine → List (List Text)
input_texts lines = map input_text lines

-- the password of the line, if it takes one, is what its file has
abbrev pub IsLineRead : Option World → BatchLine → Type 0
IsLineRead world line = IfSome line.password (λ found. IsFound world found)

-- the changes of all lines, or of some of them if it keeps going
abbrev pub IsBatchDone : Option World → Option Input → Bool → Text → Bool → Bool → Option World → Type 0
IsBatchDone before input whole_realm db keep_going true after = Batched before input whole_realm db after
IsBatchDone before input whole_realm db keep_going false after = (keep_going ≡ true)
    × Tried before input whole_realm db after
