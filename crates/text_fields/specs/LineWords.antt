-- The words of a line, as a shell splits it: spaces, tabs and carriage returns separate words; `'` and `"` quote the
-- characters of a word between them, and `\` the next one; `#` at the start of a word begins a comment.
use Rattle.std.specs.Prelude.{ℕ, Bool, List, [], ◌∷◌, ◌++◌, Option, Some, None, ◌==◌, ◌||◌, if◌then◌else◌}
use Rattle.std.specs.Prelude.{chars, encode_utf8, map, string_bytes}
use Rattle.text_fields.specs.declared.lines.LineReader.{LineReader}
use Rattle.text_fields.specs.declared.lines.State.{State}
use Rattle.text_fields.specs.declared.lines.State.TheVariants.{Between, InWord, InSingle, InDouble, Escaped}
use Rattle.text_fields.specs.declared.lines.State.TheVariants.{EscapedInDouble, InComment}

-- a line that was read up to a character
pub record Reading : Type 0 where
  pub words : List (List ℕ)  -- those that have ended
  pub word : List ℕ  -- the bytes so far of the one that has not
  pub state : State

abbrev pub reading : LineReader → Reading
reading r = record { words = map string_bytes r.words.items; word = string_bytes r.word; state = r.state }

abbrev pub is_space : ℕ → Bool
is_space letter = (letter == 0x20) || ((letter == 0x09) || (letter == 0x0D))

abbrev pub in_state : State → Reading → Reading
in_state state r = record r { state = state }

abbrev pub with_letter : ℕ → State → Reading → Reading
with_letter letter state r = record { words = r.words; word = r.word ++ encode_utf8 letter; state = state }

-- the word has ended
abbrev pub with_word : Reading → Reading
with_word r = record { words = r.words ++ r.word ∷ []; word = []; state = Between }

-- ---- after one more character

-- outside quotation marks
abbrev pub after_plain : ℕ → Reading → Reading
after_plain letter r =
    if is_space letter then with_word r
    else if letter == 0x27 then in_state InSingle r
    else if letter == 0x22 then in_state InDouble r
    else if letter == 0x5C then in_state Escaped r
    else with_letter letter InWord r

-- between words
abbrev pub after_between : ℕ → Reading → Reading
after_between letter r =
    if is_space letter then r
    else if letter == 0x23 then in_state InComment r
    else after_plain letter r

abbrev pub after_single : ℕ → Reading → Reading
after_single letter r = if letter == 0x27 then in_state InWord r else with_letter letter InSingle r

abbrev pub after_double : ℕ → Reading → Reading
after_double letter r =
    if letter == 0x22 then in_state InWord r
    else if letter == 0x5C then in_state EscapedInDouble r
    else with_letter letter InDouble r

-- the characters that a `\` quotes between `"`
abbrev pub is_special : ℕ → Bool
is_special letter = (letter == 0x22) || ((letter == 0x5C) || ((letter == 0x24) || (letter == 0x60)))

-- before any other character the `\` stands for itself
abbrev pub after_double_escape : ℕ → Reading → Reading
after_double_escape letter r =
    if is_special letter then with_letter letter InDouble r
    else with_letter letter InDouble (with_letter 0x5C InDouble r)

abbrev pub after_in : State → ℕ → Reading → Reading
after_in Between letter r = after_between letter r
after_in InWord letter r = after_plain letter r
after_in InSingle letter r = after_single letter r
after_in InDouble letter r = after_double letter r
after_in Escaped letter r = with_letter letter InWord r
after_in EscapedInDouble letter r = after_double_escape letter r
after_in InComment letter r = r

abbrev pub after_letter : ℕ → Reading → Reading
after_letter letter r = after_in r.state letter r

abbrev pub after_letters : List ℕ → Reading → Reading
after_letters [] r = r
after_letters (letter ∷ letters) r = after_letters letters (after_letter letter r)

-- ---- a whole line

abbrev pub begun : Reading
begun = record { words = []; word = []; state = Between }

abbrev pub ended_in : State → Reading → Option (List (List ℕ))
ended_in Between r = Some r.words
ended_in InComment r = Some r.words
ended_in InWord r = Some (r.words ++ r.word ∷ [])
ended_in InSingle r = None
ended_in InDouble r = None
ended_in Escaped r = None
ended_in EscapedInDouble r = None

abbrev pub ended : Reading → Option (List (List ℕ))
ended r = ended_in r.state r

-- the words of a line of UTF-8: `None` if it ends in a backslash or within quotation marks
abbrev pub words_of_line : List ℕ → Option (List (List ℕ))
words_of_line line = ended (after_letters (chars line) begun)
