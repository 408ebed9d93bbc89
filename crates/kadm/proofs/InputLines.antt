-- The lines of a batch, as they are read from the input.
use Rattle.std.proofs.Common.{◌≡◌, ◌∙◌, ◌++◌, ◌<◌, ℕ, List, [], ◌∷◌, IfSome, Option, Some, None, ap, arith, length, map, refl, string_bytes, subst, sym}
use Rattle.std.proofs.lemmas.List.{append-nil, append_assoc, map-append}
use Rattle.file_store.specs.Input.{HasEnded, Input, TakesLine}
use Rattle.kadm.specs.Batches.{input_text, input_texts, line_text, line_texts}
use Rattle.kadm.specs.Lines.{AreInput, AreWords, IsLineAdded, with_words}
use Rattle.text_fields.specs.LineWords.{words_of_line}
use Rattle.kadm.specs.declared.batch.BatchLine.{BatchLine}
use Rattle.kadm.specs.declared.batch.InputLine.{InputLine}
use Rattle.kadm_changes.specs.Texts.{Text}

-- the lines of the input are those that were read, and what the lines that are left have
abbrev pub ReadOn : Option Input → List (List Text) → Option Input → Type 0
ReadOn first so_far now =
    IfSome first (λ held. (left : List (List ℕ)) × (now ≡ Some (record held { lines = left }))
    × ((later : List (List Text)) → AreWords left later → AreWords held.lines (so_far ++ later)))

pub none_read : (first : Option Input) → ReadOn first [] first
none_read None = tt
none_read (Some held) = (held.lines, refl, λ later are. are)

before : (words : List Text) (lines : List (List Text)) → with_words words lines ≡ with_words words [] ++ lines
before [] lines = refl
before (word ∷ words) lines = refl

pub read_on : (first now next : Option Input) (so_far more : List (List Text)) (line : List ℕ) → ReadOn first so_far now
    → TakesLine now line next → IsLineAdded line so_far more → ReadOn first more next
read_on None now next so_far more line read taken added = tt
read_on (Some held) now next so_far more line (left, is, whole) taken (words, split, pushed) =
    let took = subst (λ input. TakesLine input line next) is taken in (
      took.0,
      took.2,
      λ later are.
          subst (AreWords held.lines)
          (ap (λ rest. so_far ++ rest) (before words later) ∙ sym (append_assoc so_far (with_words words []) later)
          ∙ ap (λ all. all ++ later) (sym pushed))
          (whole (with_words words later)
          (subst (λ lines. AreWords lines (with_words words later)) (sym took.1) (words, split, later, are, refl))),
    )

pub all_read : (first now : Option Input) (so_far : List (List Text)) → ReadOn first so_far now → HasEnded now → AreInput first so_far
all_read None now so_far read ended = tt
all_read (Some held) now so_far (left, is, whole) ended =
    let none = subst HasEnded is ended in
    subst (AreWords held.lines) (append-nil so_far) (whole [] (subst (λ lines. AreWords lines []) (sym none) refl))

-- a line is taken from those that are left
pub moved_on : (all : List (List Text)) (so_far more : List BatchLine) (now next : List InputLine) (line : InputLine) (made : BatchLine)
    → line_texts so_far ++ input_texts now ≡ all → now ≡ line ∷ next → more ≡ so_far ++ made ∷ [] → line_text made ≡ input_text line
    → line_texts more ++ input_texts next ≡ all
moved_on all so_far more now next line made so is pushed same =
    ap (λ lines. line_texts lines ++ input_texts next) pushed
    ∙ ap (λ front. front ++ input_texts next) (map-append line_text so_far (made ∷ []))
    ∙ append_assoc (line_texts so_far) (line_text made ∷ []) (input_texts next)
    ∙ ap (λ text. line_texts so_far ++ text ∷ input_texts next) same
    ∙ ap (λ lines. line_texts so_far ++ input_texts lines) (sym is) ∙ so

pub all_moved : (all : List (List Text)) (so_far : List BatchLine) (now : List InputLine) → line_texts so_far ++ input_texts now ≡ all → now ≡ []
    → line_texts so_far ≡ all
all_moved all so_far now so none = sym (append-nil (line_texts so_far)) ∙ ap (λ lines. line_texts so_far ++ input_texts lines) (sym none) ∙ so

-- ---- a line that was read

worded_one : {A : Type 0} (text : A → Text) (words : List A) → 0 < length words → with_words (map text words) [] ≡ map text words ∷ []
worded_one text [] some = absurd (omega (arith, some))
worded_one text (word ∷ words) some = refl

-- a line with words is added
pub line_pushed : (lines more : List InputLine) (line : InputLine) (octets : List ℕ) → words_of_line octets ≡ Some (input_text line)
    → 0 < length line.words.items → more ≡ lines ++ line ∷ [] → IsLineAdded octets (input_texts lines) (input_texts more)
line_pushed lines more line octets is some pushed = (
  input_text line,
  is,
  ap input_texts pushed ∙ map-append input_text lines (line ∷ [])
      ∙ ap (λ added. input_texts lines ++ added) (sym (worded_one string_bytes line.words.items some)),
)

-- one without words is not
pub none_pushed : {A : Type 0} (text : A → Text) (lines : List InputLine) (words : List A) (octets : List ℕ)
    → words_of_line octets ≡ Some (map text words) → length words ≡ 0 → IsLineAdded octets (input_texts lines) (input_texts lines)
none_pushed text lines [] octets is none = ([], is, sym (append-nil (input_texts lines)))
none_pushed text lines (word ∷ words) octets is none = absurd (omega (arith, none))

pub nothing_left : {A : Type 0} (items : List A) → length items ≡ 0 → items ≡ []
nothing_left [] none = refl
nothing_left (item ∷ items) none = absurd (omega (arith, none))

-- what reading the input line by line needs to know
pub ruleset each_line = (none_read, read_on, all_read)
