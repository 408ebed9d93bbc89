-- Log lines.
use Rattle.std.specs.Prelude.{◌≡◌, ◌≤◌, ◌&&◌, ℕ, Bool, nat_le, List, [], ◌∷◌, ◌++◌, All, codes, take}
use Rattle.std.specs.Prelude.{if◌then◌else◌}
use Rattle.json.specs.Print.{print}
use Rattle.json.specs.Token.{Token, begin_object, end_object, key, string}
use Rattle.request_log.specs.Field.{Field, is_column, name_text}
use Rattle.request_log.specs.declared.field.FieldName.{FieldName}
use Rattle.request_log.specs.declared.json_lines.JsonFields.{JsonFields}
use Rattle.request_log.specs.declared.text_lines.TextFields.{TextFields}

-- ---- printable bytes

-- a space or a visible ASCII character
abbrev pub IsPrintable : ℕ → Type 0
IsPrintable o = (32 ≤ o) × (o ≤ 126)

abbrev pub is_printable : ℕ → Bool
is_printable o = nat_le 32 o && nat_le o 126

-- a byte that is not printable becomes a question mark
abbrev pub shown_octet : ℕ → ℕ
shown_octet o = if is_printable o then o else 63

-- bytes, followed by others as they are shown
abbrev pub with_shown : List ℕ → List ℕ → List ℕ
with_shown shown [] = shown
with_shown shown (o ∷ octets) = with_shown (shown ++ shown_octet o ∷ []) octets

abbrev pub shown : List ℕ → List ℕ
shown octets = with_shown [] octets

-- the maximum length of a line in bytes, without its line feed
abbrev pub longest : ℕ
longest = 639

-- A single line: printable characters, and a line feed at the end.
pub record IsLine (octets : List ℕ) : Type 0 where
  pub text : List ℕ
  pub ends : octets ≡ text ++ 10 ∷ []
  pub printable : All IsPrintable text

-- ---- a line of text

-- what stands in front of a value: nothing if it has a fixed place, otherwise its name
abbrev pub label : FieldName → List ℕ
label name = if is_column name then [] else name_text name ++ codes "="

abbrev pub field_text : Field → List ℕ
field_text f = label f.name ++ shown f.value

-- a space after what is there
abbrev pub spaced : List ℕ → List ℕ
spaced [] = []
spaced (o ∷ text) = (o ∷ text) ++ codes " "

-- fields after a text, separated by spaces
abbrev pub fields_text : List ℕ → List Field → List ℕ
fields_text text [] = text
fields_text text (f ∷ fields) = fields_text (spaced text ++ field_text f) fields

abbrev pub joined : List Field → List ℕ
joined fields = fields_text [] fields

abbrev pub text_line : List Field → List ℕ
text_line fields = take longest (joined fields) ++ 10 ∷ []

-- what a line holds while it is made
abbrev pub HoldsText : TextFields → List Field → Type 0
HoldsText line fields = line.text.items ≡ joined fields

-- ---- a line of JSON

-- a key and a string for each field
abbrev pub fields_tokens : List Token → List Field → List Token
fields_tokens tokens [] = tokens
fields_tokens tokens (f ∷ fields) =
    fields_tokens (tokens ++ key (name_text f.name) ∷ [] ++ string (shown f.value) ∷ []) fields

-- one object and a line feed
abbrev pub json_line : List Field → List ℕ
json_line fields = print (fields_tokens (begin_object ∷ []) fields ++ end_object ∷ []) ++ 10 ∷ []

-- what an object holds while it is made
pub record HoldsJson (json : JsonFields) (fields : List Field) : Type 0 where
  pub tokens : json.out.tokens ≡ fields_tokens (begin_object ∷ []) fields
  pub before : json.out.before ≡ []
