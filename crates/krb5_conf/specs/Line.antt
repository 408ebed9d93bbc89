-- The meaning of a line of a krb5.conf.
use Rattle.std.specs.Prelude.{◌==◌, ◌-◌, ℕ, List, [], ◌∷◌, length, take, drop, codes, bytes_eq, nat_lt, if◌then◌else◌}
use Rattle.std.specs.Char.{is_ascii_whitespace}
use Rattle.std.specs.List.{after_first, before_first, position_or_len, prefix_len, suffix_len}
use Rattle.krb5_conf.specs.declared.line.Line as lines
use Rattle.krb5_conf.specs.declared.line.Line.TheVariants as says

pub data Said : Type 0 where
  Nothing : Said
  -- the start of a section
  Section : List ℕ → Said
  -- the start of a group
  Open : List ℕ → Said
  -- a brace on a line of its own: starts the group that the relation before it names
  Brace : Said
  -- the end of the last group that was started
  Close : Said
  -- a relation: its tag and its value
  Relation : List ℕ → List ℕ → Said

-- the same for the code's type, which borrows from the text
abbrev pub said : lines.Line → Said
said says.Nothing = Nothing
said (says.Section name) = Section name.now
said (says.Open name) = Open name.now
said says.Brace = Brace
said says.Close = Close
said (says.Relation tag value) = Relation tag.now value.now

-- without leading blanks
abbrev pub unindented : List ℕ → List ℕ
unindented text = drop (prefix_len is_ascii_whitespace text) text

-- without blanks at both ends
unfoldable pub trimmed : List ℕ → List ℕ
trimmed text = take (length (unindented text) - suffix_len is_ascii_whitespace (unindented text)) (unindented text)

-- the text between quotation marks (22), without them
abbrev pub unquoted : List ℕ → List ℕ
unquoted [] = []
unquoted (first ∷ rest) = if first == 0x22 then before_first (λ o. o == 0x22) rest else first ∷ rest

-- `TAG = VALUE`, or `TAG = {`
abbrev pub tag_of : List ℕ → List ℕ
tag_of text = trimmed (before_first (λ o. o == 0x3D) text)

abbrev pub value_of : List ℕ → List ℕ
value_of text = trimmed (after_first (λ o. o == 0x3D) text)

abbrev pub relation_said : List ℕ → Said
relation_said text = if nat_lt (position_or_len (λ o. o == 0x3D) text) (length text)
    then (if bytes_eq (value_of text) (codes "{") then Open (tag_of text) else Relation (tag_of text)
    (unquoted (value_of text)))
    else Nothing

-- the first byte distinguishes lines: `#`, `;`, `[`, `{` or `}`
abbrev pub trimmed_said : List ℕ → Said
trimmed_said [] = Nothing
trimmed_said (first ∷ rest) =
    if first == 0x23 then Nothing
    else (if first == 0x3B then Nothing
    else (if first == 0x5B then Section (trimmed (before_first (λ o. o == 0x5D) rest))
    else (if first == 0x7B then Brace
    else (if first == 0x7D then Close
    else relation_said (first ∷ rest)))))

abbrev pub line_said : List ℕ → Said
line_said text = trimmed_said (trimmed text)
