-- The value of an option among the words of a command line.
use Rattle.std.specs.Prelude.{◌==◌, ◌&&◌, ℕ, Bool, List, length, map, nat_lt, slice_get}
use Rattle.std.specs.Prelude.{Option, Some, None, bytes_eq, if◌then◌else◌}
use Rattle.std.specs.Borrow.{Bor}
use Rattle.std.specs.List.{before_first, after_first, position_or_len}

-- a word is any text of a command line; an option is a word such as --cache
abbrev pub Text : Type 0
Text = List ℕ

abbrev pub texts : List (Bor Text) → List Text
texts lent = map (λ text. text.now) lent

abbrev pub has_equals : Text → Bool
has_equals word = nat_lt (position_or_len (λ b. b == 0x3D) word) (length word)

-- the word before the first equals sign, if there is one, is the option
abbrev pub is_before : Text → Text → Bool
is_before option word = has_equals word && bytes_eq (before_first (λ b. b == 0x3D) word) option

-- the value that an option has at a word: the next word, or what follows the equals sign
abbrev pub value_at : Text → Text → List Text → Option Text
value_at option word others =
    if bytes_eq word option then slice_get others 0
    else if is_before option word then Some (after_first (λ b. b == 0x3D) word)
    else None

abbrev pub first_of : Option Text → Option Text → Option Text
first_of (Some value) later = Some value
first_of None later = later
