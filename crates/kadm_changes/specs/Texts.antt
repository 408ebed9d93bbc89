-- The texts of a command.
use Rattle.std.specs.Prelude.{List, map, ℕ, Option, option_map}
use Rattle.std.specs.Borrow.{Bor}

abbrev pub Text : Type 0
Text = List ℕ

abbrev pub texts : List (Bor Text) → List Text
texts lent = map (λ text. text.now) lent

-- the path of a named file, if there is one
abbrev pub path_of : Option (Bor Text) → Option Text
path_of named = option_map (λ path. path.now) named
