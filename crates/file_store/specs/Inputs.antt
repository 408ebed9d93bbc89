-- The contents of a command's files.
use Rattle.std.specs.Prelude.{ℕ, List, ◌==◌}
use Rattle.std.specs.List.{before_first}

-- the bytes before the first line feed
abbrev pub first_line : List ℕ → List ℕ
first_line octets = before_first (λ b. b == 0x0A) octets
