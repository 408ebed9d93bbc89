-- A queue of numbers, as their list.
use Rattle.std.specs.Prelude.{ℕ, Bool, List, nat_eq}
use Rattle.std.specs.List.{IsDistinct, list_any}

-- whether a number stands in it
abbrev pub has : List ℕ → ℕ → Bool
has numbers number = list_any (λ other. nat_eq other number) numbers

-- no number stands in it twice
abbrev pub HasEachOnce : List ℕ → Type 0
HasEachOnce numbers = IsDistinct nat_eq numbers
