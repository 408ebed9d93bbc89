-- The bytes that a connection has still to send.
use Rattle.std.specs.Prelude.{◌≡◌, ◌++◌, ℕ, List}

-- some first bytes went to the socket, and these are left
abbrev pub IsLeftOf : List ℕ → List ℕ → Type 0
IsLeftOf all left = (sent : List ℕ) × (all ≡ sent ++ left)
