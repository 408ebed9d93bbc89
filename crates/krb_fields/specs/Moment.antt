-- The range of moments.
use Rattle.std.specs.Prelude.{ℤ, pos, ◌≤ℤ◌}

-- a whole second from 1970 to the end of the year 9999
abbrev pub IsSecond : ℤ → Type 0
IsSecond sec = (pos 0 ≤ℤ sec) × (sec ≤ℤ pos 253402300799)
