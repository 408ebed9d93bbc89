-- Floors that are asked for by what is shown.
use Rattle.std.proofs.Common.{◌≡◌, ℤ, pos, ◌+ℤ◌, arith}
use Rattle.std.specs.Int.{int_max, int_min}
use Rattle.std.proofs.lemmas.Int.{ints, clamps}
use Rattle.journal.specs.Decision.{floor_since, last_second}

pub same_floor : (floor second : ℤ)
    → int_min (int_max floor (int_min (second +ℤ pos 301) last_second)) last_second ≡ floor_since floor second
same_floor floor second = grind (arith, ints, clamps)
