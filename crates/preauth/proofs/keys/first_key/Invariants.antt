use Rattle.std.proofs.Common.{◌≡◌}
use Rattle.preauth.specs.Keys.{first_key}
use Rattle.preauth.proofs.keys.first_key.Given as goal

abbrev pub invariant-loop-number : goal.invariant-loop-number
invariant-loop-number l = first_key l.keys l.number-iterator ≡ first_key l.keys l.types
