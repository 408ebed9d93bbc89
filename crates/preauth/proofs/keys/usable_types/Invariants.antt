use Rattle.std.proofs.Common.{◌≡◌}
use Rattle.preauth.specs.Keys.{types_of}
use Rattle.preauth.proofs.TypesOf.{with_those_of}
use Rattle.preauth.proofs.keys.usable_types.Given as goal

abbrev pub invariant-loop-number : goal.invariant-loop-number
invariant-loop-number l = with_those_of l.keys l.found.items l.number-iterator ≡ types_of l.keys l.types
