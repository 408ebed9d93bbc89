use Rattle.std.proofs.Common.{◌≡◌, length}
use Rattle.krb_der.specs.Int.{shortest}
use Rattle.krb_der.proofs.int.shortest.Given as goal

abbrev pub invariant-loop-rest : goal.invariant-loop-rest
invariant-loop-rest l = shortest l.rest ≡ shortest l.octets

abbrev pub decreases-loop-rest : goal.decreases-loop-rest
decreases-loop-rest l = length l.rest
