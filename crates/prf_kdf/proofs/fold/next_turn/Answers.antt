use Rattle.std.proofs.Common.{arith}
use Rattle.prf_kdf.proofs.BlockFolds.{next_turn_is, next_turn_over}
use Rattle.prf_kdf.proofs.fold.next_turn.Goals as goal

pub returns-then-sum-bits : goal.returns-then-sum-bits
returns-then-sum-bits c = next_turn_is c.args.turn c.args.bits (omega arith) (omega arith) (omega arith)

pub returns-else-sum-bits : goal.returns-else-sum-bits
returns-else-sum-bits c = next_turn_over c.args.turn c.args.bits (omega arith) (omega arith) (omega arith)
