use Rattle.std.proofs.Common.{arith}
use Rattle.prf_kdf.proofs.Iterates.{octets_xor_is}
use Rattle.prf_kdf.proofs.pbkdf2.xor_into.Goals as goal

pub returns : goal.returns
returns c =
    octets_xor_is c.args.total.now c.args.piece.now _ (omega arith) c.loop-i.invariant.len
    (λ k h. c.loop-i.invariant.front k (omega arith))
