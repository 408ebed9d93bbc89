use Rattle.std.proofs.Common.{arith}
use Rattle.std.specs.Int.{w32, to_be_bytes}
use Rattle.aes_cts.proofs.WordLaws.{unmixed_is}
use Rattle.aes_cts.proofs.words.unmixed.Goals as goal

pub returns : goal.returns
returns c =
    rw (
      c.unmixed_column.ensures,
      c.substitute.ensures,
      c.substitute-2.ensures,
      c.substitute-3.ensures,
      c.substitute-4.ensures,
      c.to_be_bytes.ensures,
    )
    (unmixed_is (to_be_bytes w32 c.args.column) (omega arith) (omega arith) (omega arith) (omega arith))
