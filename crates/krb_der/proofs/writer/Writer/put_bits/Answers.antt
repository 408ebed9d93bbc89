use Rattle.std.proofs.Common.{arith}
use Rattle.krb_der.specs.BitLaws.{bits_spelled}
use Rattle.krb_der.proofs.writer.Writer.put_bits.Goals as goal

pub returns-clause-spelled : goal.returns-clause-spelled
returns-clause-spelled c = bits_spelled c.args.bits (omega arith)
