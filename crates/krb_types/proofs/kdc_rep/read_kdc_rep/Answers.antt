use Rattle.std.proofs.Common.{arith}
use Rattle.krb_types.specs.ReplyShortLaws.{short_if_read}
use Rattle.krb_types.proofs.kdc_rep.read_kdc_rep.Goals as goal

pub returns-clause-short : goal.returns-clause-short
returns-clause-short g c = short_if_read _ c.read.result c.args.bytes.now (λ i. omega (arith, c.type_inv.bytes i)) c.read.ensures.found
