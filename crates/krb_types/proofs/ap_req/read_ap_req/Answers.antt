use Rattle.std.proofs.Common.{arith}
use Rattle.krb_types.proofs.ApShort.{parts_if_read}
use Rattle.krb_types.proofs.ap_req.read_ap_req.Goals as goal

pub returns-clause-short : goal.returns-clause-short
returns-clause-short c = parts_if_read c.read.result c.args.bytes.now (λ i. omega (arith, c.type_inv.bytes i)) c.read.ensures.found
