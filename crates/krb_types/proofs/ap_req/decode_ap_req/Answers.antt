use Rattle.std.proofs.Common.{arith}
use Rattle.krb_types.proofs.ApShort.{short_if_decoded}
use Rattle.krb_types.proofs.ap_req.decode_ap_req.Goals as goal

pub returns-clause-short : goal.returns-clause-short
returns-clause-short c = short_if_decoded c.read_owned.result c.args.bytes.now (λ i. omega (arith, c.type_inv.bytes i)) c.read_owned.ensures.found
