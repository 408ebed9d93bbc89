use Rattle.std.proofs.Common.{arith}
use Rattle.krb_types.specs.KdcReq.{short_if_decoded}
use Rattle.base_tests.proofs.messages.whole_messages.short.Goals as goal

pub returns : goal.returns
returns c = short_if_decoded c.decoded.result c.args.octets.now (λ i. omega (arith, c.type_inv.octets i)) c.decoded.ensures
