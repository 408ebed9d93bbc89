use Rattle.std.proofs.Common.{arith}
use Rattle.krb_der.proofs.Found.{tlv_found, tlv_only}
use Rattle.krb_der.proofs.tlv.split_tlv.Goals as goal

pub returns-clause-found : goal.returns-clause-found
returns-clause-found c = tlv_found (λ x. (x.0.now, x.1.now)) c.tlv_parts.result c.args.tag c.args.bytes.now (λ i. omega (arith, c.type_inv.bytes i)) c.tlv_parts.ensures.exact

pub returns-clause-only : goal.returns-clause-only
returns-clause-only c = tlv_only (λ x. (x.0.now, x.1.now)) c.tlv_parts.result c.args.tag c.args.bytes.now c.tlv_parts.ensures.exact
