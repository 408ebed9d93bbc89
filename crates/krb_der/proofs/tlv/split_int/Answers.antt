use Rattle.std.proofs.Common.{arith}
use Rattle.krb_der.specs.Laws.{is_found, is_only}
use Rattle.krb_der.specs.LeafLaws.{int_ok}
use Rattle.krb_der.proofs.tlv.split_int.Goals as goal

pub returns-clause-found : goal.returns-clause-found
returns-clause-found c = is_found _ _ int_ok (λ x. (x.0, x.1.now)) c.int_parts.result c.args.bytes.now (λ i. omega (arith, c.type_inv.bytes i)) c.int_parts.ensures

pub returns-clause-only : goal.returns-clause-only
returns-clause-only c = is_only _ _ int_ok (λ x. (x.0, x.1.now)) c.int_parts.result c.args.bytes.now c.int_parts.ensures
