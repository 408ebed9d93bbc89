use Rattle.std.proofs.Common.{arith}
use Rattle.krb_elements.specs.Laws.{is_seen, is_seen_only}
use Rattle.krb_types.specs.KdcReq.{SpellsReceived, received_at, received_ok, request_if}
use Rattle.krb_types.specs.ShortNameLaws.{short_if_read}
use Rattle.krb_types.proofs.kdc_req.read_kdc_req.Goals as goal

pub returns-clause-found : goal.returns-clause-found
returns-clause-found c = is_seen SpellsReceived received_at received_ok c.args.bytes.now c.look_message.result (λ i. omega (arith, c.type_inv.bytes i)) c.look_message.ensures

pub returns-clause-only : goal.returns-clause-only
returns-clause-only c = is_seen_only SpellsReceived received_at received_ok c.args.bytes.now c.look_message.result c.look_message.ensures

pub returns-clause-request : goal.returns-clause-request
returns-clause-request c = request_if c.look_message.result c.args.bytes.now (returns-clause-found c)

pub returns-clause-short : goal.returns-clause-short
returns-clause-short c = short_if_read c.look_message.result c.args.bytes.now (λ i. omega (arith, c.type_inv.bytes i)) (returns-clause-found c)
