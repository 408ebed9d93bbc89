use Rattle.std.proofs.Common.{arith}
use Rattle.krb_types.proofs.Read.{one_if_read}
use Rattle.krb_types.specs.ApRep.{ap_rep, ap_rep_one}
use Rattle.krb_types.proofs.ap_rep.decode_ap_rep.Goals as goal

pub returns-clause-one : goal.returns-clause-one
returns-clause-one c =
    one_if_read ap_rep.Spells ap_rep.tag ap_rep.text ap_rep_one c.read_owned.result c.args.bytes.now (λ i. omega (arith, c.type_inv.bytes i)) c.read_owned.ensures.found
