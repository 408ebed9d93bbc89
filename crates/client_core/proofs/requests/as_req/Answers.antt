use Rattle.std.proofs.Common.{◌≡◌, ℕ, List}
use Rattle.krb_elements.specs.Codec.{written}
use Rattle.krb_types.specs.KdcReq.{KdcReq, SpellsKdcReq, message}
use Rattle.krb_types.specs.declared.kdc_req.Exchange.TheVariants.{As}
use Rattle.client_core.proofs.Written.{as_req_is}
use Rattle.client_core.proofs.Results.{respelled}
use Rattle.client_core.proofs.requests.as_req.Goals as goal

pub returns-clause-written : goal.returns-clause-written
returns-clause-written c =
    respelled (λ (r : KdcReq) (octets : List ℕ). octets ≡ written (message As) r) (λ v. v.items) _ _ c.request.result
    (as_req_is c.args.asked.now c.in_ok-client.client c.args.padata c.in_ok-body.body c.in_ok-client.ensures c.in_ok-body.ensures.value)
    c.request.ensures.written

pub returns-clause-spelled : goal.returns-clause-spelled
returns-clause-spelled c =
    respelled (λ (r : KdcReq) (octets : List ℕ). SpellsKdcReq (As, r) octets) (λ v. v.items) _ _ c.request.result
    (as_req_is c.args.asked.now c.in_ok-client.client c.args.padata c.in_ok-body.body c.in_ok-client.ensures c.in_ok-body.ensures.value)
    c.request.ensures.spelled
