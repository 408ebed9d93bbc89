use Rattle.krb_types.specs.ApReq.{ap_req}
use Rattle.client_core.proofs.Written.{ap_req_is}
use Rattle.client_core.proofs.Results.{respelled}
use Rattle.client_core.proofs.service_requests.ap_req.Goals as goal

pub returns-clause-spelled : goal.returns-clause-spelled
returns-clause-spelled c =
    respelled ap_req.Spells (λ v. v.items) _ _ c.present.result
    (ap_req_is c.args.client.now c.args.session c.args.at c.args.asked.now c.args.confounder.now c.options-options.result c.in_ok-authenticator.authenticator c.options-options.ensures c.in_ok-authenticator.ensures.value)
    c.present.ensures.spelled
