use Rattle.krb_types.specs.ApReq.{ap_req}
use Rattle.client_core.proofs.Results.{respelled}
use Rattle.client_core.proofs.Written.{short_octets}
use Rattle.client_core.proofs.presenting.present.Goals as goal

pub returns-clause-spelled : goal.returns-clause-spelled
returns-clause-spelled c = respelled ap_req.Spells (λ v. v.items) _ _ c.encode_ap_req.result c.in_ok-request.ensures.value c.encode_ap_req.ensures.spelled

pub returns-clause-short : goal.returns-clause-short
returns-clause-short c = short_octets (λ v. v.items) c.in_ok-request.request c.encode_ap_req.result c.in_ok-request.ensures.short c.encode_ap_req.ensures.written
