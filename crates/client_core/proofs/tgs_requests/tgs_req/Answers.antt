use Rattle.std.proofs.Common.{◌≡◌, ℕ, List, Some, ap}
use Rattle.krb_elements.specs.Codec.{written}
use Rattle.krb_fields.specs.PaData.{PaData}
use Rattle.krb_types.specs.KdcReq.{KdcReq, SpellsKdcReq, message}
use Rattle.krb_types.specs.declared.kdc_req.Exchange.TheVariants.{Tgs}
use Rattle.client_core.specs.Requests.{request_of}
use Rattle.client_core.specs.ShortLaws.{data_short}
use Rattle.client_core.proofs.Results.{respelled}
use Rattle.client_core.proofs.tgs_requests.tgs_req.Goals as goal

pub request-requires-clause-padata : goal.request-requires-clause-padata
request-requires-clause-padata c = data_short c.args.entry c.in_ok-padata.padata c.requires.entry c.in_ok-padata.ensures

pub returns-clause-written : goal.returns-clause-written
returns-clause-written c =
    respelled (λ (r : KdcReq) (octets : List ℕ). octets ≡ written (message Tgs) r) (λ v. v.items) _ _ c.request.result
    (ap (λ (p : List PaData). request_of Tgs (Some p) c.args.body) c.in_ok-padata.ensures) c.request.ensures.written

pub returns-clause-spelled : goal.returns-clause-spelled
returns-clause-spelled c =
    respelled (λ (r : KdcReq) (octets : List ℕ). SpellsKdcReq (Tgs, r) octets) (λ v. v.items) _ _ c.request.result
    (ap (λ (p : List PaData). request_of Tgs (Some p) c.args.body) c.in_ok-padata.ensures) c.request.ensures.spelled
