use Rattle.std.proofs.Common.{rules, ◌≡◌, ◌<◌, ◌^◌, ℕ, List, length, pos, sym, subst}
use Rattle.krb_elements.specs.Codec.{written}
use Rattle.krb_types.specs.KdcReq.{KdcReq, SpellsKdcReq, message, request_type}
use Rattle.client_core.specs.ShortLaws.{request_short}
use Rattle.client_core.proofs.Written.{typed_as}
use Rattle.client_core.proofs.Results.{respelled}
use Rattle.client_core.proofs.requests.request.Goals as goal

pub encode_kdc_req-requires : goal.encode_kdc_req-requires
encode_kdc_req-requires c =
    let type_is : c.from.result ≡ pos (request_type c.args.exchange) = search rules in
    subst (λ (r : KdcReq). length ((message c.args.exchange).text r) < 2 ^ 32) (sym (typed_as c.args.exchange c.args.padata c.args.body c.from.result type_is))
    (request_short c.args.exchange c.args.padata c.args.body c.requires.padata c.requires.body)

pub returns-clause-written : goal.returns-clause-written
returns-clause-written c =
    let type_is : c.from.result ≡ pos (request_type c.args.exchange) = search rules in
    respelled (λ (r : KdcReq) (octets : List ℕ). octets ≡ written (message c.args.exchange) r) (λ v. v.items) _ _ c.encode_kdc_req.result (typed_as c.args.exchange c.args.padata c.args.body c.from.result type_is) c.encode_kdc_req.ensures.written

pub returns-clause-spelled : goal.returns-clause-spelled
returns-clause-spelled c =
    let type_is : c.from.result ≡ pos (request_type c.args.exchange) = search rules in
    respelled (λ (r : KdcReq) (octets : List ℕ). SpellsKdcReq (c.args.exchange, r) octets) (λ v. v.items) _ _ c.encode_kdc_req.result (typed_as c.args.exchange c.args.padata c.args.body c.from.result type_is) c.encode_kdc_req.ensures.spelled
