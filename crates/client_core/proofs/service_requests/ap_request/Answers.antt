use Rattle.std.proofs.Common.{◌≡◌, Option, IfOk, IfSome, sym, subst}
use Rattle.krb_types.specs.ApReq.{ap_req}
use Rattle.krb_elements.specs.Codec.{written}
use Rattle.client_core.specs.ServiceRequests.{asks_ap}
use Rattle.client_core.specs.ShortLaws.{presentable_realm}
use Rattle.client_core.specs.declared.sessions.Session.{Session}
use Rattle.client_core.proofs.service_requests.ap_request.Goals as goal

pub ap_req-requires-clause-realm : goal.ap_req-requires-clause-realm
ap_req-requires-clause-realm c = presentable_realm c.args.credential.now c.requires.presentable

pub returns-clause-written : goal.returns-clause-written
returns-clause-written c =
    subst (λ (o : Option Session). IfSome o (λ s. IfOk c.ap_req.result (λ v. v.items ≡ written ap_req (asks_ap c.args.credential.now.client s c.args.at c.args.asked.now c.args.confounder.now))))
    (sym c.in_ok-session.ensures.value) c.ap_req.ensures.written

pub returns-clause-spelled : goal.returns-clause-spelled
returns-clause-spelled c =
    subst (λ (o : Option Session). IfSome o (λ s. IfOk c.ap_req.result (λ v. ap_req.Spells (asks_ap c.args.credential.now.client s c.args.at c.args.asked.now c.args.confounder.now) v.items)))
    (sym c.in_ok-session.ensures.value) c.ap_req.ensures.spelled
