-- The ticket that is issued for an AS-REQ, if one is.
use Rattle.std.specs.Prelude.{ℕ, List, [], ◌∷◌, Option, Some, None}
use Rattle.kdc_replies.specs.Issue.{Issue}
use Rattle.krb_fields.specs.declared.moment.Moment.{Moment}
use Rattle.krb_types.specs.KdcReq.{Received}
use Rattle.krb_types.specs.ReqBody.{ReqBody}
use Rattle.krb_types.specs.declared.kdc_req.Exchange.TheVariants.{As}
use Rattle.as_exchange.specs.View.{AsView}
use Rattle.as_exchange.specs.Issue.{grant_by, reply_info, reply_key_of}
use Rattle.as_exchange.specs.Decision.{decision}
use Rattle.as_exchange.specs.declared.decision.Decision.{Decision}
use Rattle.as_exchange.specs.declared.decision.Decision.TheVariants.{Refuses, Issues}
use Rattle.as_exchange.specs.declared.terms.Admission.{Admission}

-- the ticket for an admission
abbrev pub issue_of : AsView → Moment → List ℕ → ReqBody → Admission → Issue
issue_of v at random body admission = record {
  exchange = As;
  grant = grant_by v at random body admission;
  service_key = admission.terms.service.key;
  reply_key = reply_key_of admission.terms;
  padata = Some (reply_info v admission.terms ∷ []);
  nonce = body.nonce;
  now = at.sec;
  random = random;
}

abbrev pub issued_by : AsView → Moment → List ℕ → ReqBody → Decision → Option Issue
issued_by v at random body (Refuses refusal timestamp) = None
issued_by v at random body (Issues admission) = Some (issue_of v at random body admission)

abbrev pub issued : AsView → Moment → List ℕ → Received → Option Issue
issued v at random message = issued_by v at random message.body.value (decision v at.sec message)
