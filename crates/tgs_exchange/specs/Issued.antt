-- The ticket that is issued for a TGS-REQ, if one is issued now. A reply that is sent again issues none: the call that
-- made the reply did.
use Rattle.std.specs.Prelude.{ℕ, List, Option, Some, None}
use Rattle.kdc_replies.specs.Issue.{Issue}
use Rattle.krb_fields.specs.declared.moment.Moment.{Moment}
use Rattle.krb_types.specs.ReqBody.{ReqBody}
use Rattle.krb_types.specs.declared.kdc_req.Exchange.TheVariants.{Tgs}
use Rattle.replay.specs.declared.keep.Kept.{Kept}
use Rattle.tgs_opening.specs.declared.presented.Presented.{Presented}
use Rattle.tgs_exchange.specs.View.{TgsView}
use Rattle.tgs_exchange.specs.Issue.{grant_by, reply_key_of}
use Rattle.tgs_exchange.specs.Decision.{decision}
use Rattle.tgs_exchange.specs.declared.decision.Decision.{Decision}
use Rattle.tgs_exchange.specs.declared.decision.Decision.TheVariants.{Refuses, Records, Repeats, Issues}
use Rattle.tgs_exchange.specs.declared.terms.Admission.{Admission}

-- the ticket of an admission
abbrev pub issue_of : TgsView → Moment → List ℕ → ReqBody → Presented → Admission → Issue
issue_of v at random body p admission = record {
  exchange = Tgs;
  grant = grant_by v random body p admission;
  service_key = admission.terms.service.key;
  reply_key = reply_key_of p;
  padata = None;
  nonce = body.nonce;
  now = at.sec;
  random = random;
}

abbrev pub issued_by : TgsView → Moment → List ℕ → ReqBody → Presented → Decision Kept → Option Issue
issued_by v at random body p (Refuses refusal) = None
issued_by v at random body p (Records refusal) = None
issued_by v at random body p (Repeats kept) = None
issued_by v at random body p (Issues admission) = Some (issue_of v at random body p admission)

abbrev pub issued : TgsView → Moment → List ℕ → ReqBody → Presented → Option Issue
issued v at random body p = issued_by v at random body p (decision v at.sec body p)
