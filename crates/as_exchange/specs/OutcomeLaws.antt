-- The outcome of an AS-REQ is true of its reply.
use Rattle.std.proofs.Common.{◌≤◌, ℕ, List, length, refl}
use Rattle.kdc_replies.specs.ErrorReply.{too_big}
use Rattle.kdc_replies.specs.GrantLaws.{session_key_size}
use Rattle.krb_fields.specs.declared.moment.Moment.{Moment}
use Rattle.krb_types.specs.KdcReq.{Received}
use Rattle.krb_types.specs.ReqBody.{ReqBody}
use Rattle.as_exchange.specs.View.{AsView}
use Rattle.as_exchange.specs.Answer.{Opens, OpensBy, as_error}
use Rattle.as_exchange.specs.Decision.{IfIssued, decision}
use Rattle.as_exchange.specs.AskedLaws.{AreAsked, issued_asked}
use Rattle.as_exchange.specs.Issued.{issued, issued_by}
use Rattle.as_exchange.specs.Outcome.{AsOutcomeHolds, OutcomeSpelled, OutcomeSpelledBy}
use Rattle.as_exchange.specs.declared.decision.Decision.{Decision}
use Rattle.as_exchange.specs.declared.decision.Decision.TheVariants.{Refuses, Issues}
use Rattle.as_exchange.specs.declared.outcome.AsOutcome.{AsOutcome}
use Rattle.as_exchange.specs.declared.outcome.AsOutcome.TheVariants.{Refused, Issued, TooBig}

module _ (v : AsView) (at : Moment) (random octets : List ℕ) (long : 32 ≤ length random) where
  holds_by : (body : ReqBody) (outcome : AsOutcome) (decided : Decision) → IfIssued decided (AreAsked body)
      → OutcomeSpelledBy v at random body outcome decided octets → OpensBy v at random body decided
      → AsOutcomeHolds (issued_by v at random body decided) body.cname body.sname outcome octets
  holds_by body (Refused refusal) decided asked spelled opens = (as_error v at body refusal, refl, spelled)
  holds_by body TooBig decided asked spelled opens = (too_big v.realm at body, refl, spelled)
  holds_by body (Issued granted) (Refuses refusal timestamp) asked nothing opens = absurd nothing
  holds_by body (Issued granted) (Issues admission) asked sent opens = record {
    reply = record {
      spelled = sent.1;
      client_reads = opens.0.client_reads;
      service_reads = opens.0.service_reads;
      session_key = session_key_size admission.terms.service.session_type random long;
    };
    client_is = asked.0;
    service_is = asked.1;
    granted_is = sent.0;
  }

  -- the outcome describes the bytes
  pub outcome_holds : (message : Received) (outcome : AsOutcome) → OutcomeSpelled v at random message outcome octets
      → Opens v at random message
      → AsOutcomeHolds (issued v at random message) message.body.value.cname message.body.value.sname outcome octets
  outcome_holds message outcome spelled opens =
      holds_by message.body.value outcome (decision v at.sec message) (issued_asked v at.sec message) spelled opens
