-- The reply to an AS-REQ for which a ticket is issued carries that ticket.
use Rattle.std.proofs.Common.{◌≡◌, ◌≤◌, inl, inr, ℕ, List, length, Option, Some, ap, subst}
use Rattle.std.specs.Option.{unwrap_or}
use Rattle.kdc_replies.specs.GrantLaws.{session_key_size}
use Rattle.kdc_replies.specs.Issue.{Issue, IsIssuedOrError}
use Rattle.krb_fields.specs.declared.moment.Moment.{Moment}
use Rattle.krb_types.specs.KdcReq.{Received}
use Rattle.krb_types.specs.ReqBody.{ReqBody}
use Rattle.as_exchange.specs.View.{AsView}
use Rattle.as_exchange.specs.Answer.{Opens, OpensBy, Sent, SentBy, Spelled, SpelledBy}
use Rattle.as_exchange.specs.Decision.{decision}
use Rattle.as_exchange.specs.Issued.{issue_of, issued, issued_by}
use Rattle.as_exchange.specs.declared.decision.Decision.{Decision}
use Rattle.as_exchange.specs.declared.decision.Decision.TheVariants.{Refuses, Issues}
use Rattle.as_exchange.specs.declared.terms.Admission.{Admission}

module _ (v : AsView) (at : Moment) (random octets : List ℕ) where
  sent_by : (body : ReqBody) (decided : Decision) → SpelledBy v at random body decided octets
      → OpensBy v at random body decided → SentBy v at random body decided octets
  sent_by body (Refuses refusal timestamp) spelled opens = tt
  sent_by body (Issues admission) (inl spelled) opens = inl (spelled, opens)
  sent_by body (Issues admission) (inr spelled) opens = inr spelled

  -- the sent bytes encode the answer, and can be decrypted like it
  pub reply_is_sent : (message : Received) → Spelled v at random message octets → Opens v at random message
      → Sent v at random message octets
  reply_is_sent message spelled opens = sent_by message.body.value (decision v at.sec message) spelled opens

  module _ (long : 32 ≤ length random) (issue : Issue) where
    issued_for : (body : ReqBody) (admission : Admission) → SentBy v at random body (Issues admission) octets
        → IsIssuedOrError (issue_of v at random body admission) octets
    issued_for body admission (inl sent) = inl (record {
      spelled = sent.0;
      client_reads = sent.1.0.client_reads;
      service_reads = sent.1.0.service_reads;
      session_key = session_key_size admission.terms.service.session_type random long;
    })
    issued_for body admission (inr error) = inr (_, error)

    reply_by : (body : ReqBody) (decided : Decision) → SentBy v at random body decided octets
        → issued_by v at random body decided ≡ Some issue → IsIssuedOrError issue octets
    reply_by body (Issues admission) sent e =
        let is : issue_of v at random body admission ≡ issue = ap (λ (o : Option Issue). unwrap_or o issue) e in
        subst (λ (i : Issue). IsIssuedOrError i octets) is (issued_for body admission sent)
    reply_by body (Refuses refusal timestamp) sent e = absurd cc

    -- the reply to an AS-REQ for which a ticket is issued
    pub reply_is_issued : (message : Received) → Sent v at random message octets
        → issued v at random message ≡ Some issue → IsIssuedOrError issue octets
    reply_is_issued message sent e = reply_by message.body.value (decision v at.sec message) sent e
