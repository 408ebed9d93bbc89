-- The reply to a TGS-REQ for which a ticket is issued carries that ticket.
use Rattle.std.proofs.Common.{◌≡◌, ◌≤◌, inl, inr, ℕ, List, length, Option, Some, ap, subst}
use Rattle.std.specs.Option.{unwrap_or}
use Rattle.kdc_replies.specs.GrantLaws.{session_key_size}
use Rattle.kdc_replies.specs.Issue.{Issue, IsIssuedOrError}
use Rattle.krb_fields.specs.declared.moment.Moment.{Moment}
use Rattle.krb_types.specs.ReqBody.{ReqBody}
use Rattle.replay.specs.declared.keep.Kept.{Kept}
use Rattle.tgs_opening.specs.declared.presented.Presented.{Presented}
use Rattle.tgs_exchange.specs.View.{TgsView}
use Rattle.tgs_exchange.specs.Answer.{Opens, OpensBy, Sent, SentBy, Spelled, SpelledBy}
use Rattle.tgs_exchange.specs.Decision.{decision}
use Rattle.tgs_exchange.specs.Issued.{issue_of, issued, issued_by}
use Rattle.tgs_exchange.specs.declared.decision.Decision.{Decision}
use Rattle.tgs_exchange.specs.declared.decision.Decision.TheVariants.{Refuses, Records, Repeats, Issues}
use Rattle.tgs_exchange.specs.declared.terms.Admission.{Admission}

module _ (v : TgsView) (at : Moment) (random octets : List ℕ) (body : ReqBody) (p : Presented) where
  sent_by : (decided : Decision Kept) → SpelledBy v at random body p decided octets
      → OpensBy v at random body p decided → SentBy v at random body p decided octets
  sent_by (Refuses refusal) spelled opens = tt
  sent_by (Records refusal) spelled opens = tt
  sent_by (Repeats kept) spelled opens = tt
  sent_by (Issues admission) (inl spelled) opens = inl (spelled, opens)
  sent_by (Issues admission) (inr spelled) opens = inr spelled

  -- what is sent encodes the answer, and is decrypted as the answer is
  pub reply_is_sent : Spelled v at random body p octets → Opens v at random body p → Sent v at random body p octets
  reply_is_sent spelled opens = sent_by (decision v at.sec body p) spelled opens

  module _ (long : 32 ≤ length random) (issue : Issue) where
    issued_for : (admission : Admission) → SentBy v at random body p (Issues admission) octets
        → IsIssuedOrError (issue_of v at random body p admission) octets
    issued_for admission (inl sent) = inl (record {
      spelled = sent.0;
      client_reads = sent.1.0.client_reads;
      service_reads = sent.1.0.service_reads;
      session_key = session_key_size admission.terms.service.session_type random long;
    })
    issued_for admission (inr error) = inr (_, error)

    reply_by : (decided : Decision Kept) → SentBy v at random body p decided octets
        → issued_by v at random body p decided ≡ Some issue → IsIssuedOrError issue octets
    reply_by (Issues admission) sent e =
        let is : issue_of v at random body p admission ≡ issue = ap (λ (o : Option Issue). unwrap_or o issue) e in
        subst (λ (i : Issue). IsIssuedOrError i octets) is (issued_for admission sent)
    reply_by (Refuses refusal) sent e = absurd cc
    reply_by (Records refusal) sent e = absurd cc
    reply_by (Repeats kept) sent e = absurd cc

    -- the reply to a TGS-REQ for which a ticket is issued
    pub reply_is_issued : Sent v at random body p octets → issued v at random body p ≡ Some issue
        → IsIssuedOrError issue octets
    reply_is_issued sent e = reply_by (decision v at.sec body p) sent e
