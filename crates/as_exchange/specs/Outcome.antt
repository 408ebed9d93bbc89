-- The outcome of an AS-REQ, and what it says about the reply.
use Rattle.std.specs.Prelude.{◌≡◌, ℕ, nat_lt, if◌then◌else◌, List, length, Option}
use Rattle.krb_elements.specs.Codec.{written}
use Rattle.krb_fields.specs.declared.numbers.TheConstants.{AS_REP}
use Rattle.krb_fields.specs.PrincipalName.{Name}
use Rattle.krb_fields.specs.declared.code.Code.TheVariants.{KrbErrResponseTooBig}
use Rattle.krb_fields.specs.declared.moment.Moment.{Moment}
use Rattle.krb_types.specs.KdcRep.{kdc_rep}
use Rattle.krb_types.specs.KdcReq.{Received}
use Rattle.krb_types.specs.KrbError.{krb_error}
use Rattle.krb_types.specs.ReqBody.{ReqBody}
use Rattle.kdc_replies.specs.ErrorReply.{too_big}
use Rattle.kdc_replies.specs.Incoming.{Incoming}
use Rattle.kdc_replies.specs.Issue.{Issue}
use Rattle.kdc_replies.specs.Audits.{IsErrorWith, WasIssuedTo}
use Rattle.kdc_replies.specs.declared.granted.Granted.{Granted}
use Rattle.ticket_times.specs.Flags.{as_flags}
use Rattle.as_exchange.specs.View.{AsView}
use Rattle.as_exchange.specs.Refusal.{code_of}
use Rattle.as_exchange.specs.Rules.{is_good}
use Rattle.as_exchange.specs.Issue.{as_rep}
use Rattle.as_exchange.specs.Decision.{decision}
use Rattle.as_exchange.specs.Answer.{as_error}
use Rattle.as_exchange.specs.declared.decision.Decision.{Decision}
use Rattle.as_exchange.specs.declared.decision.Decision.TheVariants.{Refuses, Issues}
use Rattle.as_exchange.specs.declared.outcome.AsOutcome.{AsOutcome}
use Rattle.as_exchange.specs.declared.outcome.AsOutcome.TheVariants.{Refused, Issued, TooBig}
use Rattle.as_exchange.specs.declared.terms.Admission.{Admission}

-- ---- the outcome

-- the properties of the ticket for an admission
abbrev pub granted_by : Moment → ReqBody → Admission → Granted
granted_by at body admission = record {
  reply_type = admission.terms.reply_key.etype;
  ticket_type = admission.terms.service.key.key.etype;
  session_type = admission.terms.service.session_type;
  flags =
      as_flags body admission.terms.client_policy admission.terms.service.policy (is_good admission.timestamp)
      admission.times;
  authtime = at.sec;
  times = admission.times;
}

-- a ticket if its reply fits
abbrev pub outcome_within : AsView → Incoming → ReqBody → Admission → AsOutcome
outcome_within v incoming body admission =
    if nat_lt incoming.room (length (written (kdc_rep AS_REP) (as_rep v incoming.at incoming.random body admission)))
    then TooBig
    else Issued (granted_by incoming.at body admission)

abbrev pub outcome_by : AsView → Incoming → ReqBody → Decision → AsOutcome
outcome_by v incoming body (Refuses refusal timestamp) = Refused refusal
outcome_by v incoming body (Issues admission) = outcome_within v incoming body admission

abbrev pub as_outcome : AsView → Incoming → Received → AsOutcome
as_outcome v incoming message = outcome_by v incoming message.body.value (decision v incoming.at.sec message)

-- ---- what the bytes encode, by cases on the outcome

abbrev pub OutcomeSpelledBy : AsView → Moment → List ℕ → ReqBody → AsOutcome → Decision → List ℕ → Type 0
OutcomeSpelledBy v at random body (Refused refusal) decided octets =
    krb_error.Spells (as_error v at body refusal) octets
OutcomeSpelledBy v at random body TooBig decided octets = krb_error.Spells (too_big v.realm at body) octets
OutcomeSpelledBy v at random body (Issued granted) (Refuses refusal timestamp) octets = ⊥
OutcomeSpelledBy v at random body (Issued granted) (Issues admission) octets =
    (granted ≡ granted_by at body admission) × (kdc_rep AS_REP).Spells (as_rep v at random body admission) octets

abbrev pub OutcomeSpelled : AsView → Moment → List ℕ → Received → AsOutcome → List ℕ → Type 0
OutcomeSpelled v at random message outcome octets =
    OutcomeSpelledBy v at random message.body.value outcome (decision v at.sec message) octets

-- ---- what the outcome says about the bytes sent to this client, for this service

-- `issue` is the ticket that was issued, if one was
abbrev pub AsOutcomeHolds : Option Issue → Option Name → Option Name → AsOutcome → List ℕ → Type 0
AsOutcomeHolds issue client service (Refused refusal) octets = IsErrorWith (code_of refusal) octets
AsOutcomeHolds issue client service (Issued granted) octets = WasIssuedTo client service granted issue octets
AsOutcomeHolds issue client service TooBig octets = IsErrorWith KrbErrResponseTooBig octets
