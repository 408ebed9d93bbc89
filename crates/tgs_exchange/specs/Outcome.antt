-- The outcome of a TGS-REQ, and what it states about the reply.
use Rattle.std.specs.Prelude.{◌≡◌, ℕ, ◌&&◌, nat_eq, nat_lt, if◌then◌else◌, List, length, Option, Some, None}
use Rattle.std.specs.Cmp.Lexicographic.{pointwise}
use Rattle.krb_elements.specs.Codec.{written}
use Rattle.krb_fields.specs.declared.numbers.TheConstants.{TGS_REP}
use Rattle.krb_fields.specs.PrincipalName.{Name}
use Rattle.krb_fields.specs.declared.code.Code.TheVariants.{KrbErrResponseTooBig}
use Rattle.krb_fields.specs.declared.moment.Moment.{Moment}
use Rattle.krb_types.specs.KdcRep.{kdc_rep}
use Rattle.krb_types.specs.KrbError.{krb_error}
use Rattle.krb_types.specs.ReqBody.{ReqBody}
use Rattle.kdc_replies.specs.ErrorReply.{too_big}
use Rattle.kdc_replies.specs.Incoming.{Incoming}
use Rattle.kdc_replies.specs.Issue.{Issue}
use Rattle.kdc_replies.specs.Audits.{IsErrorWith, WasIssuedTo}
use Rattle.kdc_replies.specs.declared.granted.Granted.{Granted}
use Rattle.ticket_times.specs.Flags.{tgs_flags}
use Rattle.replay.specs.declared.keep.Bears.{Bears}
use Rattle.replay.specs.declared.keep.Kept.{Kept}
use Rattle.tgs_opening.specs.Refusal.{code_of}
use Rattle.tgs_opening.specs.declared.presented.Presented.{Presented}
use Rattle.ap_req.specs.declared.refusal.ApRefusal.TheVariants.{Repeated}
use Rattle.tgs_opening.specs.declared.refusal.TgsRefusal.TheVariants.{Ap}
use Rattle.tgs_exchange.specs.View.{TgsView}
use Rattle.tgs_exchange.specs.Decision.{decision}
use Rattle.tgs_exchange.specs.Issue.{reply_key_of, tgs_rep}
use Rattle.ap_req.specs.Validity.{ticket_terms}
use Rattle.tgs_exchange.specs.Answer.{is_ticket, tgs_error}
use Rattle.tgs_exchange.specs.declared.decision.Decision.{Decision}
use Rattle.tgs_exchange.specs.declared.decision.Decision.TheVariants.{Refuses, Records, Repeats, Issues}
use Rattle.tgs_exchange.specs.declared.outcome.TgsOutcome.{TgsOutcome}
use Rattle.tgs_exchange.specs.declared.outcome.TgsOutcome.TheVariants.{Refused, Issued, Resent, TooBig}
use Rattle.tgs_exchange.specs.declared.terms.Admission.{Admission}

-- ---- its definition

-- the terms that the ticket of an admission is issued with
abbrev pub granted_by : ReqBody → Presented → Admission → Granted
granted_by body p admission = record {
  reply_type = (reply_key_of p).key.etype;
  ticket_type = admission.terms.service.key.key.etype;
  session_type = admission.terms.service.session_type;
  flags = tgs_flags body (ticket_terms p.ticket) admission.terms.service.policy admission.times;
  authtime = p.ticket.authtime;
  times = admission.times;
}

-- the stored reply, if it fits the room
abbrev pub resent_within : Incoming → Kept → TgsOutcome
resent_within incoming kept =
    if is_ticket kept.bears && nat_lt incoming.room (length kept.reply) then TooBig else Resent kept.bears

-- the same request gets the stored reply, and another one is refused
abbrev pub repeated_outcome : Incoming → Kept → TgsOutcome
repeated_outcome incoming kept =
    if pointwise nat_eq incoming.octets kept.request then resent_within incoming kept else Refused (Ap Repeated)

-- a ticket, if its reply fits the room
abbrev pub issued_within : TgsView → Incoming → ReqBody → Presented → Admission → TgsOutcome
issued_within v incoming body p admission =
    if nat_lt incoming.room
    (length (written (kdc_rep TGS_REP) (tgs_rep v incoming.at incoming.random body p admission)))
    then TooBig
    else Issued (granted_by body p admission)

abbrev pub outcome_by : TgsView → Incoming → ReqBody → Presented → Decision Kept → TgsOutcome
outcome_by v incoming body p (Refuses refusal) = Refused refusal
outcome_by v incoming body p (Records refusal) = Refused refusal
outcome_by v incoming body p (Repeats kept) = repeated_outcome incoming kept
outcome_by v incoming body p (Issues admission) = issued_within v incoming body p admission

abbrev pub tgs_outcome : TgsView → Incoming → ReqBody → Presented → TgsOutcome
tgs_outcome v incoming body p = outcome_by v incoming body p (decision v incoming.at.sec body p)

-- ---- what the bytes encode, by cases on the outcome

abbrev pub OutcomeSpelledBy : TgsView → Moment → List ℕ → ReqBody → Presented → TgsOutcome → Decision Kept → List ℕ
    → Type 0
OutcomeSpelledBy v at random body p (Refused refusal) decided octets =
    krb_error.Spells (tgs_error v.realm at body refusal) octets
OutcomeSpelledBy v at random body p TooBig decided octets = krb_error.Spells (too_big v.realm at body) octets
OutcomeSpelledBy v at random body p (Issued granted) (Refuses refusal) octets = ⊥
OutcomeSpelledBy v at random body p (Issued granted) (Records refusal) octets = ⊥
OutcomeSpelledBy v at random body p (Issued granted) (Repeats kept) octets = ⊥
OutcomeSpelledBy v at random body p (Issued granted) (Issues admission) octets =
    (granted ≡ granted_by body p admission) × (kdc_rep TGS_REP).Spells (tgs_rep v at random body p admission) octets
OutcomeSpelledBy v at random body p (Resent bears) (Refuses refusal) octets = ⊥
OutcomeSpelledBy v at random body p (Resent bears) (Records refusal) octets = ⊥
OutcomeSpelledBy v at random body p (Resent bears) (Repeats kept) octets = (bears ≡ kept.bears) × (octets ≡ kept.reply)
OutcomeSpelledBy v at random body p (Resent bears) (Issues admission) octets = ⊥

abbrev pub OutcomeSpelled : TgsView → Moment → List ℕ → ReqBody → Presented → TgsOutcome → List ℕ → Type 0
OutcomeSpelled v at random body p outcome octets = OutcomeSpelledBy v at random body p outcome
    (decision v at.sec body p) octets

-- ---- what it states about the bytes that were sent to this client, for this service

-- a reply that bears this was stored for the authenticator, and the bytes are that reply
abbrev pub WasKept : Option Kept → Bears → List ℕ → Type 0
WasKept (Some kept) bears octets = (bears ≡ kept.bears) × (octets ≡ kept.reply)
WasKept None bears octets = ⊥

-- `kept` is what was stored for the authenticator, if anything was, and `issue` the ticket that was issued, if one was
abbrev pub TgsOutcomeHolds : Option Kept → Option Issue → Option Name → Option Name → TgsOutcome → List ℕ → Type 0
TgsOutcomeHolds kept issue client service (Refused refusal) octets = IsErrorWith (code_of refusal) octets
TgsOutcomeHolds kept issue client service (Issued granted) octets = WasIssuedTo client service granted issue octets
TgsOutcomeHolds kept issue client service (Resent bears) octets = WasKept kept bears octets
TgsOutcomeHolds kept issue client service TooBig octets = IsErrorWith KrbErrResponseTooBig octets
