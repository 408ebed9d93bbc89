-- The audit record of a request, and what it states about the reply.
use Rattle.std.specs.Prelude.{◌≡◌, ℕ, ⊤, Bool, true, false, List, Option, Some, None, option_map}
use Rattle.std.specs.FinMap as map
use Rattle.as_exchange.specs.Outcome.{AsOutcomeHolds, OutcomeSpelled as AsOutcomeSpelled, as_outcome}
use Rattle.kdc_replies.specs.Incoming.{Incoming}
use Rattle.kdc_replies.specs.Issue.{Issue}
use Rattle.krb_fields.specs.PrincipalName.{Name}
use Rattle.krb_fields.specs.declared.moment.Moment.{Moment}
use Rattle.krb_types.specs.KrbError.{krb_error}
use Rattle.krb_types.specs.declared.kdc_req.Exchange.{Exchange}
use Rattle.krb_types.specs.declared.kdc_req.Exchange.TheVariants.{As as OfAs, Tgs as OfTgs}
use Rattle.replay.specs.declared.keep.Kept.{Kept}
use Rattle.tgs_exchange.specs.Answer.{tgs_error}
use Rattle.tgs_exchange.specs.Decision.{stamp_of}
use Rattle.tgs_exchange.specs.Outcome.{TgsOutcomeHolds, OutcomeSpelled as TgsOutcomeSpelled, tgs_outcome}
use Rattle.tgs_exchange.specs.declared.outcome.TgsOutcome.TheVariants.{Refused}
use Rattle.kdc_core.specs.Contents.{contents}
use Rattle.kdc_core.specs.Issued.{issued}
use Rattle.kdc_core.specs.Request.{Request, request_of}
use Rattle.kdc_core.specs.View.{Named, View, as_view, components_of, tgs_view}
use Rattle.kdc_core.specs.declared.audit.AuditRecord.{AuditRecord as AuditRecordOf}
use Rattle.kdc_core.specs.declared.audit.AuditRecord.TheVariants.{NoRequest as NothingAsked, As, Tgs}
use Rattle.kdc_core.specs.Held.{Contents}
use Rattle.kdc_core.specs.Held.Contents.{NoRequest, AsReq, RefusedTgsReq, TgsReq}

-- ---- its definition

-- an audit record, whether it borrows or owns its names
abbrev pub AuditRecord : Type 0
AuditRecord = AuditRecordOf Name

abbrev pub contents_audit : View → Incoming → Contents → AuditRecord
contents_audit v incoming NoRequest = NothingAsked
contents_audit v incoming (AsReq message) =
    As message.body.value.cname message.body.value.sname (as_outcome (as_view v) incoming message)
contents_audit v incoming (RefusedTgsReq message rejected) =
    Tgs rejected.client message.body.value.sname (Refused rejected.rule)
contents_audit v incoming (TgsReq message p) =
    Tgs (Some p.ticket.cname) message.body.value.sname
    (tgs_outcome (tgs_view v) incoming message.body.value p)

abbrev pub incoming_audit : View → Incoming → AuditRecord
incoming_audit v incoming = contents_audit v incoming (contents v (request_of incoming.octets))

-- takes what `answer` of specs/Answer.antt takes, and gives the audit record of that answer
abbrev pub audit : View → Moment → List ℕ → ℕ → List ℕ → AuditRecord
audit v at random room octets =
    incoming_audit v (record { at = at; random = random; room = room; octets = octets })

-- ---- the names in it

abbrev pub audit_names : AuditRecord → Named
audit_names NothingAsked = record { client = None; service = None }
audit_names (As client service outcome) = record {
  client = components_of client;
  service = components_of service;
}
audit_names (Tgs client service outcome) = record {
  client = components_of client;
  service = components_of service;
}

-- ---- whether it is wanted

abbrev pub audit_if : Bool → AuditRecord → Option AuditRecord
audit_if true audit = Some audit
audit_if false audit = None

-- ---- what it states about the reply that was sent

-- there is a reply if and only if there was a request
abbrev pub AuditSays : Option Kept → Option Issue → AuditRecord → Option (List ℕ) → Type 0
AuditSays kept issue NothingAsked (Some octets) = ⊥
AuditSays kept issue NothingAsked None = ⊤
AuditSays kept issue (As client service outcome) (Some octets) = AsOutcomeHolds issue client service outcome octets
AuditSays kept issue (As client service outcome) None = ⊥
AuditSays kept issue (Tgs client service outcome) (Some octets) = TgsOutcomeHolds kept issue client service outcome
    octets
AuditSays kept issue (Tgs client service outcome) None = ⊥

-- what was stored for the presented authenticator
abbrev pub kept_for : View → Contents → Option Kept
kept_for v NoRequest = None
kept_for v (AsReq message) = None
kept_for v (RefusedTgsReq message rejected) = None
kept_for v (TgsReq message p) = map.get v.cache.pairs (stamp_of p)

-- the exchange of a request, or of an audit record
abbrev pub request_exchange : Option Request → Option Exchange
request_exchange request = option_map (λ (r : Request). r.exchange) request

abbrev pub audit_exchange : AuditRecord → Option Exchange
audit_exchange NothingAsked = None
audit_exchange (As client service outcome) = Some OfAs
audit_exchange (Tgs client service outcome) = Some OfTgs

-- The audit record is true. Its exchange is the request's; it has none if the bytes encode no request. For a refusal,
-- the reply is an error with its code. For a ticket, the reply bears a ticket of this client for this service, which
-- the keys decrypt to these types, flags and times. For a reply that was sent again, it is the one stored for the
-- authenticator. Without a request there is no reply.
abbrev pub AuditHolds : View → Moment → List ℕ → Option Request → AuditRecord → Option (List ℕ) → Type 0
AuditHolds v at random request audit reply =
    (audit_exchange audit ≡ request_exchange request)
    × AuditSays (kept_for v (contents v request)) (issued v at random request) audit reply

-- ---- what the bytes encode, by cases on the answer

abbrev pub OutcomeSpelled : View → Incoming → Contents → List ℕ → Type 0
OutcomeSpelled v incoming NoRequest octets = ⊥
OutcomeSpelled v incoming (AsReq message) octets =
    AsOutcomeSpelled (as_view v) incoming.at incoming.random message (as_outcome (as_view v) incoming message) octets
OutcomeSpelled v incoming (RefusedTgsReq message rejected) octets =
    krb_error.Spells (tgs_error v.realm incoming.at message.body.value rejected.rule) octets
OutcomeSpelled v incoming (TgsReq message p) octets =
    TgsOutcomeSpelled (tgs_view v) incoming.at incoming.random message.body.value p
    (tgs_outcome (tgs_view v) incoming message.body.value p) octets

abbrev pub AuditSpelled : View → Incoming → Option (List ℕ) → Contents → Type 0
AuditSpelled v incoming (Some octets) held = OutcomeSpelled v incoming held octets
AuditSpelled v incoming None held = held ≡ NoRequest
