-- The audit record of a request is true, and names the client and the service that the request names.
use Rattle.std.proofs.Common.{◌≡◌, ◌≤◌, ℕ, List, length, Option, Some, None, Result, Ok, Err, IfOk, refl, sym, ap}
use Rattle.std.proofs.Common.{subst, ◌∙◌}
use Rattle.as_exchange.specs.OutcomeLaws as as_exchange
use Rattle.as_exchange.specs.Outcome.{as_outcome}
use Rattle.tgs_exchange.specs.OutcomeLaws as tgs_exchange
use Rattle.tgs_exchange.specs.Answer.{tgs_error}
use Rattle.tgs_exchange.specs.Outcome.{tgs_outcome}
use Rattle.kdc_replies.specs.Incoming.{Incoming}
use Rattle.krb_types.specs.declared.kdc_req.Exchange.{Exchange}
use Rattle.krb_types.specs.declared.kdc_req.Exchange.TheVariants.{As as OfAs, Tgs as OfTgs}
use Rattle.krb_types.specs.KdcReq.{Received}
use Rattle.tgs_opening.specs.Opening.{opened_ticket, presented}
use Rattle.tgs_opening.specs.OpeningLaws.{client_of as opened_client, rejected_client}
use Rattle.tgs_opening.specs.declared.opened.OpenedTicket.{OpenedTicket}
use Rattle.tgs_opening.specs.declared.presented.Presented.{Presented}
use Rattle.tgs_opening.specs.declared.refusal.TgsRefusal.{TgsRefusal}
use Rattle.tgs_opening.specs.declared.rejection.OpeningRefusal.{OpeningRefusal}
use Rattle.kdc_state.specs.declared.state.State.{State}
use Rattle.kdc_core.specs.Audit.{AuditRecord, AuditHolds, AuditSpelled, AuditSays, contents_audit, incoming_audit}
use Rattle.kdc_core.specs.Audit.{kept_for}
use Rattle.kdc_core.specs.Audit.{audit_exchange, audit_names, request_exchange}
use Rattle.kdc_core.specs.Answer.{ContentsOpen, ReplyOpens, contents_answer, incoming_answer}
use Rattle.kdc_core.specs.Contents.{contents, message_contents, names_answered, tgs_contents}
use Rattle.kdc_core.specs.ContentsLaws.{AreNamesOf, are_names_of, if_ok}
use Rattle.kdc_core.specs.Issued.{contents_issue}
use Rattle.kdc_core.specs.Request.{Request, request_of}
use Rattle.kdc_core.specs.View.{Named, View, as_view, ticket_client, components_of, named, asked_names, request_names}
use Rattle.kdc_core.specs.View.{opening_view}
use Rattle.kdc_core.specs.View.{tgs_view, ticket_view, view, message_view, named_view}
use Rattle.kdc_core.specs.declared.audit.AuditRecord.TheVariants.{NoRequest as NothingAsked}
use Rattle.kdc_core.specs.Held.{Contents}
use Rattle.kdc_core.specs.Held.Contents.{NoRequest, AsReq, RefusedTgsReq, TgsReq}

-- ---- it is the audit record, with the names that the contents give

module _ {A E : Type 0} (state : State) (incoming : Incoming) (r : Result A E) where
  abbrev Audits : (A → AuditRecord) → Named → Contents → Type 0
  Audits audit names held = IfOk r (λ a. audit a ≡ contents_audit (named_view state names) incoming held)

  audit_by : (audit : A → AuditRecord) (names : Named) (held : Contents) → AreNamesOf names held
      → Audits audit (names_answered held) held → Audits audit names held
  audit_by audit names NoRequest names_are h = h
  audit_by audit names (AsReq message) names_are h =
      subst (λ (n : Named). Audits audit n (AsReq message)) (sym names_are) h
  audit_by audit names (RefusedTgsReq message rejected) names_are h = h
  audit_by audit names (TgsReq message p) names_are h =
      subst (λ (n : Named). Audits audit n (TgsReq message p)) (sym names_are) h

  abbrev Spells : (A → Option (List ℕ)) → Named → Contents → Type 0
  Spells octets names held = IfOk r (λ a. AuditSpelled (named_view state names) incoming (octets a) held)

  unnamed_by : (o : Option (List ℕ)) (names other : Named) → AuditSpelled (named_view state names) incoming o NoRequest
      → AuditSpelled (named_view state other) incoming o NoRequest
  unnamed_by (Some octets) names other h = h
  unnamed_by None names other h = h

  rejected_by : (o : Option (List ℕ)) (names other : Named) (message : Received) (rejected : OpeningRefusal)
      → AuditSpelled (named_view state names) incoming o (RefusedTgsReq message rejected)
      → AuditSpelled (named_view state other) incoming o (RefusedTgsReq message rejected)
  rejected_by (Some octets) names other message rejected h = h
  rejected_by None names other message rejected h = h

module _ {A E : Type 0} (state : State) (incoming : Incoming) (r : Result A E) where
  spelled_by : (octets : A → Option (List ℕ)) (names : Named) (held : Contents) → AreNamesOf names held
      → Spells state incoming r octets (names_answered held) held → Spells state incoming r octets names held
  spelled_by octets names NoRequest names_are h =
      if_ok r _ _ (λ a. unnamed_by state incoming r (octets a) (names_answered NoRequest) names) h
  spelled_by octets names (AsReq message) names_are h =
      subst (λ (n : Named). Spells state incoming r octets n (AsReq message)) (sym names_are) h
  spelled_by octets names (RefusedTgsReq message rejected) names_are h =
      if_ok r _ _ (λ a. rejected_by state incoming r (octets a)
      (names_answered (RefusedTgsReq message rejected)) names message rejected) h
  spelled_by octets names (TgsReq message p) names_are h =
      subst (λ (n : Named). Spells state incoming r octets n (TgsReq message p)) (sym names_are) h

-- ---- for what was read from the bytes

module _ {A E : Type 0} (state : State) (incoming : Incoming) (r : Result A E) (held : Contents)
    (is : held ≡ contents (view state incoming.octets) (request_of incoming.octets)) where
  abbrev names : Named
  names = named state incoming.octets

  names_are : AreNamesOf names held
  names_are = subst (λ (h : Contents). AreNamesOf names h) (sym is) (are_names_of state (request_of incoming.octets))

  pub audit_answered : (audit : A → AuditRecord) → Audits state incoming r audit (names_answered held) held
      → IfOk r (λ a. audit a ≡ incoming_audit (view state incoming.octets) incoming)
  audit_answered audit h =
      subst (λ (h : Contents). Audits state incoming r audit names h) is
      (audit_by state incoming r audit names held names_are h)

  pub audit_spelled : (octets : A → Option (List ℕ)) → Spells state incoming r octets (names_answered held) held
      → IfOk r (λ a. AuditSpelled (view state incoming.octets) incoming (octets a)
      (contents (view state incoming.octets) (request_of incoming.octets)))
  audit_spelled octets h =
      subst (λ (h : Contents). Spells state incoming r octets names h) is
      (spelled_by state incoming r octets names held names_are h)

-- ---- and it is true

module _ (v : View) (incoming : Incoming) (long : 32 ≤ length incoming.random) where
  holds_of : (held : Contents) (reply : Option (List ℕ)) → AuditSpelled v incoming reply held
      → ContentsOpen v incoming.at incoming.random held
      → AuditSays (kept_for v held) (contents_issue v incoming.at incoming.random held)
      (contents_audit v incoming held) reply
  holds_of NoRequest (Some octets) spelled opens = absurd spelled
  holds_of NoRequest None nothing opens = tt
  holds_of (AsReq message) (Some octets) spelled opens =
      as_exchange.outcome_holds (as_view v) incoming.at incoming.random octets long message
      (as_outcome (as_view v) incoming message) spelled opens
  holds_of (AsReq message) None nothing opens = absurd cc
  holds_of (RefusedTgsReq message rejected) (Some octets) spelled opens =
      (tgs_error v.realm incoming.at message.body.value rejected.rule, refl, spelled)
  holds_of (RefusedTgsReq message rejected) None nothing opens = absurd cc
  holds_of (TgsReq message p) (Some octets) spelled opens =
      tgs_exchange.outcome_holds (tgs_view v) incoming.at incoming.random octets message.body.value p long
      (tgs_outcome (tgs_view v) incoming message.body.value p) spelled opens
  holds_of (TgsReq message p) None nothing opens = absurd cc

  exchange_of : (request : Option Request) → audit_exchange (contents_audit v incoming (contents v request))
      ≡ request_exchange request
  exchange_of None = refl
  exchange_of (Some request) = by_exchange request.exchange request.message
    where
      request_presented : (message : Received) (r : Result Presented OpeningRefusal)
          → audit_exchange (contents_audit v incoming (tgs_contents message r)) ≡ Some OfTgs
      request_presented message (Ok p) = refl
      request_presented message (Err rejected) = refl

      by_exchange : (exchange : Exchange) (message : Received)
          → audit_exchange (contents_audit v incoming (message_contents v exchange message)) ≡ Some exchange
      by_exchange OfAs message = refl
      by_exchange OfTgs message = request_presented message (presented (opening_view v) message)

  -- the audit record that a call returns is true of its reply
  pub audit_holds : {A E : Type 0} (audit : A → AuditRecord) (octets : A → Option (List ℕ)) (r : Result A E)
      → IfOk r (λ a. audit a ≡ incoming_audit v incoming)
      → IfOk r (λ a. AuditSpelled v incoming (octets a) (contents v (request_of incoming.octets)))
      → IfOk r (λ a. ReplyOpens v incoming.at incoming.random (request_of incoming.octets))
      → IfOk r (λ a. AuditHolds v incoming.at incoming.random (request_of incoming.octets) (audit a) (octets a))
  audit_holds audit octets (Ok a) is spelled opens =
      let held = contents v (request_of incoming.octets) in (
        ap audit_exchange is ∙ exchange_of (request_of incoming.octets),
        subst (λ (x : AuditRecord). AuditSays (kept_for v held) (contents_issue v incoming.at incoming.random held) x
            (octets a))
            (sym is) (holds_of held (octets a) spelled opens),
      )
  audit_holds audit octets (Err e) is spelled opens = tt

-- ---- it names the client and the service that the request names

-- the named client is that of the decrypted ticket
client_named : (r : Result OpenedTicket TgsRefusal) → components_of (opened_client r) ≡ ticket_client r
client_named (Ok o) = refl
client_named (Err rule) = refl

module _ (state : State) (incoming : Incoming) where
  tgs_named : (message : Received) (r : Result Presented OpeningRefusal) → presented (ticket_view state message) message ≡ r
      → AreNamesOf (request_names state (record { exchange = OfTgs; message = message })) (tgs_contents message r)
      → (v : View) → audit_names (contents_audit v incoming (tgs_contents message r))
      ≡ request_names state (record { exchange = OfTgs; message = message })
  tgs_named message (Ok p) is names_are v = sym names_are
  tgs_named message (Err rejected) is names_are v = λ i. record {
    client = (ap components_of (sym (rejected_client (ticket_view state message) message rejected is))
        ∙ client_named (opened_ticket (ticket_view state message) message)) i;
    service = components_of message.body.value.sname;
  }

  named_at : (exchange : Exchange) (message : Received)
      → AreNamesOf (request_names state (record { exchange = exchange; message = message }))
      (message_contents (message_view state exchange message) exchange message)
      → audit_names (contents_audit (message_view state exchange message) incoming
      (message_contents (message_view state exchange message) exchange message))
      ≡ request_names state (record { exchange = exchange; message = message })
  named_at OfAs message names_are = refl
  named_at OfTgs message names_are =
      tgs_named message (presented (ticket_view state message) message) refl names_are
      (message_view state OfTgs message)

  named_of : (request : Option Request) → AreNamesOf (asked_names state request)
      (contents (named_view state (asked_names state request)) request)
      → audit_names (contents_audit (named_view state (asked_names state request)) incoming
      (contents (named_view state (asked_names state request)) request)) ≡ asked_names state request
  named_of (Some request) names_are = named_at request.exchange request.message names_are
  named_of None names_are = refl

  -- the audit record names the client and the service that the request names
  pub names_are_named : audit_names (incoming_audit (view state incoming.octets) incoming) ≡ named state incoming.octets
  names_are_named = named_of (request_of incoming.octets) (are_names_of state (request_of incoming.octets))

-- ---- only what is no request gets no reply

contents_unanswered : (v : View) (incoming : Incoming) (held : Contents) → (contents_answer v incoming held).reply
    ≡ None
    → contents_audit v incoming held ≡ NothingAsked
contents_unanswered v incoming NoRequest none = refl
contents_unanswered v incoming (AsReq message) none = absurd cc
contents_unanswered v incoming (RefusedTgsReq message rejected) none = absurd cc
contents_unanswered v incoming (TgsReq message p) none = absurd cc

pub unanswered : (v : View) (incoming : Incoming) → (incoming_answer v incoming).reply ≡ None
    → incoming_audit v incoming ≡ NothingAsked
unanswered v incoming = contents_unanswered v incoming (contents v (request_of incoming.octets))
