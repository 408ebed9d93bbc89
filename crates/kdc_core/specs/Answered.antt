-- What is promised of every answer of a key distribution centre.
use Rattle.std.specs.Prelude.{◌≡◌, ◌≢◌, ◌≤◌, ◌↔◌, ℕ, Bool, List, length, Option, Some, IfSome}
use Rattle.kdc_replies.specs.GoodStanding.{AreInGoodStanding}
use Rattle.kdc_replies.specs.Incoming.{Incoming}
use Rattle.krb_fields.specs.Name.{Components}
use Rattle.krb_fields.specs.declared.moment.Moment.{Moment}
use Rattle.kdc_state.specs.State.{cache_of}
use Rattle.kdc_state.specs.declared.state.State.{State}
use Rattle.kdc_core.specs.Audit.{AuditHolds, audit_if, audit_names, incoming_audit}
use Rattle.kdc_core.specs.Answer.{IsReply, OneTicketTwoKeys, after_incoming, incoming_answer}
use Rattle.kdc_core.specs.Issued.{IsTicketReply, issued}
use Rattle.kdc_core.specs.NewlySeen.{incoming_seen}
use Rattle.kdc_core.specs.ReplyIn.{sent_bytes, reported_seen}
use Rattle.kdc_core.specs.Request.{Request, SpellsRequest, request_of}
use Rattle.kdc_core.specs.Ruling.{IsRuled}
use Rattle.kdc_core.specs.Shown.{IsSeenAlike, ShowsTicket}
use Rattle.kdc_core.specs.View.{Agrees, named, view}
use Rattle.kdc_core.specs.declared.reply.Reply.{Reply}

-- the request with these bytes, its moment, the random bytes for its answer and the room for a reply with a ticket
abbrev pub asked : Moment → List ℕ → ℕ → List ℕ → Incoming
asked at random room octets = record { at = at; random = random; room = room; octets = octets }

-- The state before, the request, whether an audit record is wanted, the reply, if any, and the state after it.
pub record IsAnswered (before : State) (q : Incoming) (wants_audit : Bool) (given : Option Reply) (after : State)
    : Type 0 where
  -- the request is the one that the bytes encode, if they encode one and are no more than 2147483647
  pub request : (r : Request)
      → (request_of q.octets ≡ Some r) ↔ (SpellsRequest r q.octets × (length q.octets ≤ 2147483647))
  -- the reply is the one that the rules prescribe
  pub reply : sent_bytes given ≡ (incoming_answer (view before q.octets) q).reply
  -- a TGS-REQ gets what the first rule that holds in the one list says, or a ticket if none holds
  pub ruled : IsRuled (view before q.octets) q (incoming_answer (view before q.octets) q)
      (incoming_audit (view before q.octets) q) (issued (view before q.octets) q.at q.random (request_of q.octets))
      (request_of q.octets)
  -- its bytes encode the message that the rules prescribe, or are a stored reply
  pub spelled : IsReply (view before q.octets) q.at q.random (request_of q.octets) (sent_bytes given)
  -- If a ticket is issued, the bytes encode its reply, or an error in its place. The reply key decrypts the reply to
  -- the session key, flags and times that the service's key finds in the ticket.
  pub keys : OneTicketTwoKeys (view before q.octets) q.at q.random (request_of q.octets) (sent_bytes given)
  -- a ticket is issued only if its client and its service are in good standing
  pub standing : IfSome (issued (view before q.octets) q.at q.random (request_of q.octets))
      (λ issue. AreInGoodStanding before.database.realm (named before q.octets).service
      (view before q.octets).client (view before q.octets).service q.at.sec)
  -- the same for the issued ticket: what the client and the service decrypt is what was granted
  pub issued : IfSome (issued (view before q.octets) q.at q.random (request_of q.octets))
      (λ issue. IsTicketReply issue (sent_bytes given))
  -- the audit record in the reply is the one that the same rules give, if it is wanted
  pub audit : IfSome given (λ reply. reply.audit ≡ audit_if wants_audit (incoming_audit (view before q.octets) q))
  -- it names the client and the service that the request names
  pub names : audit_names (incoming_audit (view before q.octets) q) ≡ named before q.octets
  -- it is true of the reply
  pub holds : AuditHolds (view before q.octets) q.at q.random (request_of q.octets)
      (incoming_audit (view before q.octets) q) (sent_bytes given)
  -- the authenticator that is reported as recorded is the one that the same rules record
  pub newly_seen : reported_seen given ≡ incoming_seen (view before q.octets) q
  -- its client is one whose ticket the request shows
  pub shown : IfSome (reported_seen given) (λ seen. ShowsTicket before q.octets seen.client.components)
  -- the state afterwards is the one that the rules prescribe
  pub state : after ≡ after_incoming before q
  -- no row, no limit, and no replay cache but the named client's changes
  pub database : after.database ≡ before.database
  pub limits : after.limits ≡ before.limits
  pub caches : (name : Components) → (named before q.octets).client ≢ Some name
      → cache_of after name ≡ cache_of before name
  -- without a ticket of a client nothing changes what that client's replay cache has seen
  pub holder : (name : Components) → (ShowsTicket before q.octets name → ⊥)
      → IsSeenAlike (cache_of before name) (cache_of after name)
  -- a second state that agrees at what the request names gives the same answer, audit record and names
  pub agreement : (other : State) → Agrees before other q.octets
      → incoming_answer (view other q.octets) q ≡ incoming_answer (view before q.octets) q
  pub same_audit : (other : State) → Agrees before other q.octets
      → incoming_audit (view other q.octets) q ≡ incoming_audit (view before q.octets) q
  pub same_names : (other : State) → Agrees before other q.octets → named other q.octets ≡ named before q.octets
  -- they agree there afterwards too
  pub afterwards : (other : State) → Agrees before other q.octets
      → Agrees (after_incoming before q) (after_incoming other q) q.octets
