-- The answer of a key distribution centre, which depends only on its view of the state.
use Rattle.std.specs.Prelude.{◌≡◌, ℕ, ℤ, List, ⊤, Option, Some, None, option_map}
use Rattle.std.specs.FinMap as map
use Rattle.as_exchange.specs.Answer.{AsAnswer, as_answer, Spelled as AsSpelled, Opens as AsOpens, Sent as AsSent}
use Rattle.tgs_exchange.specs.Answer.{TgsAnswer, tgs_answer, tgs_error, Spelled as TgsSpelled}
use Rattle.tgs_exchange.specs.Answer.{Opens as TgsOpens, Sent as TgsSent}
use Rattle.tgs_exchange.specs.Decision.{stamp_of}
use Rattle.tgs_opening.specs.declared.presented.Presented.{Presented}
use Rattle.tgs_opening.specs.declared.refusal.TgsRefusal.{TgsRefusal}
use Rattle.kdc_replies.specs.ErrorReply.{error_reply}
use Rattle.kdc_replies.specs.Incoming.{Incoming}
use Rattle.krb_elements.specs.Codec.{written}
use Rattle.krb_fields.specs.declared.code.Code.{Code}
use Rattle.krb_fields.specs.declared.moment.Moment.{Moment}
use Rattle.krb_fields.specs.Name.{Components}
use Rattle.krb_types.specs.KdcReq.{Received}
use Rattle.krb_types.specs.KrbError.{krb_error}
use Rattle.replay.specs.declared.failures.Failures.{Failures}
use Rattle.replay.specs.declared.keep.Kept.{Kept}
use Rattle.replay.specs.ReplayCache.{recorded}
use Rattle.replay.specs.declared.cache.ReplayCache.{ReplayCache}
use Rattle.kdc_state.specs.declared.state.State.{State}
use Rattle.kdc_core.specs.Request.{Request, request_of}
use Rattle.kdc_core.specs.Contents.{contents}
use Rattle.kdc_core.specs.View.{View, as_view, named, tgs_view, view}
use Rattle.kdc_core.specs.Held.{Contents}
use Rattle.kdc_core.specs.Held.Contents.{NoRequest, AsReq, RefusedTgsReq, TgsReq}

-- the bytes of the error with this code, for a request that names no service
abbrev pub error_octets : State → Moment → Code → List ℕ
error_octets state at code = written krb_error (error_reply state.database.realm at code None None)

-- the bytes of the reply, if any, and the named client's replay cache afterwards; `None` leaves it unchanged
pub record Answer : Type 0 where
  pub reply : Option (List ℕ)
  pub kept : Option (ReplayCache Kept)

-- the client's cache with these failures, if they changed
abbrev pub counted : ReplayCache Kept → Option Failures → Option (ReplayCache Kept)
counted cache = option_map (λ failures. record cache { failures = failures })

abbrev pub of_as : View → AsAnswer → Answer
of_as v a = record { reply = Some a.reply; kept = counted v.cache a.failures }

-- the client's cache with this authenticator recorded, if it is to be recorded
abbrev pub stamped : ReplayCache Kept → ℤ → Presented → Option Kept → Option (ReplayCache Kept)
stamped cache now presented = option_map (λ kept. recorded cache now (stamp_of presented) kept)

abbrev pub of_tgs : View → ℤ → Presented → TgsAnswer → Answer
of_tgs v now presented a = record { reply = Some a.reply; kept = stamped v.cache now presented a.kept }

abbrev pub refused : View → Moment → Received → TgsRefusal → Answer
refused v at message refusal = record {
  reply = Some (written krb_error (tgs_error v.realm at message.body.value refusal));
  kept = None;
}

-- ---- given the contents of the bytes

abbrev pub contents_answer : View → Incoming → Contents → Answer
contents_answer v incoming NoRequest = record { reply = None; kept = None }
contents_answer v incoming (AsReq message) = of_as v (as_answer (as_view v) incoming message)
contents_answer v incoming (RefusedTgsReq message rejected) = refused v incoming.at message rejected.rule
contents_answer v incoming (TgsReq message p) =
    of_tgs v incoming.at.sec p (tgs_answer (tgs_view v) incoming message.body.value p)

-- the bytes of a reply encode the message that answers
abbrev pub ContentsSpelled : View → Moment → List ℕ → Contents → List ℕ → Type 0
ContentsSpelled v at random NoRequest octets = ⊥
ContentsSpelled v at random (AsReq message) octets = AsSpelled (as_view v) at random message octets
ContentsSpelled v at random (RefusedTgsReq message rejected) octets =
    krb_error.Spells (tgs_error v.realm at message.body.value rejected.rule) octets
ContentsSpelled v at random (TgsReq message p) octets = TgsSpelled (tgs_view v) at random message.body.value p octets

-- if a ticket is issued, the reply key decrypts the reply to the session key, flags and times that the service's key
-- finds in the ticket
abbrev pub ContentsOpen : View → Moment → List ℕ → Contents → Type 0
ContentsOpen v at random NoRequest = ⊤
ContentsOpen v at random (AsReq message) = AsOpens (as_view v) at random message
ContentsOpen v at random (RefusedTgsReq message rejected) = ⊤
ContentsOpen v at random (TgsReq message p) = TgsOpens (tgs_view v) at random message.body.value p

-- if a ticket is issued, these bytes encode its reply, which is decrypted as above, or an error in its place
abbrev pub SentOf : View → Moment → List ℕ → Contents → List ℕ → Type 0
SentOf v at random NoRequest octets = ⊤
SentOf v at random (AsReq message) octets = AsSent (as_view v) at random message octets
SentOf v at random (RefusedTgsReq message rejected) octets = ⊤
SentOf v at random (TgsReq message p) octets = TgsSent (tgs_view v) at random message.body.value p octets

-- there is a reply if and only if there is a request
abbrev pub IsContentsReply : View → Moment → List ℕ → Option (List ℕ) → Contents → Type 0
IsContentsReply v at random (Some octets) held = ContentsSpelled v at random held octets
IsContentsReply v at random None held = held ≡ NoRequest

abbrev pub IsSentTo : View → Moment → List ℕ → Option (List ℕ) → Contents → Type 0
IsSentTo v at random (Some octets) held = SentOf v at random held octets
IsSentTo v at random None held = held ≡ NoRequest

-- ---- given the bytes of a request

abbrev pub incoming_answer : View → Incoming → Answer
incoming_answer v incoming = contents_answer v incoming (contents v (request_of incoming.octets))

-- `random` are 64 random bytes, `room` is the greatest size of a reply with a ticket, and `octets` is the request
abbrev pub answer : View → Moment → List ℕ → ℕ → List ℕ → Answer
answer v at random room octets = incoming_answer v (record { at = at; random = random; room = room; octets = octets })

abbrev pub IsReply : View → Moment → List ℕ → Option Request → Option (List ℕ) → Type 0
IsReply v at random request reply = IsContentsReply v at random reply (contents v request)

abbrev pub ReplyOpens : View → Moment → List ℕ → Option Request → Type 0
ReplyOpens v at random request = ContentsOpen v at random (contents v request)

-- If a ticket is issued, its reply is sent, or an error in its place. The reply key decrypts the reply to the session
-- key, flags and times that the service's key finds in the ticket.
abbrev pub OneTicketTwoKeys : View → Moment → List ℕ → Option Request → Option (List ℕ) → Type 0
OneTicketTwoKeys v at random request reply = IsSentTo v at random reply (contents v request)

-- ---- the state afterwards

-- the state with a cache stored for a client
abbrev pub keep : State → Option Components → Option (ReplayCache Kept) → State
keep state (Some name) (Some cache) = record state { caches = map.insert state.caches name cache }
keep state (Some name) None = state
keep state None kept = state

abbrev pub after_incoming : State → Incoming → State
after_incoming state incoming =
    keep state (named state incoming.octets).client (incoming_answer (view state incoming.octets) incoming).kept

abbrev pub after_request : State → Moment → List ℕ → ℕ → List ℕ → State
after_request state at random room octets =
    after_incoming state (record { at = at; random = random; room = room; octets = octets })
