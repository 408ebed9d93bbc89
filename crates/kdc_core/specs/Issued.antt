-- The ticket that is issued for a request, if any, and which replies bear a given ticket.
use Rattle.std.specs.Prelude.{ℕ, List, Option, Some, None}
use Rattle.as_exchange.specs.Issued as as_exchange
use Rattle.tgs_exchange.specs.Issued as tgs_exchange
use Rattle.kdc_replies.specs.Issue.{Issue, IsIssuedOrError}
use Rattle.krb_fields.specs.declared.moment.Moment.{Moment}
use Rattle.kdc_core.specs.Contents.{contents}
use Rattle.kdc_core.specs.Request.{Request}
use Rattle.kdc_core.specs.View.{View, as_view, tgs_view}
use Rattle.kdc_core.specs.Held.{Contents}
use Rattle.kdc_core.specs.Held.Contents.{NoRequest, AsReq, RefusedTgsReq, TgsReq}

abbrev pub contents_issue : View → Moment → List ℕ → Contents → Option Issue
contents_issue v at random NoRequest = None
contents_issue v at random (AsReq message) = as_exchange.issued (as_view v) at random message
contents_issue v at random (RefusedTgsReq message rejected) = None
contents_issue v at random (TgsReq message p) = tgs_exchange.issued (tgs_view v) at random message.body.value p

-- the ticket that is issued for a request at this moment, with these random bytes; a reply that is sent again issues
-- nothing new
abbrev pub issued : View → Moment → List ℕ → Option Request → Option Issue
issued v at random request = contents_issue v at random (contents v request)

-- a reply bears the ticket, or is an error because there was no room for it
abbrev pub IsTicketReply : Issue → Option (List ℕ) → Type 0
IsTicketReply issue (Some octets) = IsIssuedOrError issue octets
IsTicketReply issue None = ⊥
