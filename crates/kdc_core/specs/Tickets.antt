-- The tickets that are issued in a run, each with the time of its authenticator.
use Rattle.std.specs.Prelude.{ℕ, ◌+◌, ℤ, ◌≤ℤ◌, Bool, nat_eq, get_or, if◌then◌else◌, ⊤, List, [], ◌∷◌, Option}
use Rattle.std.specs.Prelude.{Some, None}
use Rattle.krb_fields.specs.declared.numbers.TheConstants.{TGS_REP}
use Rattle.krb_fields.specs.Name.{Components}
use Rattle.replay.specs.Run.{collected, OneForEach}
use Rattle.replay.specs.Stamp.{Stamp}
use Rattle.tgs_exchange.specs.Decision.{stamp_of}
use Rattle.tgs_opening.specs.declared.presented.Presented.{Presented}
use Rattle.kdc_state.specs.declared.state.State.{State}
use Rattle.kdc_core.specs.Request.{Request as Read, request_of}
use Rattle.kdc_core.specs.NewlySeen.{Covers}
use Rattle.kdc_core.specs.Run.{after_event, event_reply}
use Rattle.kdc_core.specs.Struck.{is_client}
use Rattle.kdc_core.specs.Contents.{contents, presented_in}
use Rattle.kdc_core.specs.View.{named, asked_names, named_view}
use Rattle.kdc_core.specs.declared.run.Event.{Event}
use Rattle.kdc_core.specs.declared.run.Event.TheVariants.{Request, Change, Replace, Tidy, Restart, Reopen, Resume}

-- no restart is before this second
abbrev pub RestartsFrom : ℤ → List Event → Type 0
RestartsFrom now [] = ⊤
RestartsFrom now (Request at random room request ∷ events) = RestartsFrom now events
RestartsFrom now (Change change ∷ events) = RestartsFrom now events
RestartsFrom now (Replace database ∷ events) = RestartsFrom now events
RestartsFrom now (Tidy at ∷ events) = RestartsFrom now events
RestartsFrom now (Restart at ∷ events) = (now ≤ℤ at.sec) × RestartsFrom now events
RestartsFrom now (Reopen database limits at ∷ events) = (now ≤ℤ at.sec) × RestartsFrom now events
RestartsFrom now (Resume database limits resumption ∷ events) = RestartsFrom now events

-- No restart is before the second of an earlier request. That is all the law needs. It is weaker than ordered moments:
-- the moments of requests may go back while the KDC runs, those of restarts may go back among themselves, and tidyings
-- may have any moment.
abbrev pub RestartsFollow : List Event → Type 0
RestartsFollow [] = ⊤
RestartsFollow (Request at random room request ∷ events) = RestartsFrom at.sec events × RestartsFollow events
RestartsFollow (Change change ∷ events) = RestartsFollow events
RestartsFollow (Replace database ∷ events) = RestartsFollow events
RestartsFollow (Tidy at ∷ events) = RestartsFollow events
RestartsFollow (Restart at ∷ events) = RestartsFollow events
RestartsFollow (Reopen database limits at ∷ events) = RestartsFollow events
RestartsFollow (Resume database limits resumption ∷ events) = RestartsFollow events

-- the resumption covers the state
abbrev pub ResumesWithAll : State → Event → Type 0
ResumesWithAll state (Request at random room request) = ⊤
ResumesWithAll state (Change change) = ⊤
ResumesWithAll state (Replace database) = ⊤
ResumesWithAll state (Tidy at) = ⊤
ResumesWithAll state (Restart at) = ⊤
ResumesWithAll state (Reopen database limits at) = ⊤
ResumesWithAll state (Resume database limits resumption) = Covers state resumption

-- the same at each place of a run where it resumes, at whatever moment
abbrev pub ResumesFollow : State → List Event → Type 0
ResumesFollow state [] = ⊤
ResumesFollow state (event ∷ events) = ResumesWithAll state event × ResumesFollow (after_event state event) events

-- what a request presents, if it is a TGS-REQ that can be decrypted
abbrev pub request_presented : State → Option Read → Option Presented
request_presented state request = presented_in (contents (named_view state (asked_names state request)) request)

-- whether a reply bears a ticket: its bytes begin with the tag of a TGS-REP
abbrev pub bears_ticket : List ℕ → Bool
bears_ticket octets = nat_eq (get_or octets 0 0) (96 + TGS_REP)

-- a reply that bears a ticket, with the time of the authenticator
abbrev pub ticket_by : Option Presented → Option (List ℕ) → Option (Stamp × List ℕ)
ticket_by (Some p) (Some octets) = if bears_ticket octets then Some (stamp_of p, octets) else None
ticket_by (Some p) None = None
ticket_by None reply = None

-- the ticket that a reply brings to the client c for an authenticator
abbrev pub ticket_for : Components → State → Event → Option (List ℕ) → Option (Stamp × List ℕ)
ticket_for c state (Request at random room request) reply =
    if is_client c (named state request).client
    then ticket_by (request_presented state (request_of request)) reply else None
ticket_for c state (Change change) reply = None
ticket_for c state (Replace database) reply = None
ticket_for c state (Tidy at) reply = None
ticket_for c state (Restart at) reply = None
ticket_for c state (Reopen database limits at) reply = None
ticket_for c state (Resume database limits resumption) reply = None

-- the ticket that a request of the client c gets for an authenticator
abbrev pub ticket_to : Components → State → Event → Option (Stamp × List ℕ)
ticket_to c state event = ticket_for c state event (event_reply state event)

-- the tickets of a whole run, in order
abbrev pub tickets_to : Components → State → List Event → List (Stamp × List ℕ)
tickets_to c = collected after_event (ticket_to c)

-- One ticket per authenticator: if two TGS-REQs of one client have authenticators with the same ctime and cusec, and
-- both replies bear a ticket, then the replies are equal.
abbrev pub OneTicket : State → List Event → Type 0
OneTicket state events =
    RestartsFollow events → ResumesFollow state events → (c : Components) → OneForEach (tickets_to c state events)
