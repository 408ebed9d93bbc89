-- The authenticators that a run records, and those that a later start has to resume with.
use Rattle.std.specs.Prelude.{ℕ, ℤ, pos, ◌-ℤ◌, ◌≤ℤ◌, ⊤, IsTrue, List, [], ◌∷◌, ◌++◌, Option, Some, None, IfSome}
use Rattle.std.specs.FinMap as map
use Rattle.std.specs.Option.{is_some}
use Rattle.std.specs.Int.{int_max}
use Rattle.kdc_replies.specs.Incoming.{Incoming}
use Rattle.krb_fields.specs.Name.{Components}
use Rattle.krb_fields.specs.Skew.{skew}
use Rattle.krb_fields.specs.declared.moment.Moment.{Moment}
use Rattle.principal_rows.specs.declared.limits.Limits.{Limits}
use Rattle.principals.specs.Database.{Principals}
use Rattle.replay.specs.Opening.{opening_floor}
use Rattle.replay.specs.Resumed.{Holds, resumed_cache, stamp_seen}
use Rattle.replay.specs.Run.{with_any}
use Rattle.replay.specs.declared.keep.Kept.{Kept}
use Rattle.replay.specs.declared.opening.Opening.{Opening}
use Rattle.replay.specs.declared.seen.Resumption.{Resumption}
use Rattle.replay.specs.declared.seen.Seen.{Seen}
use Rattle.tgs_exchange.specs.Answer.{tgs_answer}
use Rattle.tgs_opening.specs.declared.presented.Presented.{Presented}
use Rattle.kdc_state.specs.Resumed.{resumed_state}
use Rattle.kdc_state.specs.State.{cache_of, opened_state}
use Rattle.kdc_state.specs.declared.state.State.{State}
use Rattle.kdc_core.specs.Contents.{contents}
use Rattle.kdc_core.specs.Request.{request_of}
use Rattle.kdc_core.specs.Run.{after_event, run}
use Rattle.kdc_core.specs.View.{View, tgs_view, view}
use Rattle.kdc_core.specs.Held.{Contents}
use Rattle.kdc_core.specs.Held.Contents.{NoRequest, AsReq, RefusedTgsReq, TgsReq}
use Rattle.kdc_core.specs.declared.run.Event.{Event}
use Rattle.kdc_core.specs.declared.run.Event.TheVariants.{Request, Change, Replace, Tidy, Restart, Reopen, Resume}

-- ---- what is recorded

-- the presented authenticator, with the client of its ticket, if something is stored for it
abbrev pub seen_if_kept : Presented → Option Kept → Option Seen
seen_if_kept p (Some kept) = Some (record {
  client = p.ticket.cname;
  ctime = p.authenticator.ctime;
  cusec = p.authenticator.cusec;
})
seen_if_kept p None = None

abbrev pub contents_seen : View → Incoming → Contents → Option Seen
contents_seen v incoming NoRequest = None
contents_seen v incoming (AsReq message) = None
contents_seen v incoming (RefusedTgsReq message rejected) = None
contents_seen v incoming (TgsReq message p) =
    seen_if_kept p (tgs_answer (tgs_view v) incoming message.body.value p).kept

abbrev pub incoming_seen : View → Incoming → Option Seen
incoming_seen v incoming = contents_seen v incoming (contents v (request_of incoming.octets))

-- takes what `answer` of specs/Answer.antt takes, and gives the authenticator that this answer records
abbrev pub newly_seen : View → Moment → List ℕ → ℕ → List ℕ → Option Seen
newly_seen v at random room octets =
    incoming_seen v (record { at = at; random = random; room = room; octets = octets })

-- the authenticator that an event records, if any
abbrev pub event_sees : State → Event → Option Seen
event_sees state (Request at random room request) = newly_seen (view state request) at random room request
event_sees state (Change change) = None
event_sees state (Replace database) = None
event_sees state (Tidy at) = None
event_sees state (Restart at) = None
event_sees state (Reopen database limits at) = None
event_sees state (Resume database limits resumption) = None

-- all that a run records, in order
abbrev pub run_sees : State → List Event → List Seen
run_sees state [] = []
run_sees state (event ∷ events) =
    with_any (event_sees state event) [] ++ run_sees (after_event state event) events

-- ---- what a start has to resume with

-- The resumption covers the state. If an authenticator of a client is recorded in the state, or is too old for it, it
-- is also recorded or too old after the resumption.
abbrev pub Covers : State → Resumption → Type 0
Covers state r = (c : Components) → Holds (cache_of state c) (resumed_cache r c)

-- an event within one process, no later than this second
abbrev pub IsUpTo : ℤ → Event → Type 0
IsUpTo now (Request at random room request) = at.sec ≤ℤ now
IsUpTo now (Change change) = ⊤
IsUpTo now (Replace database) = ⊤
IsUpTo now (Tidy at) = at.sec ≤ℤ now
IsUpTo now (Restart at) = ⊥
IsUpTo now (Reopen database limits at) = ⊥
IsUpTo now (Resume database limits resumption) = ⊥

abbrev pub AreUpTo : ℤ → List Event → Type 0
AreUpTo now [] = ⊤
AreUpTo now (event ∷ events) = IsUpTo now event × AreUpTo now events

-- the resumption with what a run recorded added to it, at a second
abbrev pub resumption_at : ℤ → Resumption → List Seen → Resumption
resumption_at now r seen = record { floor = int_max r.floor (now -ℤ pos skew); seen = r.seen ++ seen }

-- If a resumption covers a state, then it covers the state at the end of a run, once what the run recorded is added.
-- The second may be any that is not before an event of the run.
abbrev pub CoversOn : Type 0
CoversOn = (state : State) (events : List Event) (r : Resumption) (now : ℤ) → Covers state r → AreUpTo now events
    → Covers (run state events) (resumption_at now r (run_sees state events))

-- what a process begins with after an opening
abbrev pub opening_resumption : Opening → Resumption
opening_resumption opening = record { floor = opening_floor opening; seen = [] }

abbrev pub CoversOpened : Type 0
CoversOpened = (database : Principals) (limits : Limits) (opening : Opening)
    → Covers (opened_state database limits opening) (opening_resumption opening)

abbrev pub CoversResumed : Type 0
CoversResumed = (database : Principals) (limits : Limits) (r : Resumption) → Covers (resumed_state database limits r) r

-- an authenticator is reported as recorded only if the state has it afterwards
abbrev pub HoldsNewlySeen : Type 0
HoldsNewlySeen = (state : State) (event : Event)
    → IfSome (event_sees state event) (λ seen.
    IsTrue (is_some (map.get (cache_of (after_event state event) seen.client.components).pairs (stamp_seen seen))))

-- A process can be resumed, whether it began with an opening or by resuming itself. What it began with and what it has
-- recorded since cover its state.
pub record CanBeResumed : Type 0 where
  pub newly_seen : HoldsNewlySeen
  pub on : CoversOn
  pub opened : CoversOpened
  pub resumed : CoversResumed
