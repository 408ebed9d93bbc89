-- Runs of a key distribution centre: the replies, and the state afterwards, event by event.
use Rattle.std.proofs.Common.{◌≡◌, ℕ, List, [], ◌∷◌, Option, Some, None, if◌then◌else◌, refl, ap}
use Rattle.std.specs.Prelude.{nat_eq}
use Rattle.std.specs.Cmp.Lexicographic.{pointwise}
use Rattle.krb_fields.specs.declared.moment.Moment.{Moment}
use Rattle.principal_rows.specs.declared.limits.Limits.{Limits}
use Rattle.principals.specs.Change.{refusal, changed}
use Rattle.principals.specs.Database.{Principals}
use Rattle.principals.specs.declared.change.Change.{Change as PrincipalChange}
use Rattle.principals.specs.declared.change.ChangeFault.{ChangeFault}
use Rattle.replay.specs.declared.seen.Resumption.{Resumption}
use Rattle.replay.specs.declared.opening.Opening.TheVariants.{Restart as OpenedAgain}
use Rattle.kdc_state.specs.Resumed.{resumed_state}
use Rattle.kdc_state.specs.State.{opened_state, restarted, tidied_state}
use Rattle.kdc_state.specs.declared.state.State.{State}
use Rattle.kdc_core.specs.Answer.{answer, after_request}
use Rattle.kdc_core.specs.View.{view}
use Rattle.kdc_core.specs.declared.run.Event.{Event}
use Rattle.kdc_core.specs.declared.run.Event.TheVariants.{Request, Change, Replace, Tidy, Restart, Reopen, Resume}

-- only a request gets a reply
abbrev pub event_reply : State → Event → Option (List ℕ)
event_reply state (Request at random room request) = (answer (view state request) at random room request).reply
event_reply state (Change change) = None
event_reply state (Replace database) = None
event_reply state (Tidy at) = None
event_reply state (Restart at) = None
event_reply state (Reopen database limits at) = None
event_reply state (Resume database limits resumption) = None

abbrev pub unless_faulty : Option ChangeFault → State → State → State
unless_faulty (Some fault) old new = old
unless_faulty None old new = new

-- a refused change leaves the state unchanged
abbrev pub after_change : State → PrincipalChange → State
after_change state change =
    unless_faulty (refusal state.database change) state (record state { database = changed state.database change })

-- another database of the same realm replaces the state's; one of another realm changes nothing
abbrev pub replaced : State → Principals → State
replaced state database =
    if pointwise nat_eq database.realm state.database.realm then record state { database = database } else state

abbrev pub after_event : State → Event → State
after_event state (Request at random room request) = after_request state at random room request
after_event state (Change change) = after_change state change
after_event state (Replace database) = replaced state database
after_event state (Tidy at) = tidied_state state at
after_event state (Restart at) = restarted state at
after_event state (Reopen database limits at) = opened_state database limits (OpenedAgain at)
after_event state (Resume database limits resumption) = resumed_state database limits resumption

-- the reply to each event, in order
abbrev pub replies : State → List Event → List (Option (List ℕ))
replies state [] = []
replies state (event ∷ events) = event_reply state event ∷ replies (after_event state event) events

-- the final state
abbrev pub run : State → List Event → State
run state [] = state
run state (event ∷ events) = run (after_event state event) events

-- each kind of event on its own
pub request_alone : (state : State) (at : Moment) (random : List ℕ) (room : ℕ) (request : List ℕ)
    → (replies state (Request at random room request ∷ []) ≡ (answer (view state request) at random room request).reply
    ∷ []) × (run state (Request at random room request ∷ []) ≡ after_request state at random room request)
request_alone state at random room request = (refl, refl)

pub change_alone : (state : State) (change : PrincipalChange) → refusal state.database change ≡ None
    → run state (Change change ∷ []) ≡ record state { database = changed state.database change }
change_alone state change fits =
    ap (λ o. unless_faulty o state (record state { database = changed state.database change })) fits

pub tidy_alone : (state : State) (at : Moment) → run state (Tidy at ∷ []) ≡ tidied_state state at
tidy_alone state at = refl

pub restart_alone : (state : State) (at : Moment) → run state (Restart at ∷ []) ≡ restarted state at
restart_alone state at = refl

pub reopen_alone : (state : State) (database : Principals) (limits : Limits) (at : Moment)
    → run state (Reopen database limits at ∷ []) ≡ opened_state database limits (OpenedAgain at)
reopen_alone state database limits at = refl

pub resume_alone : (state : State) (database : Principals) (limits : Limits) (resumption : Resumption)
    → run state (Resume database limits resumption ∷ []) ≡ resumed_state database limits resumption
resume_alone state database limits resumption = refl

-- a restart reopens with the database and the limits of the state
pub restart_reopens : (state : State) (at : Moment)
    → restarted state at ≡ opened_state state.database state.limits (OpenedAgain at)
restart_reopens state at = refl
