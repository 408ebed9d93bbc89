-- Runs of an acceptor: which authenticators it accepts, event by event.
use Rattle.std.specs.Prelude.{◌≡◌, ℕ, ℤ, pos, ◌-ℤ◌, ◌≤ℤ◌, ⊤, Bool, ◌&&◌, if◌then◌else◌, List, [], ◌∷◌, Option}
use Rattle.std.specs.Prelude.{Some, None, Result, Ok, Err}
use Rattle.std.specs.List.{AllByRecursion}
use Rattle.std.specs.Ordering.{eq_by_cmp}
use Rattle.cred_files.specs.declared.keytab_entry.KeytabEntry.{KeytabEntry}
use Rattle.krb_fields.specs.Name.{Components, name_cmp}
use Rattle.krb_fields.specs.declared.moment.Moment.{Moment}
use Rattle.replay.specs.Run.{collected, EachOnce}
use Rattle.replay.specs.Stamp.{Stamp}
use Rattle.ap_accept.specs.Accepts.{accepts, recorded_by, recording_clients, request_of, stamp_of}
use Rattle.ap_accept.specs.Clients.{hour}
use Rattle.ap_accept.specs.Named.{accepts_for, accepts_keyless, is_for_another}
use Rattle.ap_accept.specs.State.{renewed, with_clients, with_keytab}
use Rattle.ap_accept.specs.declared.accepted.Accepted.{Accepted}
use Rattle.ap_accept.specs.declared.fault.ApFault.{ApFault}
use Rattle.ap_accept.specs.declared.options.AcceptorOptions.{AcceptorOptions}
use Rattle.ap_accept.specs.declared.presented.Presented.{Presented}
use Rattle.ap_accept.specs.declared.state.State.{State}

-- a call: the moment, the random bytes, and the bytes of an AP-REQ
pub record Call : Type 0 where
  pub at : Moment
  pub confounder : List ℕ
  pub octets : List ℕ

-- a call; a call for one named service alone; a keytab that replaces the keys; or a later process with a keytab and
-- options, which resumes with what this one saved
pub data Event : Type 0 where
  Accept : Call → Event
  AcceptFor : Components → Call → Event
  Replace : List KeytabEntry → Event
  Resume : List KeytabEntry → AcceptorOptions → Event

abbrev pub after_call : State → Call → State
after_call state call = (accepts state call.at call.confounder call.octets).state

-- the state after a call for one named service alone, where `after` returns the state after a call for each service
abbrev pub after_named : (State → Call → State) → Components → State → Call → State
after_named after name state call =
    if is_for_another name (request_of call.octets)
    then (accepts_keyless state call.at call.confounder call.octets).state
    else after state call

-- the state after an event, where `after` returns the state after a call
abbrev pub after_event : (State → Call → State) → State → Event → State
after_event after state (Accept call) = after state call
after_event after state (AcceptFor name call) = after_named after name state call
after_event after state (Replace keytab) = with_keytab state keytab
after_event after state (Resume keytab options) = renewed state keytab options

-- what is presented is for this service, from this client
abbrev pub is_party : Components → Components → Presented → Bool
is_party service client p =
    eq_by_cmp name_cmp service p.service.components && eq_by_cmp name_cmp client p.ticket.cname.components

abbrev pub stamp_if : Stamp → Result Accepted ApFault → Option Stamp
stamp_if stamp (Ok accepted) = Some stamp
stamp_if stamp (Err fault) = None

-- the accepted authenticator's time, if it is from this client for this service
abbrev pub accepted_in : Components → Components → Option Presented → Result Accepted ApFault → Option Stamp
accepted_in service client (Some p) answer = if is_party service client p then stamp_if (stamp_of p) answer else None
accepted_in service client None answer = None

abbrev pub accepted_for : Components → Components → State → Call → Option Stamp
accepted_for service client state call =
    accepted_in service client (recorded_by state call.at.sec call.octets)
    (accepts state call.at call.confounder call.octets).answer

abbrev pub accepted_named : Components → Components → Components → State → Call → Option Stamp
accepted_named service client name state call =
    accepted_in service client (recorded_by state call.at.sec call.octets)
    (accepts_for name state call.at call.confounder call.octets).answer

abbrev pub accepted_at : Components → Components → State → Event → Option Stamp
accepted_at service client state (Accept call) = accepted_for service client state call
accepted_at service client state (AcceptFor name call) = accepted_named service client name state call
accepted_at service client state (Replace keytab) = None
accepted_at service client state (Resume keytab options) = None

-- No authenticator is accepted twice for the same ticket realm, service and client. This holds for every list of calls,
-- for each service or for one, at any moments, and with any keytabs that replace the keys and any processes that resume
-- between them. An authenticator is known by its ctime and cusec.
abbrev pub AcceptedOnce : Type 0
AcceptedOnce =
    (state : State) (realm : List ℕ) (sname client : Components) (events : List Event)
    → EachOnce (collected (after_event after_call) (accepted_at (realm ∷ sname) client) state events)

-- ---- an acceptor that drops nothing

-- the state with the authenticator recorded, and nothing dropped
abbrev pub keeping : State → ℤ → Presented → State
keeping state now p = with_clients state p.service.components (recording_clients state now p)

abbrev pub keeping_if : State → ℤ → Option Presented → State
keeping_if state now (Some p) = keeping state now p
keeping_if state now None = state

abbrev pub after_keeping : State → Call → State
after_keeping state call = keeping_if state call.at.sec (recorded_by state call.at.sec call.octets)

-- the answers to the calls, where `after` returns the state after each
abbrev pub answers : (State → Call → State) → State → List Event → List (Result Accepted ApFault)
answers after state [] = []
answers after state (Accept call ∷ events) =
    (accepts state call.at call.confounder call.octets).answer ∷ answers after (after state call) events
answers after state (AcceptFor name call ∷ events) =
    (accepts_for name state call.at call.confounder call.octets).answer
    ∷ answers after (after_named after name state call) events
answers after state (Replace keytab ∷ events) = answers after (with_keytab state keytab) events
answers after state (Resume keytab options ∷ events) = answers after (renewed state keytab options) events

-- a call is not before this second
abbrev pub IsFrom : ℤ → Event → Type 0
IsFrom second (Accept call) = second ≤ℤ call.at.sec
IsFrom second (AcceptFor name call) = second ≤ℤ call.at.sec
IsFrom second (Replace keytab) = ⊤
IsFrom second (Resume keytab options) = ⊤

-- no call is more than an hour earlier than a call before it
abbrev pub Steady : List Event → Type 0
Steady [] = ⊤
Steady (Accept call ∷ events) = AllByRecursion (IsFrom (call.at.sec -ℤ pos hour)) events × Steady events
Steady (AcceptFor name call ∷ events) = AllByRecursion (IsFrom (call.at.sec -ℤ pos hour)) events × Steady events
Steady (Replace keytab ∷ events) = Steady events
Steady (Resume keytab options ∷ events) = Steady events

-- For all steady calls, an acceptor that drops old entries answers as one that drops nothing.
abbrev pub DropsUnseen : Type 0
DropsUnseen =
    (state : State) (events : List Event) → Steady events
    → answers after_call state events ≡ answers after_keeping state events
