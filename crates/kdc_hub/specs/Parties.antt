-- What a server sends to a peer, and on a connection.
use Rattle.std.specs.Prelude.{◌≡◌, ℕ, Bool, ◌&&◌, not, nat_lt, List, [], ◌∷◌, ◌++◌, take, Option, Some, None}
use Rattle.std.specs.Prelude.{if◌then◌else◌}
use Rattle.std.specs.FinMap as map
use Rattle.std.specs.List.{flat_map, list_all}
use Rattle.std.specs.Option.{is_some}
use Rattle.framing.specs.declared.fault.FrameFault.{FrameFault}
use Rattle.framing.specs.Splitting.{Splitting, fed, handed_out}
use Rattle.krb_fields.specs.declared.moment.Moment.{Moment}
use Rattle.krb_fields.specs.declared.code.Code.TheVariants.{KrbErrFieldToolong}
use Rattle.kdc_state.specs.declared.state.State.{State}
use Rattle.kdc_core.specs.Answer.{error_octets}
use Rattle.kdc_core.specs.Run.{replies, run}
use Rattle.kdc_hub.specs.declared.event.Action.{Action}
use Rattle.kdc_hub.specs.declared.event.Action.TheVariants.{SendTo, Pass, Write, Close}
use Rattle.kdc_hub.specs.declared.event.CloseReason.{CloseReason}
use Rattle.kdc_hub.specs.declared.event.CloseReason.TheVariants.{NoRequest, BadLength, Full}
use Rattle.kdc_hub.specs.declared.event.Event.{Event}
use Rattle.kdc_hub.specs.declared.event.Event.TheVariants.{Datagram, Opened, Bytes, Closed}
use Rattle.kdc_hub.specs.declared.event.Peer.{Peer}
use Rattle.kdc_hub.specs.declared.wires.WireCall.{WireCall}
use Rattle.kdc_hub.specs.declared.wires.WireCall.TheVariants.{Polled, Waited, Missed, Acted, Failed}
use Rattle.kdc_hub.specs.Hub.{HubState, most_connections}
use Rattle.kdc_hub.specs.Logged.{Entry, Stop, logged, step_of}
use Rattle.kdc_hub.specs.Rounds.{AreRounds, PollFailed, NothingCame, Round, Took, closing, did_in, entries_of}
use Rattle.kdc_hub.specs.History.{Turn, Stepped, Replaced, Tidied, Reopened, Resumed, after_turn, event_requests}
use Rattle.kdc_hub.specs.History.{requests_of, turn_events}

-- a peer of datagrams, which is an address at a socket of the server; or a connection
pub data Party : Type 0 where
  AtPeer : Peer → Party
  OnConnection : ℕ → Party

-- Some of them, by a test: one alone, for example, or all peers at an address.
abbrev pub Parties : Type 0
Parties = Party → Bool

-- whom an event comes from
abbrev pub sender : Event → Party
sender (Datagram peer request) = AtPeer peer
sender (Opened conn) = OnConnection conn
sender (Bytes conn piece) = OnConnection conn
sender (Closed conn) = OnConnection conn

-- whom an action is for
abbrev pub receiver : Action → Party
receiver (SendTo peer reply) = AtPeer peer
receiver (Pass peer) = AtPeer peer
receiver (Write conn reply) = OnConnection conn
receiver (Close conn reason) = OnConnection conn

-- a message, or the end of a connection
pub data Sent : Type 0 where
  Message : List ℕ → Sent
  Ended : CloseReason → Sent

abbrev pub sent_by : Action → List Sent
sent_by (SendTo peer reply) = Message reply.message ∷ []
sent_by (Pass peer) = []
sent_by (Write conn reply) = Message reply.message ∷ []
sent_by (Close conn reason) = Ended reason ∷ []

-- what actions send to these, in order
abbrev pub gets : Parties → List Action → List Sent
gets these [] = []
gets these (action ∷ actions) =
    if these (receiver action) then sent_by action ++ gets these actions else gets these actions

-- ---- what is due to them

-- a request gets its reply. On a connection one without a reply gets the end
abbrev pub due_to_request : Event → Option (List ℕ) → List Sent
due_to_request event (Some octets) = Message octets ∷ []
due_to_request (Datagram peer request) None = []
due_to_request (Opened conn) None = []
due_to_request (Bytes conn piece) None = Ended NoRequest ∷ []
due_to_request (Closed conn) None = []

-- a length that is too large gets an error, and the end
abbrev pub due_to_fault : State → Moment → Option FrameFault → List Sent
due_to_fault state at (Some fault) = Message (error_octets state at KrbErrFieldToolong) ∷ Ended BadLength ∷ []
due_to_fault state at None = []

-- the bad length after a stream's messages, if there is one
abbrev pub fault_after : List ℕ → Option Splitting → Option FrameFault
fault_after piece (Some s) = (handed_out (fed s piece)).fault
fault_after piece None = None

-- a new connection, with as many open as the server allows
abbrev pub has_no_place : HubState → ℕ → Bool
has_no_place hub conn =
    not (map.contains_key hub.connections conn) && not (nat_lt (map.len hub.connections) most_connections)

-- what is due after these replies to an event's requests, with this state behind them
abbrev pub due_after : List (Option (List ℕ)) → State → HubState → Moment → Event → List Sent
due_after replied state hub at (Datagram peer request) = []
due_after replied state hub at (Opened conn) = if has_no_place hub conn then Ended Full ∷ [] else []
due_after replied state hub at (Bytes conn piece) =
    if list_all is_some replied then due_to_fault state at (fault_after piece (map.get hub.connections conn)) else []
due_after replied state hub at (Closed conn) = []

-- all that is due for an event, where the run has come to this state
abbrev pub due_to_event : State → HubState → Moment → Event → List Sent
due_to_event state hub at event =
    flat_map (due_to_request event) (replies state (event_requests hub at event))
    ++ due_after (replies state (event_requests hub at event)) (run state (event_requests hub at event)) hub at event

-- if memory runs out, a peer gets nothing, and a connection the first part
abbrev pub part_due : ℕ → Event → List Sent → List Sent
part_due done (Datagram peer request) due = []
part_due done (Opened conn) due = []
part_due done (Bytes conn piece) due = take done due
part_due done (Closed conn) due = []

abbrev pub due_by : Option Stop → State → HubState → Moment → Event → List Sent
due_by None state hub at event = due_to_event state hub at event
due_by (Some stop) state hub at event = part_due stop.done event (due_to_event state hub at event)

abbrev pub due_to_entry : Parties → State → HubState → Entry → List Sent
due_to_entry these state hub entry =
    if these (sender entry.event) then due_by entry.stop state hub entry.at entry.event else []

abbrev pub due_to_turn : Parties → State → HubState → Turn → List Sent
due_to_turn these state hub (Stepped entry) = due_to_entry these state hub entry
due_to_turn these state hub (Replaced database) = []
due_to_turn these state hub (Tidied at) = []
due_to_turn these state hub (Reopened database limits at random kept) = []
due_to_turn these state hub (Resumed database limits resumption random kept) = []

-- What is due to these over a history: each of their own requests gets its reply in the one run. The state goes along
-- that run, over everyone's requests.
abbrev pub due_in : Parties → State → HubState → List Turn → List Sent
due_in these state hub [] = []
due_in these state hub (turn ∷ turns) =
    due_to_turn these state hub turn
    ++ due_in these (run state (turn_events hub turn)) (after_turn hub turn) turns

-- ---- the law

abbrev pub turn_actions : HubState → Turn → List Action
turn_actions hub (Stepped entry) = (step_of hub entry).actions
turn_actions hub (Replaced database) = []
turn_actions hub (Tidied at) = []
turn_actions hub (Reopened database limits at random kept) = []
turn_actions hub (Resumed database limits resumption random kept) = []

abbrev pub actions_in : HubState → List Turn → List Action
actions_in hub [] = []
actions_in hub (turn ∷ turns) = turn_actions hub turn ++ actions_in (after_turn hub turn) turns

-- What is sent to these is what is due to them, in order: the replies of the one run to their own requests, and the
-- ends of their own connections. They get nothing of another's.
abbrev pub GetsItsOwn : Type 0
GetsItsOwn = (these : Parties) (start : HubState) (turns : List Turn)
    → gets these (actions_in start turns) ≡ due_in these start.issuing.kdc start turns

-- ---- the same over what a Wire records

abbrev pub tried_by : WireCall → List Action
tried_by (Polled at event) = []
tried_by (Waited at) = []
tried_by Missed = []
tried_by (Acted action) = action ∷ []
tried_by (Failed action) = action ∷ []

-- the acts in a record, those that failed too
abbrev pub tried : List WireCall → List Action
tried did = flat_map tried_by did

-- after memory ran out a connection is closed
abbrev pub due_to_round : Parties → State → HubState → Round → List Sent
due_to_round these state hub PollFailed = []
due_to_round these state hub (NothingCame at) = []
due_to_round these state hub (Took entry acts close) =
    due_to_entry these state hub entry ++ gets these (closing entry.stop entry.event)

-- the state of the run after a round
abbrev pub after_round : State → HubState → Round → State
after_round state hub PollFailed = state
after_round state hub (NothingCame at) = state
after_round state hub (Took entry acts close) = run state (requests_of hub entry)

abbrev pub due_to_rounds : Parties → State → HubState → List Round → List Sent
due_to_rounds these state hub [] = []
due_to_rounds these state hub (round ∷ rounds) =
    due_to_round these state hub round
    ++ due_to_rounds these (after_round state hub round) (logged hub (entries_of round)).hub rounds

-- What a Wire records as tried for these is what is due to them, in order.
abbrev pub RecordsItsOwn : Type 0
RecordsItsOwn = (these : Parties) (start : HubState) (rounds : List Round) → AreRounds start rounds
    → gets these (tried (flat_map did_in rounds)) ≡ due_to_rounds these start.issuing.kdc start rounds
