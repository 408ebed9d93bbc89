-- A run of `serve`: rounds with one poll each.
use Rattle.std.specs.Prelude.{◌≡◌, ◌⊎◌, ◌≤◌, ◌^◌, ◌+◌, ◌-◌, ℕ, min, Bool, ⊤, List, [], ◌∷◌, ◌++◌, length, count_by}
use Rattle.std.specs.Prelude.{Option, Some, None}
use Rattle.std.specs.List.{flat_map}
use Rattle.std.specs.Option.{is_some, option_or}
use Rattle.krb_fields.specs.declared.moment.Moment.{Moment}
use Rattle.kdc_hub.specs.declared.event.Action.{Action}
use Rattle.kdc_hub.specs.declared.event.Action.TheVariants.{SendTo, Pass, Write, Close}
use Rattle.kdc_hub.specs.declared.event.CloseReason.TheVariants.{OutOfMemory}
use Rattle.kdc_hub.specs.declared.event.Event.{Event}
use Rattle.kdc_hub.specs.declared.event.Event.TheVariants.{Closed}
use Rattle.kdc_hub.specs.declared.server.Served.{Served}
use Rattle.kdc_hub.specs.declared.wires.WireCall.{WireCall}
use Rattle.kdc_hub.specs.declared.wires.WireCall.TheVariants.{Polled, Waited, Missed, Acted, Failed}
use Rattle.kdc_hub.specs.Hub.{HubState, event_connection}
use Rattle.kdc_hub.specs.Logged.{Entry, Stop, logged, step_of}
use Rattle.kdc_hub.specs.Wire.{Records, is_event, is_fault}

abbrev pub action_connection : Action → Option ℕ
action_connection (SendTo peer reply) = None
action_connection (Pass peer) = None
action_connection (Write conn reply) = Some conn
action_connection (Close conn reason) = Some conn

-- each of these actions was tried, in order: it succeeded or failed
unfoldable pub Tries : List Action → List WireCall → Type 0
Tries [] did = did ≡ []
Tries (action ∷ actions) did =
    (others : List WireCall) × ((did ≡ Acted action ∷ others) ⊎ (did ≡ Failed action ∷ others)) × Tries actions others

-- the connection that an act failed on
abbrev pub lost_by : WireCall → Option ℕ
lost_by (Polled at event) = None
lost_by (Waited at) = None
lost_by Missed = None
lost_by (Acted action) = None
lost_by (Failed action) = action_connection action

-- the connection of the first act that failed on one, which is lost
abbrev pub lost_in : List WireCall → Option ℕ
lost_in [] = None
lost_in (did ∷ others) = option_or (lost_by did) (lost_in others)

-- the poll failed, or no event came until a moment, or an event came: then each of its actions was tried, and after
-- memory ran out a Close
pub data Round : Type 0 where
  PollFailed : Round
  NothingCame : Moment → Round
  Took : Entry → List WireCall → List WireCall → Round

abbrev pub close_of : Option ℕ → List Action
close_of (Some conn) = Close conn OutOfMemory ∷ []
close_of None = []

-- after memory ran out the event's connection, if any, is closed
abbrev pub closing : Option Stop → Event → List Action
closing (Some stop) event = close_of (event_connection event)
closing None event = []

-- a lost connection ends
abbrev pub ending : Moment → Option ℕ → List Entry
ending at (Some conn) = record { at = at; event = Closed conn; stop = None } ∷ []
ending at None = []

-- the entries of a round
abbrev pub entries_of : Round → List Entry
entries_of PollFailed = []
entries_of (NothingCame at) = []
entries_of (Took entry acts close) = entry ∷ ending entry.at (lost_in acts) ++ ending entry.at (lost_in close)

-- what the Wire does in a round
abbrev pub did_in : Round → List WireCall
did_in PollFailed = Missed ∷ []
did_in (NothingCame at) = Waited at ∷ []
did_in (Took entry acts close) = Polled entry.at entry.event ∷ acts ++ close

-- when its poll returned, if it did not fail
abbrev pub moment_in : Round → Option Moment
moment_in PollFailed = None
moment_in (NothingCame at) = Some at
moment_in (Took entry acts close) = Some entry.at

-- when the last successful poll returned
abbrev pub last_moment : List Round → Option Moment
last_moment [] = None
last_moment (round ∷ rounds) = option_or (last_moment rounds) (moment_in round)

-- if memory runs out: one draw for each completed action, and perhaps one for the next
abbrev pub DrawsWithin : Option Stop → Type 0
DrawsWithin (Some stop) = (stop.done ≤ stop.draws) × (stop.draws ≤ stop.done + 1)
DrawsWithin None = ⊤

abbrev pub IsRound : HubState → Round → Type 0
IsRound hub PollFailed = ⊤
IsRound hub (NothingCame at) = ⊤
IsRound hub (Took entry acts close) =
    Tries (step_of hub entry).actions acts × Tries (closing entry.stop entry.event) close × DrawsWithin entry.stop

-- rounds that begin with this hub, each with the hub that the log of the earlier rounds leaves
unfoldable pub AreRounds : HubState → List Round → Type 0
AreRounds hub [] = ⊤
AreRounds hub (round ∷ rounds) = IsRound hub round × AreRounds (logged hub (entries_of round)).hub rounds

abbrev pub is_refused : Entry → Bool
is_refused entry = is_some entry.stop

-- how many calls failed; the count stops at the greatest 64-bit number
abbrev pub fault_total : List WireCall → ℕ
fault_total did = min (count_by is_fault did) (2 ^ 64 - 1)

-- A run of this many rounds: the Wire's record before and afterwards, the hub before and afterwards, and the counts.
pub record IsRun (before : Option (List WireCall)) (start : HubState) (n : ℕ) (served : Served)
    (after : Option (List WireCall))
    (new : HubState) : Type 0 where
  pub rounds : List Round
  pub each : AreRounds start rounds
  pub many : length rounds ≡ n
  -- the Wire did this and nothing else
  pub recorded : Records before (flat_map did_in rounds) after
  -- the polled events and the added ends are one run of the log
  pub hub : new ≡ (logged start (flat_map entries_of rounds)).hub
  pub events : served.events ≡ count_by is_event (flat_map did_in rounds)
  pub faults : served.faults ≡ fault_total (flat_map did_in rounds)
  pub refused : served.refused ≡ count_by is_refused (flat_map entries_of rounds)
  pub last : served.last ≡ last_moment rounds
