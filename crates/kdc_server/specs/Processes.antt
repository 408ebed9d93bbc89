-- The processes of a server with a journal, one after the other, and the tickets that they send.
use Rattle.std.specs.Prelude.{◌≡◌, ℤ, pos, ◌-ℤ◌, ◌≤ℤ◌, ⊤, Bool, List, [], ◌∷◌, ◌++◌, None}
use Rattle.std.specs.List.{flat_map}
use Rattle.rand_core.specs.Stream.{Stream}
use Rattle.krb_fields.specs.Name.{Components}
use Rattle.krb_fields.specs.Skew.{skew}
use Rattle.krb_fields.specs.declared.moment.Moment.{Moment}
use Rattle.principal_rows.specs.declared.limits.Limits.{Limits}
use Rattle.principals.specs.Database.{Principals}
use Rattle.replay.specs.Run.{OneForEach}
use Rattle.replay.specs.declared.opening.Opening.{Opening}
use Rattle.replay.specs.declared.opening.Opening.TheVariants.{Restart}
use Rattle.replay.specs.declared.seen.Resumption.{Resumption}
use Rattle.kdc_state.specs.State.{opened_state}
use Rattle.kdc_core.specs.NewlySeen.{AreUpTo, opening_resumption}
use Rattle.kdc_core.specs.Tickets.{RestartsFollow}
use Rattle.kdc_core.specs.declared.run.Event.{Event as KdcEvent}
use Rattle.kdc_hub.specs.History.{Reopened, Resumed, Turn, after_turn, after_turns, events_in, tickets_sent}
use Rattle.kdc_hub.specs.Hub.{HubState}
use Rattle.kdc_hub.specs.Rounds.{did_in}
use Rattle.kdc_hub.specs.Life.{ArePeriods, Period, rounds_in, turns_of}
use Rattle.journal.specs.Decision.{Place, next_start}
use Rattle.journal.specs.Holding.{IsFound, IsSafe}
use Rattle.journal.specs.World.{World}
use Rattle.journal.specs.declared.decision.Found.{Found}
use Rattle.journal.specs.declared.decision.Start.{Start}
use Rattle.journal.specs.declared.decision.Start.TheVariants.{Resumes, Refuses}
use Rattle.kdc_server.specs.Handing.{all_seen}
use Rattle.replay.specs.Opening.{opening_floor}
use Rattle.kdc_server.specs.Resuming.{known_before, raised_floor}
use Rattle.kdc_server.specs.Served.{handed_in}

-- A process that follows others: its rows, its limits, the moment of its start, the moment by which it opens if it
-- refuses, what it made of the journals, its random octets, whether it keeps audit records, and its life.
pub record Process : Type 0 where
  pub database : Principals
  pub limits : Limits
  pub at : Moment
  pub from : Moment
  pub start : Start
  pub random : Stream
  pub audits : Bool
  pub periods : List Period

-- how it begins
abbrev pub beginning_by : Process → Start → Turn
beginning_by p (Resumes r check) = Resumed p.database p.limits r p.random p.audits
beginning_by p (Refuses doubt floor) = Reopened p.database p.limits p.from p.random p.audits

abbrev pub beginning : Process → Turn
beginning p = beginning_by p p.start

-- It opens with the floor of its own clock, or with the one that the files ask for if that is above it.
abbrev pub OpensFrom : Moment → Moment → Start → Type 0
OpensFrom at from (Resumes r check) = ⊤
OpensFrom at from (Refuses doubt floor) = opening_floor (Restart from) ≡ raised_floor (Restart at) floor

-- what it begins with
abbrev pub known_at : Process → Resumption
known_at p = known_before (Restart p.at) p.start

-- what a process that started at this moment began with, and every authenticator that its journal was handed in its
-- life
abbrev pub known_after : Moment → Resumption → List Period → Resumption
known_after at r periods = record {
  floor = r.floor;
  seen = r.seen ++ all_seen (handed_in at (flat_map did_in (rounds_in periods)));
}

-- A start reads the files that the process before it left: no start resumes with them without what that one knew. Times
-- below `low` are too old for this one too. It makes of them what `next_start` says.
pub record FindsAll (r : Resumption) (at : Moment) (start : Start) : Type 0 where
  pub world : World
  pub low : ℤ
  pub safe : IsSafe low r world
  pub late : low ≤ℤ (known_before (Restart at) start).floor
  pub place : Place
  pub moment : place.at ≡ at
  pub older : Found
  pub newer : Found
  pub beside : Found
  pub older_found : IsFound world.older older
  pub newer_found : IsFound world.newer newer
  pub beside_found : IsFound world.beside beside
  pub decided : start ≡ next_start place older newer beside

-- A start that resumes has a floor that is at most the skew before each event of the process before it. So its clock
-- may be behind that one's, where its floor makes up for it.
abbrev pub IsLate : Start → List KdcEvent → Type 0
IsLate (Refuses doubt floor) events = ⊤
IsLate (Resumes found check) events = (latest : ℤ) × AreUpTo latest events × ((latest -ℤ pos skew) ≤ℤ found.floor)

-- A start may refuse for any reason, and it is no matter then what the journals hold. It resumes only with journals
-- that hold all.
abbrev pub MayStart : Resumption → Moment → Start → Type 0
MayStart r at (Refuses doubt floor) = ⊤
MayStart r at (Resumes found check) = FindsAll r at (Resumes found check)

-- A process that started at this moment with this hub, knew this and lived so, and those that follow it.
abbrev pub AreProcesses : Moment → HubState → Resumption → List Period → List Process → Type 0
AreProcesses at hub r periods [] = ArePeriods None hub periods
AreProcesses at hub r periods (p ∷ ps) =
    ArePeriods None hub periods
    × IsLate p.start (events_in hub (flat_map turns_of periods))
    × MayStart (known_after at r periods) p.at p.start
    × OpensFrom p.at p.from p.start
    × AreProcesses p.at (after_turn (after_turns hub (flat_map turns_of periods)) (beginning p))
    (known_at p) p.periods ps

-- the history of all of them
abbrev pub history : List Period → List Process → List Turn
history periods [] = flat_map turns_of periods
history periods (p ∷ ps) = flat_map turns_of periods ++ beginning p ∷ history p.periods ps

-- No authenticator gets two different tickets, whichever process sends them: a start that can't resume refuses what may
-- have come before, and one that resumes knows it. No start is before the second of an earlier request.
abbrev pub OneTicketThroughRestarts : Type 0
OneTicketThroughRestarts = (database : Principals) (limits : Limits) (opening : Opening) (at : Moment) (hub : HubState)
    (periods : List Period) (processes : List Process)
    → hub.issuing.kdc ≡ opened_state database limits opening
    → AreProcesses at hub (opening_resumption opening) periods processes
    → RestartsFollow (events_in hub (history periods processes)) → (c : Components)
    → OneForEach (tickets_sent c hub (history periods processes))
