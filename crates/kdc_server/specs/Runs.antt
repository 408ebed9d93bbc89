-- The runs of a server with a journal, one after the other over the files of that journal, and the tickets that they
-- send.
use Rattle.std.specs.Prelude.{◌≡◌, ◌⊎◌, ℤ, pos, ◌-ℤ◌, ◌≤ℤ◌, if◌then◌else◌, ⊤, true, false, List, [], ◌∷◌, Option}
use Rattle.std.specs.Prelude.{Some, None, ℕ}
use Rattle.std.specs.Prelude.{is_ok, is_some}
use Rattle.std.proofs.Common.{inl, inr}
use Rattle.std.specs.List.{AllByRecursion, flat_map}
use Rattle.std.specs.Option.{option_copied}
use Rattle.krb_fields.specs.Name.{Components}
use Rattle.krb_fields.specs.Skew.{skew}
use Rattle.krb_fields.specs.declared.moment.Moment.{Moment}
use Rattle.replay.specs.Run.{OneForEach}
use Rattle.replay.specs.declared.seen.Resumption.{Resumption}
use Rattle.kdc_core.specs.Tickets.{RestartsFollow}
use Rattle.kdc_hub.specs.History.{events_in, tickets_sent}
use Rattle.kdc_hub.specs.Hub.{HubState}
use Rattle.kdc_hub.specs.Life.{ArePeriods, Period, rounds_in, turns_of}
use Rattle.kdc_hub.specs.Rounds.{did_in}
use Rattle.kdc_hub.specs.declared.rows.Look.{Look}
use Rattle.kdc_hub.specs.declared.totals.Totals.{Totals}
use Rattle.kdc_hub.specs.declared.wires.WireCall.{WireCall}
use Rattle.journal.specs.Counting.{FollowsOver}
use Rattle.journal.specs.Life as journal
use Rattle.journal.specs.Life.{AreCalls, Call, JournalState, Past, result_of}
use Rattle.journal.specs.Life.Stage.{Ran}
use Rattle.journal.specs.World.{World, with_seal}
use Rattle.journal.specs.declared.decision.Start.{Start}
use Rattle.journal.specs.declared.decision.Start.TheVariants.{Resumes, Refuses}
use Rattle.kdc_files.specs.declared.journals.JournalBeginning.{JournalBeginning}
use Rattle.kdc_server.specs.Asking.{HasAsked}
use Rattle.kdc_server.specs.OnFiles.{HasBegunOver, HasFailedOver, HasOnlyBegun, HasRunOver}
use Rattle.kdc_server.specs.Processes.{IsLate, OpensFrom, Process, history, known_after}
use Rattle.kdc_server.specs.Resuming.{known_before}
use Rattle.kdc_server.specs.Server.{IsStarted}
use Rattle.kdc_server.specs.Starting.{HostDid, opened_by}
use Rattle.kdc_server.specs.declared.host.StartNews.{StartNews}
use Rattle.kdc_server.specs.declared.options.ServeOptions.{ServeOptions}

-- ---- one run

-- What a server with a journal did up to some act, and what then became of its journal: its options, its host's record
-- before and after the start, the hub, the moment and the floor of the start, what was announced, its life up to that
-- act, its journal then, and its journal in the end.
pub record ServerRun : Type 0 where
  pub options : ServeOptions
  pub before : Option (List HostDid)
  pub after : Option (List HostDid)
  pub hub : HubState
  pub at : Moment
  pub floor : ℤ
  pub news : StartNews
  pub periods : List Period
  pub kept : JournalState
  pub last : JournalState

-- these calls on a journal failed, and no other was made
abbrev pub FailsOnly : JournalState → JournalState → Type 0
FailsOnly old new = (calls : List Call) × AreCalls calls old new
    × AllByRecursion (λ call. is_ok (result_of call) ≡ false) calls

-- Over files that held this the server started, and left that. Up to some act it lived as a server lives. Of the last
-- event some actions may not have been tried: that is a round in which memory ran out behind those that were. Its
-- journal was asked what a wire asks, and had kept all. From then on each call on the journal failed, so nothing more
-- was sent; or none was made. So it is for a server that is killed, at any moment: a call that it did not bring to its
-- end counts as one that failed, as the calls on the files that it did not come to failed and did nothing. And so it is
-- for one whose journal could not keep all in the end, and for one that ended of itself.
pub record IsServerRun (r : ServerRun) (old new : World) : Type 0 where
  pub has_journal : is_some (option_copied r.options.journal) ≡ true
  pub started : IsStarted r.options r.before r.after r.hub r.at r.floor r.news
  pub begun : JournalState
  pub begins : HasBegunOver started.beginning true (Some old) begun
  pub lived : ArePeriods None r.hub r.periods
  pub asked : ∥ HasAsked begun (Some (flat_map did_in (rounds_in r.periods))) r.kept ∥₁
  pub whole : (r.periods ≡ []) ⊎ (is_some r.kept.tail ≡ true)
  pub later : FailsOnly r.kept r.last
  pub left : r.last.files ≡ Some new

-- Over files that held this `run_server` failed, with these options, and left that.
pub record IsFailed (options : ServeOptions) (old new : World) : Type 0 where
  pub has_journal : is_some (option_copied options.journal) ≡ true
  pub failed : HasFailedOver options (Some old) (Some new)

-- between two runs the files are sealed, or their seal is broken, and nothing else becomes of them
abbrev pub IsSealedOnly : World → World → Type 0
IsSealedOnly left found = (seal : List ℕ) × (found ≡ with_seal seal left)

-- What `run_server` returned is such a run, with its whole life, if its journal had kept all in the end.
abbrev pub RanIsRun : Type 0
RanIsRun = (options : ServeOptions) (before after : Option (List HostDid)) (news : StartNews) (tried : List WireCall)
    (looks : Option (List Look)) (totals : Totals) (hub : HubState) (last : JournalState) (old new : World)
    → is_some (option_copied options.journal) ≡ true
    → (ran : HasRunOver options before after news (Some tried) looks totals hub (Some old) last)
    → last.files ≡ Some new → is_some last.tail ≡ true
    → IsServerRun
    (record {
      options = options;
      before = before;
      after = ran.run.middle;
      hub = ran.run.hub;
      at = ran.run.at;
      floor = ran.run.floor;
      news = news;
      periods = ran.run.life.lived.periods;
      kept = last;
      last = last;
    })
    old new

-- ---- what has gone before a run

-- The server that served last: when it started, its hub then, what it knew then, and its life. And the second of the
-- last start whose journal began, less the skew.
pub record Since : Type 0 where
  pub at : Moment
  pub hub : HubState
  pub known : Resumption
  pub periods : List Period
  pub past : Past

abbrev pub past_at : Moment → Past
past_at at = record { low = at.sec -ℤ pos skew; are_lost = false }

module _ (r : ServerRun) (old new : World) (is : IsServerRun r old new) where
  abbrev pub beginning_of : JournalBeginning
  beginning_of = is.started.beginning

  abbrev pub known_of : Resumption
  known_of = known_before (opened_by r.options.is_first beginning_of.at) beginning_of.start

  abbrev pub since_run : Since
  since_run = record {
    at = beginning_of.at;
    hub = r.hub;
    known = known_of;
    periods = r.periods;
    past = past_at beginning_of.at;
  }

  -- the server, which opened by this moment if it refused to resume
  abbrev pub process_of : Moment → Process
  process_of from = record {
    database = is.started.ready.rows;
    limits = r.options.limits;
    at = beginning_of.at;
    from = from;
    start = beginning_of.start;
    random = r.hub.issuing.random;
    audits = r.hub.issuing.audits;
    periods = r.periods;
  }

-- what a start that failed did with its journal: no call, but that it may have begun
abbrev pub began_only : {options : ServeOptions} {old new : Option World} → HasOnlyBegun options old new
    → journal.Process
began_only begun = record {
  at = begun.beginning.at;
  newer = begun.beginning.journals.found.newer;
  start = begun.beginning.start;
  floor = begun.beginning.floor;
  has_begun = begun.ok;
  calls = [];
}

abbrev pub since_failed : {options : ServeOptions} {old new : Option World} → Since → HasFailedOver options old new
    → Since
since_failed s (inl finished) = s
since_failed s (inr begun) = record s { past = if begun.ok then past_at begun.beginning.at else s.past }

-- ---- clocks

-- A start that resumes has a floor at most the skew before the start before it, and before each event of the server
-- that served last, as where clocks don't go back. The floor of a start that refuses makes sure of it.
abbrev pub IsInTime : Since → Start → Type 0
IsInTime s (Refuses doubt floor) = ⊤
IsInTime s (Resumes found check) =
    (s.past.low ≤ℤ found.floor) × IsLate (Resumes found check) (events_in s.hub (flat_map turns_of s.periods))

-- The same of a start that failed after its journal began. One that refuses read the files, and its floor is not below
-- that with which the server began that served last; or its floor is above all that this one kept.
abbrev pub FailsInTime : {options : ServeOptions} {old new : Option World} → Since → HasFailedOver options old new
    → Type 0
FailsInTime s (inl finished) = ⊤
FailsInTime s (inr begun) = (read : World) → begun.begins.read ≡ Some read
    → FollowsOver (known_after s.at s.known s.periods) s.past false (Ran (began_only begun)) read

-- ---- runs

pub data Run : Type 0 where
  Serves : ServerRun → Run
  Fails : ServeOptions → Run

-- These runs follow, each over what the one before it left, and only the first run of all was asked to be the first. A
-- start that refuses opens by its own clock, or by a moment with the floor that the files ask for.
abbrev pub AreRuns : Since → World → List Run → Type 0
AreRuns s w [] = ⊤
AreRuns s w (Serves r ∷ runs) =
    (left found : World) × (is : IsServerRun r w left) × (r.options.is_first ≡ false)
    × (from : Moment) × OpensFrom (beginning_of r w left is).at from (beginning_of r w left is).start
    × IsInTime s (beginning_of r w left is).start
    × IsSealedOnly left found × AreRuns (since_run r w left is) found runs
AreRuns s w (Fails options ∷ runs) =
    (left found : World) × (is : IsFailed options w left) × FailsInTime s is.failed
    × IsSealedOnly left found × AreRuns (since_failed s is.failed) found runs

-- the servers that served
abbrev pub servers_in : (s : Since) (w : World) (runs : List Run) → AreRuns s w runs → List Process
servers_in s w [] are = []
servers_in s w (Serves r ∷ runs) (left, found, is, first, from, opens, time, sealed, are) =
    process_of r w left is from ∷ servers_in (since_run r w left is) found runs are
servers_in s w (Fails options ∷ runs) (left, found, is, time, sealed, are) =
    servers_in (since_failed s is.failed) found runs are

-- No authenticator gets two different tickets, whichever run sends them. No start is before the second of an earlier
-- request.
abbrev pub OneTicketOverRuns : Type 0
OneTicketOverRuns = (r : ServerRun) (w left found : World) (is : IsServerRun r w left) (runs : List Run)
    → IsSealedOnly left found → (are : AreRuns (since_run r w left is) found runs)
    → RestartsFollow (events_in r.hub (history r.periods (servers_in (since_run r w left is) found runs are)))
    → (c : Components)
    → OneForEach (tickets_sent c r.hub (history r.periods (servers_in (since_run r w left is) found runs are)))
