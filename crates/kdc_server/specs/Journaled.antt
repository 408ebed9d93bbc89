-- The processes of a server, what each did with the files of its journal, and the tickets that they send.
use Rattle.std.specs.Prelude.{◌≡◌, ◌≤ℤ◌, ⊤, true, false, List, [], ◌∷◌, map, Option, None, ℕ}
use Rattle.std.specs.List.{flat_map}
use Rattle.krb_fields.specs.Name.{Components}
use Rattle.krb_fields.specs.declared.moment.Moment.{Moment}
use Rattle.principal_rows.specs.declared.limits.Limits.{Limits}
use Rattle.principals.specs.Database.{Principals}
use Rattle.replay.specs.Run.{OneForEach}
use Rattle.replay.specs.declared.opening.Opening.{Opening}
use Rattle.replay.specs.declared.seen.Resumption.{Resumption}
use Rattle.kdc_state.specs.State.{opened_state}
use Rattle.kdc_core.specs.NewlySeen.{opening_resumption}
use Rattle.kdc_core.specs.Tickets.{RestartsFollow}
use Rattle.kdc_hub.specs.History.{after_turn, after_turns, events_in, tickets_sent}
use Rattle.kdc_hub.specs.Hub.{HubState}
use Rattle.kdc_hub.specs.Life.{ArePeriods, Period, turns_of}
use Rattle.journal.specs.Holding.{IsStart}
use Rattle.journal.specs.Life as journal
use Rattle.journal.specs.Counting.{FollowsThrough}
use Rattle.journal.specs.Life.{IsProcess, Past, Stage, kept_by_process, past_after_all, past_of}
use Rattle.journal.specs.World.{World}
use Rattle.journal.specs.declared.decision.Found.{Found}
use Rattle.journal.specs.declared.decision.Start.{Start}
use Rattle.journal.specs.declared.decision.Start.TheVariants.{Resumes, Refuses}
use Rattle.kdc_server.specs.Processes.{IsLate, OpensFrom, Process, beginning, history, known_after, known_at}

-- what a process did with its journal
abbrev pub OnJournal : Type 0
OnJournal = journal.Process

-- A process that started at this moment, knew this and lived so: its calls on the journal kept what it knew and all
-- that it handed over. They left these files.
pub record KeepsAll (at : Moment) (r : Resumption) (periods : List Period) (did : OnJournal)
    (old new : World) : Type 0 where
  pub has_begun : did.has_begun ≡ true
  pub moment : did.at ≡ at
  pub calls : IsProcess did old new
  pub kept : kept_by_process did ≡ known_after at r periods

-- A process, what it did with its journal, and what happened to the files between it and the process before.
pub record Journaled : Type 0 where
  pub process : Process
  pub did : OnJournal
  pub before : List Stage

-- A start that resumes does so with these files, which aren't lost. Its floor is at most the skew before the moment of
-- the start before it.
pub record ResumesWith (past : Past) (w : World) (at : Moment) (found : Resumption)
    (check : Option (List ℕ)) : Type 0 where
  pub there : past.are_lost ≡ false
  pub late : past.low ≤ℤ found.floor
  pub newer : Found
  pub start : IsStart at found.floor newer (Resumes found check) w

abbrev pub MayResume : Past → World → Moment → Start → Type 0
MayResume past w at (Refuses doubt floor) = ⊤
MayResume past w at (Resumes found check) = ResumesWith past w at found check

-- As `AreProcesses`, but of the files is said only what was done with them: the first process finds these.
abbrev pub AreJournaled : Moment → HubState → Resumption → List Period → OnJournal → World → List Journaled → Type 0
AreJournaled at hub r periods did w [] = ArePeriods None hub periods
AreJournaled at hub r periods did w (n ∷ ns) =
    (left found : World)
    × ArePeriods None hub periods
    × KeepsAll at r periods did w left
    × FollowsThrough (known_after at r periods) (past_of did) false n.before left found
    × MayResume (past_after_all (past_of did) n.before) found n.process.at n.process.start
    × IsLate n.process.start (events_in hub (flat_map turns_of periods))
    × OpensFrom n.process.at n.process.from n.process.start
    × AreJournaled n.process.at (after_turn (after_turns hub (flat_map turns_of periods)) (beginning n.process))
    (known_at n.process)
    n.process.periods n.did found ns

abbrev pub processes_in : List Journaled → List Process
processes_in ns = map (λ n. n.process) ns

-- No authenticator gets two different tickets, whichever process sends them.
abbrev pub OneTicketThroughJournals : Type 0
OneTicketThroughJournals = (database : Principals) (limits : Limits) (opening : Opening) (at : Moment) (hub : HubState)
    (periods : List Period) (did : OnJournal) (w : World) (ns : List Journaled)
    → hub.issuing.kdc ≡ opened_state database limits opening
    → AreJournaled at hub (opening_resumption opening) periods did w ns
    → RestartsFollow (events_in hub (history periods (processes_in ns))) → (c : Components)
    → OneForEach (tickets_sent c hub (history periods (processes_in ns)))
