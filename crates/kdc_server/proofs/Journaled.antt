-- What processes did with the files of their journal is all that the law of restarts asks of these files.
use Rattle.std.proofs.Common.{◌≡◌, false, List, [], ◌∷◌, Option, ℕ, subst, sym}
use Rattle.krb_fields.specs.declared.moment.Moment.{Moment}
use Rattle.replay.specs.declared.seen.Resumption.{Resumption}
use Rattle.kdc_hub.specs.Hub.{HubState}
use Rattle.kdc_hub.specs.Life.{Period}
use Rattle.journal.specs.Counting.{FollowsThrough, ReadIsLater}
use Rattle.journal.specs.Decision.{Place, next_start, start_of}
use Rattle.journal.specs.Holding.{IsSafe}
use Rattle.journal.specs.declared.decision.Found.{Found}
use Rattle.journal.specs.declared.decision.Found.TheVariants.{Nothing, Broken, Whole}
use Rattle.journal.specs.Life.{IsLife, LivesHold, Stage, StagesFollow, past_after_all, past_of}
use Rattle.journal.specs.World.{World}
use Rattle.journal.specs.declared.decision.Start.{Start}
use Rattle.journal.specs.declared.decision.Start.TheVariants.{Resumes, Refuses}
use Rattle.kdc_server.specs.Journaled.{AreJournaled, Journaled, KeepsAll, MayResume, OnJournal, OneTicketThroughJournals, ResumesWith, processes_in}
use Rattle.kdc_server.specs.Processes.{AreProcesses, FindsAll, MayStart, OneTicketThroughRestarts, known_after}

-- a start that resumes found no turn that was cut
resumes_next : (place : Place) (older newer beside : Found) (found : Resumption) (check : Option (List ℕ))
    → Resumes found check ≡ start_of place older newer beside → Resumes found check ≡ next_start place older newer beside
resumes_next place older Nothing beside found check is = absurd cc
resumes_next place older (Broken lost) beside found check is = absurd cc
resumes_next place older (Whole j) beside found check is = is

module _ (laws : LivesHold) (counted : ReadIsLater) where
  -- the stages between two processes are a life in which no start forgets what the first one knew
  stages_follow : (at : Moment) (r : Resumption) (periods : List Period) (did : OnJournal) (w left found : World) (before : List Stage)
      → KeepsAll at r periods did w left → FollowsThrough (known_after at r periods) (past_of did) false before left found
      → IsLife before left found × StagesFollow (known_after at r periods) (past_of did) before
  stages_follow at r periods did w left found before keeps through =
      let both = counted did before w left found keeps.has_begun keeps.calls
      (subst (λ k. FollowsThrough k (past_of did) false before left found) (sym keeps.kept) through) in
      (both.0, subst (λ k. StagesFollow k (past_of did) before) keeps.kept both.1)

  module _ (at : Moment) (r : Resumption) (periods : List Period) (did : OnJournal) (w left found : World) (before : List Stage)
      (keeps : KeepsAll at r periods did w left) (life : IsLife before left found)
      (follows : StagesFollow (known_after at r periods) (past_of did) before) where
    finds_all : (next : Moment) (resumed : Resumption) (check : Option (List ℕ))
        → ResumesWith (past_after_all (past_of did) before) found next resumed check → FindsAll (known_after at r periods) next (Resumes resumed check)
    finds_all next resumed check finds =
        let left_safe : IsSafe (past_of did).low (known_after at r periods) left =
        subst (λ k. IsSafe (past_of did).low k left) keeps.kept (laws.safe did w left keeps.has_begun keeps.calls) in
        record {
          world = found;
          low = (past_after_all (past_of did) before).low;
          safe = laws.stays (known_after at r periods) (past_of did) before left found (λ here. left_safe) life follows finds.there;
          late = finds.late;
          place = finds.start.place;
          moment = finds.start.moment;
          older = finds.start.older;
          newer = finds.newer;
          beside = finds.start.beside;
          older_found = finds.start.older_found;
          newer_found = finds.start.newer_found;
          beside_found = finds.start.beside_found;
          decided = resumes_next finds.start.place finds.start.older finds.newer finds.start.beside resumed check finds.start.decided;
        }

    may_start : (next : Moment) (start : Start) → MayResume (past_after_all (past_of did) before) found next start
        → MayStart (known_after at r periods) next start
    may_start next (Refuses doubt floor) may = tt
    may_start next (Resumes resumed check) may = finds_all next resumed check may

  pub are_processes : (at : Moment) (hub : HubState) (r : Resumption) (periods : List Period) (did : OnJournal) (w : World) (ns : List Journaled)
      → AreJournaled at hub r periods did w ns → AreProcesses at hub r periods (processes_in ns)
  are_processes at hub r periods did w [] are = are
  are_processes at hub r periods did w (n ∷ ns) (left, found, lived, keeps, through, may, late, opens, rest) = (
    lived,
    late,
    (let both = stages_follow at r periods did w left found n.before keeps through in
        may_start at r periods did w left found n.before keeps both.0 both.1 n.process.at n.process.start may),
    opens,
    are_processes n.process.at _ _ n.process.periods n.did found ns rest,
  )

  pub one_ticket_through_journals : OneTicketThroughRestarts → OneTicketThroughJournals
  one_ticket_through_journals one database limits opening at hub periods did w ns opened are follows =
      one database limits opening at hub periods (processes_in ns) opened (are_processes at hub _ periods did w ns are) follows
