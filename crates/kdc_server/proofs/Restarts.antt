-- No authenticator gets two tickets from the processes of a server with a journal.
use Rattle.std.proofs.Common.{◌≡◌, ℕ, ℤ, pos, ◌-ℤ◌, List, [], ◌∷◌, ◌++◌, map, Option, Some, None, refl, sym, ap, subst, ◌∙◌, append_assoc}
use Rattle.std.specs.Prelude.{⊤}
use Rattle.std.specs.Int.{int_max}
use Rattle.std.specs.List.{AllByRecursion, flat_map}
use Rattle.std.proofs.lemmas.List.{append-nil}
use Rattle.krb_fields.specs.Name.{Components}
use Rattle.krb_fields.specs.Skew.{skew}
use Rattle.krb_fields.specs.declared.moment.Moment.{Moment}
use Rattle.replay.specs.Run.{OneForEach}
use Rattle.replay.specs.declared.opening.Opening.TheVariants.{Restart as RestartAt}
use Rattle.replay.specs.declared.seen.Resumption.{Resumption}
use Rattle.kdc_state.specs.declared.state.State.{State}
use Rattle.kdc_core.specs.NewlySeen as core
use Rattle.kdc_core.specs.NewlySeen.{Covers, opening_resumption, resumption_at}
use Rattle.kdc_core.specs.Run.{after_event, run}
use Rattle.kdc_core.specs.Tickets.{RestartsFollow, ResumesFollow, ResumesWithAll}
use Rattle.kdc_core.specs.declared.run.Event.{Event as KdcEvent}
use Rattle.kdc_core.specs.declared.run.Event.TheVariants.{Request, Change, Replace, Tidy, Restart, Reopen, Resume}
use Rattle.kdc_hub.specs.History.{CanBeResumed, IsOneRun, OneTicketSent, tickets_sent, Stepped, Turn, after_turn, after_turns, events_in, turn_events}
use Rattle.kdc_hub.specs.Hub.{HubState}
use Rattle.kdc_hub.specs.Logged.{Entry}
use Rattle.kdc_hub.specs.Rounds.{entries_of}
use Rattle.kdc_hub.proofs.Histories.{AreAsked, IsAsked, entry_asks}
use Rattle.kdc_hub.specs.Life.{ArePeriods, Period, replacement, tidying, turns_of}
use Rattle.kdc_hub.specs.declared.rows.Look.{Look}
use Rattle.kdc_hub.specs.declared.rows.Look.TheVariants.{Unchanged, Changed, Failed}
use Rattle.journal.specs.declared.decision.Start.{Start}
use Rattle.journal.specs.declared.decision.Start.TheVariants.{Resumes, Refuses}
use Rattle.kdc_server.specs.Handing.{HandsAllInLife}
use Rattle.kdc_server.specs.Processes.{AreProcesses, FindsAll, IsLate, MayStart, OneTicketThroughRestarts, OpensFrom, Process, beginning, beginning_by, history, known_after, known_at}
use Rattle.kdc_server.specs.Resuming.{known_before}

-- ---- within one process nothing resumes

abbrev IsNoResume : KdcEvent → Type 0
IsNoResume (Request at random room request) = ⊤
IsNoResume (Change change) = ⊤
IsNoResume (Replace database) = ⊤
IsNoResume (Tidy at) = ⊤
IsNoResume (Restart at) = ⊤
IsNoResume (Reopen database limits at) = ⊤
IsNoResume (Resume database limits resumption) = ⊥

abbrev AreNoResumes : List KdcEvent → Type 0
AreNoResumes = AllByRecursion IsNoResume

both_none : (events others : List KdcEvent) → AreNoResumes events → AreNoResumes others → AreNoResumes (events ++ others)
both_none [] others a b = b
both_none (event ∷ events) others a b = (a.0, both_none events others a.1 b)

-- requests resume nothing
asked_none : (events : List KdcEvent) → AreAsked events → AreNoResumes events
asked_none [] a = tt
asked_none (event ∷ events) a = (one_none event a.0, asked_none events a.1)
  where
    one_none : (event : KdcEvent) → IsAsked event → IsNoResume event
    one_none (Request at random room request) a = tt
    one_none (Change change) a = tt
    one_none (Replace database) a = tt
    one_none (Tidy at) a = tt
    one_none (Restart at) a = tt
    one_none (Reopen database limits at) a = tt
    one_none (Resume database limits resumption) a = a

-- turns with an event each; none resumes
events_both : (hub : HubState) (turns others : List Turn) → events_in hub (turns ++ others) ≡ events_in hub turns ++ events_in (after_turns hub turns) others
events_both hub [] others = refl
events_both hub (turn ∷ turns) others =
    ap (λ l. turn_events hub turn ++ l) (events_both (after_turn hub turn) turns others)
    ∙ sym (append_assoc (turn_events hub turn) (events_in (after_turn hub turn) turns) (events_in (after_turns (after_turn hub turn) turns) others))

turns_none : (hub : HubState) (turns others : List Turn) → AreNoResumes (events_in hub turns) → AreNoResumes (events_in (after_turns hub turns) others)
    → AreNoResumes (events_in hub (turns ++ others))
turns_none hub turns others a b = subst AreNoResumes (sym (events_both hub turns others)) (both_none (events_in hub turns) _ a b)

steps_none : (hub : HubState) (entries : List Entry) → AreNoResumes (events_in hub (map Stepped entries))
steps_none hub [] = tt
steps_none hub (entry ∷ entries) =
    both_none (turn_events hub (Stepped entry)) _ (asked_none _ (entry_asks hub entry.at entry.stop entry.event)) (steps_none (after_turn hub (Stepped entry)) entries)

look_none : (hub : HubState) (look : Look) → AreNoResumes (events_in hub (replacement look))
look_none hub Unchanged = tt
look_none hub (Changed database) = (tt, tt)
look_none hub Failed = tt

tidying_none : (hub : HubState) (tidied : Option Moment) → AreNoResumes (events_in hub (tidying tidied))
tidying_none hub (Some at) = (tt, tt)
tidying_none hub None = tt

period_none : (hub : HubState) (period : Period) → AreNoResumes (events_in hub (turns_of period))
period_none hub period =
    let steps = map Stepped (flat_map entries_of period.rounds) in
    let looked = after_turns hub (replacement period.look) in
    turns_none hub (replacement period.look) (steps ++ tidying period.tidied) (look_none hub period.look)
    (turns_none looked steps (tidying period.tidied) (steps_none looked (flat_map entries_of period.rounds)) (tidying_none (after_turns looked steps) period.tidied))

life_none : (hub : HubState) (periods : List Period) → AreNoResumes (events_in hub (flat_map turns_of periods))
life_none hub [] = tt
life_none hub (period ∷ periods) =
    turns_none hub (turns_of period) (flat_map turns_of periods) (period_none hub period) (life_none (after_turns hub (turns_of period)) periods)

-- ---- where a run resumes

no_resume : (state : State) (event : KdcEvent) → IsNoResume event → ResumesWithAll state event
no_resume state (Request at random room request) a = tt
no_resume state (Change change) a = tt
no_resume state (Replace database) a = tt
no_resume state (Tidy at) a = tt
no_resume state (Restart at) a = tt
no_resume state (Reopen database limits at) a = tt
no_resume state (Resume database limits resumption) a = absurd a

follows_none : (state : State) (events : List KdcEvent) → AreNoResumes events → ResumesFollow state events
follows_none state [] a = tt
follows_none state (event ∷ events) a = (no_resume state event a.0, follows_none (after_event state event) events a.1)

follows_both : (state : State) (events others : List KdcEvent) → ResumesFollow state events → ResumesFollow (run state events) others
    → ResumesFollow state (events ++ others)
follows_both state [] others a b = b
follows_both state (event ∷ events) others a b = (a.0, follows_both (after_event state event) events others a.1 b)

-- ---- processes

module _ (one_run : (start : HubState) (turns : List Turn) → IsOneRun start turns) (resumable : CanBeResumed) (begins : core.CanBeResumed)
    (hands : HandsAllInLife) where
  -- what a process knows at its end covers its state
  covers_at_end : (at : Moment) (hub : HubState) (r : Resumption) (periods : List Period) (now : ℤ) → Covers hub.issuing.kdc r → ArePeriods None hub periods
      → core.AreUpTo now (events_in hub (flat_map turns_of periods))
      → Covers (after_turns hub (flat_map turns_of periods)).issuing.kdc
      (record { floor = int_max r.floor (now -ℤ pos skew); seen = (known_after at r periods).seen })
  covers_at_end at hub r periods now covers lived up_to =
      subst (λ seen. Covers (after_turns hub (flat_map turns_of periods)).issuing.kdc (resumption_at now r seen))
      (sym (hands None hub periods at lived))
      (resumable hub (flat_map turns_of periods) r now covers up_to)

  module _ (began : Moment) (hub : HubState) (r : Resumption) (periods : List Period) (p : Process) (covers : Covers hub.issuing.kdc r) (lived : ArePeriods None hub periods) where
    abbrev ended : HubState
    ended = after_turns hub (flat_map turns_of periods)

    -- and so do the files that the next one finds
    covers_next : (found : Resumption) (check : Option (List ℕ)) → FindsAll (known_after began r periods) p.at (Resumes found check)
        → IsLate (Resumes found check) (events_in hub (flat_map turns_of periods)) → Covers ended.issuing.kdc found
    covers_next found check finds (latest, up_to, under) c stamp spent =
        finds.safe.knows finds.place finds.older finds.newer finds.beside found check finds.older_found finds.newer_found finds.beside_found (sym finds.decided) finds.late (latest -ℤ pos skew) under c stamp
        (covers_at_end began hub r periods latest covers lived up_to c stamp spent)

    next_with_all : (start : Start) → MayStart (known_after began r periods) p.at start → IsLate start (events_in hub (flat_map turns_of periods))
        → ResumesFollow ended.issuing.kdc (turn_events ended (beginning_by p start))
    next_with_all (Refuses doubt floor) may late = (tt, tt)
    next_with_all (Resumes found check) may late = (covers_next found check may late, tt)

  -- what the next process begins with covers its state
  next_covers : (hub : HubState) (p : Process) (start : Start) → OpensFrom p.at p.from start
      → Covers (after_turn hub (beginning_by p start)).issuing.kdc (known_before (RestartAt p.at) start)
  next_covers hub p (Refuses doubt floor) opens =
      subst (λ f. Covers (after_turn hub (beginning_by p (Refuses doubt floor))).issuing.kdc (record { floor = f; seen = [] })) opens
      (begins.opened p.database p.limits (RestartAt p.from))
  next_covers hub p (Resumes found check) opens = begins.resumed p.database p.limits found

  all_follow : (at : Moment) (hub : HubState) (r : Resumption) (periods : List Period) (processes : List Process) → Covers hub.issuing.kdc r
      → AreProcesses at hub r periods processes → ResumesFollow hub.issuing.kdc (events_in hub (history periods processes))
  all_follow at hub r periods [] covers lived = follows_none hub.issuing.kdc _ (life_none hub periods)
  all_follow at hub r periods (p ∷ ps) covers (lived, late, may, opens, rest) =
      let turns = flat_map turns_of periods in
      let ended = after_turns hub turns in
      let next = after_turn ended (beginning p) in
      let others = history p.periods ps in
      subst (ResumesFollow hub.issuing.kdc) (sym (events_both hub turns (beginning p ∷ others)))
      (follows_both hub.issuing.kdc (events_in hub turns) (turn_events ended (beginning p) ++ events_in next others)
      (follows_none hub.issuing.kdc (events_in hub turns) (life_none hub periods))
      (subst (λ (s : State). ResumesFollow s (turn_events ended (beginning p) ++ events_in next others)) (one_run hub turns).kdc_is
      (follows_both ended.issuing.kdc (turn_events ended (beginning p)) (events_in next others)
      (next_with_all at hub r periods p covers lived p.start may late)
      (subst (λ (s : State). ResumesFollow s (events_in next others)) (turn_run ended (beginning p))
      (all_follow p.at next (known_at p) p.periods ps (next_covers ended p p.start opens) rest)))))
    where
      -- a turn alone
      turn_run : (start : HubState) (turn : Turn) → (after_turn start turn).issuing.kdc ≡ run start.issuing.kdc (turn_events start turn)
      turn_run start turn = (one_run start (turn ∷ [])).kdc_is ∙ ap (run start.issuing.kdc) (append-nil (turn_events start turn))

  pub one_ticket_covered : OneTicketSent → (at : Moment) (hub : HubState) (r : Resumption) (periods : List Period) (processes : List Process)
      → Covers hub.issuing.kdc r → AreProcesses at hub r periods processes → RestartsFollow (events_in hub (history periods processes)) → (c : Components)
      → OneForEach (tickets_sent c hub (history periods processes))
  one_ticket_covered tickets at hub r periods processes covers are follow c =
      tickets hub (history periods processes) follow (all_follow at hub r periods processes covers are) c

  pub one_ticket_through_restarts : OneTicketSent → OneTicketThroughRestarts
  one_ticket_through_restarts tickets database limits opening at hub periods processes is processes_are follow c =
      tickets hub (history periods processes) follow
      (all_follow at hub (opening_resumption opening) periods processes
      (subst (λ (s : State). Covers s (opening_resumption opening)) (sym is) (begins.opened database limits opening)) processes_are)
      c
