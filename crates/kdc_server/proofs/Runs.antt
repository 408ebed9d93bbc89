-- What the runs of a server did with the files of their journal is what the law of restarts asks of these files.
use Rattle.std.proofs.Common.{◌≡◌, inl, inr, ℕ, ℤ, Bool, true, false, List, [], ◌∷◌, ◌++◌, Option, Some, None, Result, Ok, Err, refl, sym, ap, subst, ◌∙◌, if◌then◌else◌}
use Rattle.std.proofs.Math.Logic.{∥∥₁_elim, ∥∥₁_map, ∥∥₁_prop}
use Rattle.std.specs.Prelude.{◌⊎◌, ⊤, IfSome, is_some}
use Rattle.std.specs.Coded.{coded_ℕ, coded_list}
use base.Stored.{Coded-set}
use Rattle.std.specs.FinMap as finmap
use Rattle.std.specs.List.{AllByRecursion, flat_map}
use Rattle.std.specs.Option.{option_copied}
use Rattle.std.specs.Result.{is_ok}
use Rattle.std.proofs.lemmas.List.{append-nil}
use Rattle.std.specs.Ordering.{nat_cmp}
use Rattle.framing.specs.Splitting.{Splitting}
use Rattle.krb_fields.specs.Name.{Components}
use Rattle.krb_fields.specs.declared.moment.Moment.{Moment}
use Rattle.principal_rows.specs.declared.limits.Limits.{Limits}
use Rattle.principals.specs.Database.{Principals}
use Rattle.replay.specs.Run.{OneForEach, with_any}
use Rattle.replay.specs.Stamp.{Stamp}
use Rattle.replay.specs.declared.opening.Opening.{Opening}
use Rattle.replay.specs.declared.seen.Resumption.{Resumption}
use Rattle.replay.specs.declared.seen.Seen.{Seen}
use Rattle.kdc_state.specs.declared.state.State.{State}
use Rattle.kdc_core.specs.NewlySeen as core
use Rattle.kdc_core.specs.NewlySeen.{Covers}
use Rattle.kdc_core.specs.Tickets.{RestartsFollow}
use Rattle.kdc_hub.specs.History.{after_turn, after_turns, events_in, tickets_sent}
use Rattle.kdc_hub.specs.Hub.{HubState}
use Rattle.kdc_hub.specs.Life.{Period, rounds_in, turns_of}
use Rattle.kdc_hub.specs.Rounds.{did_in}
use Rattle.kdc_hub.specs.Wire.{Records}
use Rattle.kdc_hub.specs.declared.event.Action.{Action}
use Rattle.kdc_hub.specs.declared.event.Action.TheVariants.{SendTo, Pass, Write, Close}
use Rattle.kdc_hub.specs.declared.wires.WireCall.{WireCall}
use Rattle.kdc_hub.specs.declared.wires.WireCall.TheVariants.{Polled, Waited, Missed, Acted, Failed}
use Rattle.request_log.specs.Log.{moment_after}
use Rattle.journal.specs.Counting.{FollowsOver, FollowsThrough, ReadIsLater, lost_by}
use Rattle.journal.specs.Decision.{start_of}
use Rattle.journal.specs.Finding.{AreFound, MayFinish}
use Rattle.journal.specs.Holding.{IsStart, known_by}
use Rattle.journal.specs.Life as journal
use Rattle.journal.specs.Appending.{kept_by}
use Rattle.journal.specs.Life.{all_after, AreCalls, Call, IsCall, IsProcess, IsStage, JournalState, LivesHold, Past, Stage, kept_in, past_after, past_after_all, result_of, seen_in}
use Rattle.journal.specs.Life.Call.{Keep, Mend}
use Rattle.journal.specs.Life.Stage.{Ran, Finished, Sealed}
use Rattle.journal.specs.World.{Leaves, SameSeal, World}
use Rattle.journal.specs.declared.decision.Start.{Start}
use Rattle.journal.specs.declared.decision.Start.TheVariants.{Resumes, Refuses}
use Rattle.journal.specs.declared.journal_file.NotKept.{NotKept}
use Rattle.kdc_files.specs.Journal.{Handed, handed_at, handed_by}
use Rattle.kdc_files.specs.Keeping.{AsksFor, BeginsOver, IsAskedFor, before_start}
use Rattle.kdc_files.specs.Recorded.{IsNew}
use Rattle.kdc_files.specs.declared.journals.JournalBeginning.{JournalBeginning}
use Rattle.kdc_files.specs.declared.journals.Journals.{Journals}
use Rattle.kdc_server.specs.Asking.{AskAll, Asks, HasAsked}
use Rattle.kdc_server.specs.Handing.{all_seen}
use Rattle.kdc_server.specs.Journaled.{AreJournaled, Journaled, KeepsAll, MayResume, OnJournal, processes_in}
use Rattle.kdc_server.specs.OnFiles.{HasFailedOver}
use Rattle.kdc_server.specs.Processes.{AreProcesses, IsLate, OpensFrom, Process, beginning, beginning_by, history, known_after, known_at}
use Rattle.kdc_server.specs.Resuming.{AreAt, IsDecided, known_before, raised_floor, started_state, with_removed}
use Rattle.kdc_server.specs.Runs.{AreRuns, FailsInTime, IsFailed, IsInTime, IsSealedOnly, IsServerRun, OneTicketOverRuns, RanIsRun, Run, ServerRun, Since, began_only, beginning_of, known_of, past_at, process_of, servers_in, since_failed, since_run}
use Rattle.kdc_server.specs.Runs.Run.{Serves, Fails}
use Rattle.kdc_server.specs.Served.{handed_in, handed_of}
use Rattle.kdc_server.specs.Starting.{opened_by}
use Rattle.kdc_server.specs.declared.options.ServeOptions.{ServeOptions}
use Rattle.kdc_server.proofs.Journaled.{are_processes}

-- ---- the calls of a life

seen_again : (at : Moment) (l : List Seen) → all_seen (handed_at at l) ≡ l
seen_again at [] = refl
seen_again at (seen ∷ l) = ap (λ r. seen ∷ r) (seen_again at l)

seen_both : (handed others : List Handed) → all_seen (handed ++ others) ≡ all_seen handed ++ all_seen others
seen_both [] others = refl
seen_both (h ∷ handed) others = ap (λ r. h.seen ∷ r) (seen_both handed others)

calls_both : (calls others : List Call) → seen_in (calls ++ others) ≡ seen_in calls ++ seen_in others
calls_both [] others = refl
calls_both (Keep seen result ∷ calls) others = ap (λ l. seen ∷ l) (calls_both calls others)
calls_both (Mend result ∷ calls) others = calls_both calls others

-- these calls hand this over
pub record Calls (seen : List Seen) (old new : JournalState) : Type 0 where
  pub calls : List Call
  pub are : AreCalls calls old new
  pub hand : seen_in calls ≡ seen

no_calls : (old new : JournalState) → new ≡ old → Calls [] old new
no_calls old new same = record { calls = []; are = same; hand = refl }

one_call : (seen : Option Seen) (is_kept : Bool) (old new : JournalState) → IsAskedFor seen is_kept old new → Calls (with_any seen []) old new
one_call (Some seen) is_kept old new asked = record { calls = Keep seen asked.result ∷ []; are = (new, asked.call, refl); hand = refl }
one_call None is_kept old new asked = record { calls = Mend asked.result ∷ []; are = (new, asked.call, refl); hand = refl }

calls_on : (calls others : List Call) (old next new : JournalState) → AreCalls calls old next → AreCalls others next new → AreCalls (calls ++ others) old new
calls_on [] others old next new same rest = subst (λ s. AreCalls others s new) same rest
calls_on (call ∷ calls) others old next new (mid, is, more) rest = (mid, is, calls_on calls others mid next new more rest)

then_calls : (seen others : List Seen) (old next new : JournalState) → Calls seen old next → Calls others next new → Calls (seen ++ others) old new
then_calls seen others old next new one rest = record {
  calls = one.calls ++ rest.calls;
  are = calls_on one.calls rest.calls old next new one.are rest.are;
  hand = calls_both one.calls rest.calls ∙ ap (λ l. l ++ seen_in rest.calls) one.hand ∙ ap (λ l. seen ++ l) rest.hand;
}

for_action : (at : Moment) (action : Action) (is_kept : Bool) (old new : JournalState) → AsksFor action is_kept old new
    → Calls (all_seen (handed_by at action)) old new
for_action at (SendTo peer reply) is_kept old new asks =
    subst (λ l. Calls l old new) (sym (seen_again at (with_any reply.newly_seen []))) (one_call reply.newly_seen is_kept old new asks)
for_action at (Pass peer) is_kept old new asks = no_calls old new asks
for_action at (Write conn reply) is_kept old new asks =
    subst (λ l. Calls l old new) (sym (seen_again at (with_any reply.newly_seen []))) (one_call reply.newly_seen is_kept old new asks)
for_action at (Close conn reason) is_kept old new asks = no_calls old new asks

for_one : (at : Moment) (did : WireCall) (old new : JournalState) → Asks did old new → Calls (all_seen (handed_of at did)) old new
for_one at (Polled came event) old new asks = no_calls old new asks
for_one at (Waited now) old new asks = no_calls old new asks
for_one at Missed old new asks = no_calls old new asks
for_one at (Acted action) old new asks = for_action at action true old new asks
for_one at (Failed action) old new (is_kept, asks) = for_action at action is_kept old new asks

for_all : (at : Moment) (did : List WireCall) (old new : JournalState) → AskAll did old new → Calls (all_seen (handed_in at did)) old new
for_all at [] old new same = no_calls old new same
for_all at (one ∷ did) old new (mid, asks, rest) =
    subst (λ l. Calls l old new) (sym (seen_both (handed_of at one) (handed_in (moment_after at one) did)))
    (then_calls _ _ old mid new (for_one at one old mid asks) (for_all (moment_after at one) did mid new rest))

-- ---- if the journal is whole in the end, the last call kept all

pub record EndsKept (calls : List Call) : Type 0 where
  pub front : List Call
  pub last : Call
  pub is : calls ≡ front ++ last ∷ []
  pub ok : is_ok (result_of last) ≡ true

ends_kept : (call : Call) (calls : List Call) (old new : JournalState) (left : World) → AreCalls (call ∷ calls) old new → new.files ≡ Some left
    → is_some new.tail ≡ true → EndsKept (call ∷ calls)
ends_kept call [] old new left (mid, is, same) there whole =
    let ended : IsCall call old new = subst (λ s. IsCall call old s) (sym same) is in
    record {
      front = [];
      last = call;
      is = refl;
      ok = sym (subst (λ o. IfSome o (λ w. is_some new.tail ≡ is_ok (result_of call))) there ended.whole) ∙ whole;
    }
ends_kept call (next ∷ calls) old new left (mid, is, rest) there whole =
    let ends = ends_kept next calls mid new left rest there whole in
    record { front = call ∷ ends.front; last = ends.last; is = ap (λ l. call ∷ l) ends.is; ok = ends.ok }

none_kept : (r : Resumption) → kept_in r r [] ≡ record { floor = r.floor; seen = r.seen ++ [] }
unfolding kept_in
none_kept r = ap (λ l. record { floor = r.floor; seen = l }) (sym (append-nil r.seen))

same_kept : (r : Resumption) (calls : List Call) → seen_in calls ≡ [] → kept_in r r calls ≡ record { floor = r.floor; seen = r.seen ++ [] }
unfolding kept_in
same_kept r [] none = ap (λ l. record { floor = r.floor; seen = l }) (sym (append-nil r.seen))
same_kept r (Keep seen result ∷ calls) none = absurd cc
same_kept r (Mend result ∷ calls) none = ap (λ k. kept_in k r calls) (same_by result r) ∙ same_kept r calls none
  where
    same_by : (result : Result Unit NotKept) (r : Resumption) → kept_by result r r ≡ r
    same_by (Ok done) r = refl
    same_by (Err fault) r = refl

module _ (laws : LivesHold) where
  all_kept : (r : Resumption) (calls : List Call) (old new : JournalState) (left : World) → AreCalls calls old new → new.files ≡ Some left
      → is_some new.tail ≡ true → kept_in r r calls ≡ record { floor = r.floor; seen = r.seen ++ seen_in calls }
  all_kept r [] old new left are there whole = none_kept r
  all_kept r (call ∷ calls) old new left are there whole =
      let ends = ends_kept call calls old new left are there whole in
      subst (λ l. kept_in r r l ≡ record { floor = r.floor; seen = r.seen ++ seen_in l }) (sym ends.is) (laws.all_kept r ends.front ends.last ends.ok)

  -- where nothing is handed over, nothing more is kept
  none_handed : (r : Resumption) (calls : List Call) (old new : JournalState) → AreCalls calls old new → seen_in calls ≡ []
      → kept_in r r calls ≡ record { floor = r.floor; seen = r.seen ++ seen_in calls }
  none_handed r calls old new are none = same_kept r calls none ∙ ap (λ l. record { floor = r.floor; seen = r.seen ++ l }) (sym none)

-- ---- calls that failed

module _ (new : JournalState) (left : World) (there : new.files ≡ Some left) where
  -- a journal whose files are recorded in the end had them recorded
  recorded_before : (call : Call) (old : JournalState) → IsCall call old new → (w : World) × (old.files ≡ Some w)
  recorded_before call old is = by_files old.files refl
    where
      by_files : (files : Option World) → old.files ≡ files → (w : World) × (old.files ≡ Some w)
      by_files (Some w) same = (w, same)
      by_files None same =
          let none : new.files ≡ None = subst (λ o. Leaves SameSeal o new.files) same is.seal in
          absurd (cc (none, there))

recorded_at_first : (calls : List Call) (old new : JournalState) (left : World) → AreCalls calls old new → new.files ≡ Some left → (w : World) × (old.files ≡ Some w)
recorded_at_first [] old new left same there = (left, ap (λ s. s.files) (sym same) ∙ there)
recorded_at_first (call ∷ calls) old new left (mid, is, rest) there =
    let (w, known) = recorded_at_first calls mid new left rest there in
    recorded_before mid w known call old is

failing_keeps : (kept all : Resumption) (calls : List Call) → AllByRecursion (λ call. is_ok (result_of call) ≡ false) calls → kept_in kept all calls ≡ kept
unfolding kept_in
failing_keeps kept all [] fail = refl
failing_keeps kept all (call ∷ calls) (fails, rest) =
    ap (λ k. kept_in k (all_after all call) calls) (kept_failed (result_of call) kept (all_after all call) fails) ∙ failing_keeps kept (all_after all call) calls rest
  where
    kept_failed : (result : Result Unit NotKept) (kept all : Resumption) → is_ok result ≡ false → kept_by result kept all ≡ kept
    kept_failed (Ok done) kept all fails = absurd cc
    kept_failed (Err fault) kept all fails = refl

-- all that was handed over
abbrev all_handed : Resumption → List Call → Resumption
all_handed all [] = all
all_handed all (call ∷ calls) = all_handed (all_after all call) calls

kept_both : (kept all : Resumption) (calls later : List Call) → kept_in kept all (calls ++ later) ≡ kept_in (kept_in kept all calls) (all_handed all calls) later
unfolding kept_in
kept_both kept all [] later = refl
kept_both kept all (call ∷ calls) later = kept_both (kept_by (result_of call) kept (all_after all call)) (all_after all call) calls later

-- ---- what a start decided

not_removed : (path : Option (List ℕ)) (journals : Journals) → is_some path ≡ true → AreAt path journals → journals.removed ≡ None
not_removed (Some path) journals there at = at
not_removed None journals there at = absurd cc

none_removed : (start : Start) → with_removed None start ≡ start
none_removed (Resumes r check) = refl
none_removed (Refuses doubt floor) = refl

decided_is : (path : Option (List ℕ)) (rows : Principals) (journals : Journals) (at : Moment) (start : Start) → is_some path ≡ true → AreAt path journals
    → (decided : IsDecided rows journals at start) → start ≡ start_of decided.place journals.found.older journals.found.newer journals.found.beside
decided_is path rows journals at start there found decided =
    decided.is ∙ ap (λ r. with_removed r (start_of decided.place journals.found.older journals.found.newer journals.found.beside)) (not_removed path journals there found)
    ∙ none_removed (start_of decided.place journals.found.older journals.found.newer journals.found.beside)

floor_known : (opening : Opening) (start : Start) (floor : ℤ) → floor ≡ (known_before opening start).floor → floor ≡ (known_by floor start).floor
floor_known opening (Resumes r check) floor is = is
floor_known opening (Refuses doubt lost) floor is = refl

same_known : (opening : Opening) (start : Start) (floor : ℤ) → floor ≡ (known_before opening start).floor → known_by floor start ≡ known_before opening start
same_known opening (Resumes r check) floor is = refl
same_known opening (Refuses doubt lost) floor is = ap (λ f. record { floor = f; seen = [] }) is

module _ (path : Option (List ℕ)) (rows : Principals) (b : JournalBeginning) (there : is_some path ≡ true) (found : AreAt path b.journals)
    (decided : IsDecided rows b.journals b.at b.start) (w : World) (are : AreFound b.journals.found w) where
  is_start : (floor : ℤ) → floor ≡ (known_by floor b.start).floor → IsStart b.at floor b.journals.found.newer b.start w
  is_start floor known = record {
    place = decided.place;
    moment = decided.moment;
    older = b.journals.found.older;
    beside = b.journals.found.beside;
    older_found = are.older;
    newer_found = are.newer;
    beside_found = are.beside;
    decided = decided_is path rows b.journals b.at b.start there found decided;
    floor = known;
  }

  -- what the start and these calls did with the files
  is_process : (opening : Opening) (ok : Bool) (calls : List Call) (begun last : JournalState) (new : World) → b.floor ≡ (known_before opening b.start).floor
      → BeginsOver b ok (Some w) begun → journal.Serves ok calls begun last → last.files ≡ Some new
      → IsProcess (record { at = b.at; newer = b.journals.found.newer; start = b.start; floor = b.floor; has_begun = ok; calls = calls }) w new
  is_process opening ok calls begun last new floor begins serves left = record {
    first = before_start b (Some w);
    begun = begun;
    last = last;
    found = refl;
    floor = refl;
    start = is_start b.floor (floor_known opening b.start b.floor floor);
    begins = begins;
    serves = serves;
    left = left;
  }

-- ---- the servers that follow one

-- As `AreJournaled`, from the files that are there now on.
abbrev AreNext : Since → World → List Journaled → Type 0
AreNext s w [] = ⊤
AreNext s w (n ∷ ns) =
    (found : World)
    × FollowsThrough (known_after s.at s.known s.periods) s.past false n.before w found
    × MayResume (past_after_all s.past n.before) found n.process.at n.process.start
    × IsLate n.process.start (events_in s.hub (flat_map turns_of s.periods))
    × OpensFrom n.process.at n.process.from n.process.start
    × AreJournaled n.process.at (after_turn (after_turns s.hub (flat_map turns_of s.periods)) (beginning n.process)) (known_at n.process)
    n.process.periods n.did found ns

abbrev with_stage : Stage → List Journaled → List Journaled
with_stage stage [] = []
with_stage stage (n ∷ ns) = record { process = n.process; did = n.did; before = stage ∷ n.before } ∷ ns

same_servers : (stage : Stage) (ns : List Journaled) → processes_in (with_stage stage ns) ≡ processes_in ns
same_servers stage [] = refl
same_servers stage (n ∷ ns) = refl

before_past : (stage : Stage) (life : List Stage) (past : Past) → past_after_all (past_after past stage) life ≡ past_after_all past (stage ∷ life)
unfolding past_after_all
before_past stage life past = refl

none_past : (past : Past) → past ≡ past_after_all past []
unfolding past_after_all
none_past past = refl

-- a stage before them
add_stage : (stage : Stage) (s after : Since) (w next : World) (ns : List Journaled) → after ≡ record s { past = past_after s.past stage }
    → IsStage stage w next → FollowsOver (known_after s.at s.known s.periods) s.past false stage w → lost_by false stage ≡ false
    → AreNext after next ns → AreNext s w (with_stage stage ns)
add_stage stage s after w next [] same is follows lost are = tt
add_stage stage s after w next (n ∷ ns) same is follows lost are =
    let (found, through, may, late, opens, rest) = subst (λ x. AreNext x next (n ∷ ns)) same are in (
      found,
      (next, is, follows, subst (λ l. FollowsThrough (known_after s.at s.known s.periods) (past_after s.past stage) l n.before next found) (sym lost) through),
      subst (λ past. MayResume past found n.process.at n.process.start) (before_past stage n.before s.past) may,
      late,
      opens,
      rest,
    )

pub record Followers (s : Since) (w : World) (servers : List Process) : Type 0 where
  pub ns : List Journaled
  pub are_servers : processes_in ns ≡ servers
  pub are : AreNext s w ns

add_follower : (stage : Stage) (s after : Since) (w next : World) (servers : List Process) → after ≡ record s { past = past_after s.past stage }
    → IsStage stage w next → FollowsOver (known_after s.at s.known s.periods) s.past false stage w → lost_by false stage ≡ false
    → Followers after next servers → Followers s w servers
add_follower stage s after w next servers same is follows lost f = record {
  ns = with_stage stage f.ns;
  are_servers = same_servers stage f.ns ∙ f.are_servers;
  are = add_stage stage s after w next f.ns same is follows lost f.are;
}

before_seal : (s : Since) (left found : World) (servers : List Process) → IsSealedOnly left found → Followers s found servers → Followers s left servers
before_seal s left found servers sealed f = add_follower Sealed s s left found servers refl sealed tt refl f

before_read : (s : Since) (w read : World) (servers : List Process) → MayFinish (Some w) (Some read) → Followers s read servers → Followers s w servers
before_read s w read servers (inl same) f = subst (λ x. Followers s x servers) same f
before_read s w read servers (inr cut) f = add_follower Finished s s w read servers refl cut tt refl f

pub record IsRead (old : World) (read : Option World) : Type 0 where
  pub world : World
  pub is : read ≡ Some world
  pub finished : MayFinish (Some old) (Some world)

is_read : (old : World) (read : Option World) → MayFinish (Some old) read → IsRead old read
is_read old None finished = absurd finished
is_read old (Some world) finished = record { world = world; is = refl; finished = finished }

-- ---- a server that served

-- its tally has this
same_did : (periods : List Period) (did : List WireCall) → Records (Some []) did (Some (flat_map did_in (rounds_in periods))) → did ≡ flat_map did_in (rounds_in periods)
same_did periods did recorded = sym recorded

-- if nothing was polled, nothing is asked
none_asked : (periods : List Period) (at : Moment) → periods ≡ [] → all_seen (handed_in at (flat_map did_in (rounds_in periods))) ≡ []
none_asked periods at none = ap (λ (ps : List Period). all_seen (handed_in at (flat_map did_in (rounds_in ps)))) none

module _ (r : ServerRun) (old new : World) (is : IsServerRun r old new) where
  abbrev b : JournalBeginning
  b = beginning_of r old new is

  abbrev made_of : State → finmap.FinMap nat_cmp Splitting → HubState
  made_of kdc connections = record {
    issuing = record { kdc = kdc; random = r.hub.issuing.random; audits = r.hub.issuing.audits };
    connections = connections;
  }

  -- it begins with the hub that it had, whatever was before
  turn_is : (before : HubState) (start : Start) (from : Moment) → r.options.is_first ≡ false → OpensFrom b.at from start
      → r.hub.issuing.kdc ≡ started_state is.started.ready.rows r.options.limits (opened_by r.options.is_first b.at) start
      → after_turn before (beginning_by (process_of r old new is from) start) ≡ r.hub
  turn_is before (Resumes found check) from first opens kdc =
      ap (λ k. made_of k finmap.empty) (sym kdc) ∙ ap (made_of r.hub.issuing.kdc) (sym is.started.ready.connections)
  turn_is before (Refuses doubt floor) from first opens kdc =
      ap (λ f. made_of (record { database = is.started.ready.rows; limits = r.options.limits; floor = f; caches = finmap.empty }) finmap.empty)
      (opens ∙ ap (λ one. raised_floor (opened_by one b.at) floor) (sym first))
      ∙ ap (λ k. made_of k finmap.empty) (sym kdc) ∙ ap (made_of r.hub.issuing.kdc) (sym is.started.ready.connections)

  module _ (laws : LivesHold) (asked : HasAsked is.begun (Some (flat_map did_in (rounds_in r.periods))) r.kept) (read : World) (read_is : is.begins.read ≡ Some read) where
    calls_of : Calls (all_seen (handed_in b.at (flat_map did_in (rounds_in r.periods)))) is.begun r.kept
    calls_of = subst (λ did. Calls (all_seen (handed_in b.at did)) is.begun r.kept) (same_did r.periods asked.did asked.recorded)
        (for_all b.at asked.did is.begun r.kept asked.asked)

    abbrev did_of : OnJournal
    did_of = record {
      at = b.at;
      newer = b.journals.found.newer;
      start = b.start;
      floor = b.floor;
      has_begun = true;
      calls = calls_of.calls ++ is.later.0;
    }

    are_found : AreFound b.journals.found read
    are_found = subst (λ o. IfSome o (AreFound b.journals.found)) read_is is.begins.reads.found

    starts : (floor : ℤ) → floor ≡ (known_by floor b.start).floor → IsStart b.at floor b.journals.found.newer b.start read
    starts = is_start (option_copied r.options.journal) is.started.ready.rows b is.has_journal is.started.ready.found is.started.ready.decided read are_found

    -- what its calls kept up to that act
    kept_up_to : (known : Resumption) → kept_in known known calls_of.calls ≡ record { floor = known.floor; seen = known.seen ++ seen_in calls_of.calls }
    kept_up_to known = by_whole is.whole
      where
        there : (w : World) × (r.kept.files ≡ Some w)
        there = recorded_at_first is.later.0 r.kept r.last new is.later.1 is.left

        by_whole : (r.periods ≡ []) ⊎ (is_some r.kept.tail ≡ true) → kept_in known known calls_of.calls ≡ record { floor = known.floor; seen = known.seen ++ seen_in calls_of.calls }
        by_whole (inl none) = none_handed laws known calls_of.calls is.begun r.kept calls_of.are (calls_of.hand ∙ none_asked r.periods b.at none)
        by_whole (inr whole) = all_kept laws known calls_of.calls is.begun r.kept there.0 calls_of.are there.1 whole

    keeps_all : KeepsAll b.at (known_of r old new is) r.periods did_of read new
    keeps_all = record {
      has_begun = refl;
      moment = refl;
      calls = is_process (option_copied r.options.journal) is.started.ready.rows b is.has_journal is.started.ready.found is.started.ready.decided read are_found
          (opened_by r.options.is_first b.at) true (calls_of.calls ++ is.later.0) is.begun r.last new is.started.ready.floor
          (subst (λ o. BeginsOver b true o is.begun) read_is is.begins.begins) (calls_on calls_of.calls is.later.0 is.begun r.kept r.last calls_of.are is.later.1) is.left;
      kept = ap (λ k. kept_in k k (calls_of.calls ++ is.later.0)) (same_known (opened_by r.options.is_first b.at) b.start b.floor is.started.ready.floor)
          ∙ kept_both (known_of r old new is) (known_of r old new is) calls_of.calls is.later.0
          ∙ failing_keeps (kept_in (known_of r old new is) (known_of r old new is) calls_of.calls) (all_handed (known_of r old new is) calls_of.calls) is.later.0 is.later.2
          ∙ kept_up_to (known_of r old new is)
          ∙ ap (λ l. record { floor = (known_of r old new is).floor; seen = (known_of r old new is).seen ++ l }) calls_of.hand;
    }

    -- with those that follow it
    journaled : (ns : List Journaled) → AreNext (since_run r old new is) new ns
        → AreJournaled b.at r.hub (known_of r old new is) r.periods did_of read ns
    journaled [] next = is.lived
    journaled (n ∷ ns) (found, through, may, late, opens, rest) =
        (new, found, is.lived, keeps_all, through, may, late, opens, rest)

    resumes_with : (s : Since) → s.past.are_lost ≡ false → (start : Start) → b.start ≡ start → IsInTime s start → MayResume s.past read b.at start
    resumes_with s here (Refuses doubt floor) same time = tt
    resumes_with s here (Resumes found check) same time = record {
      there = here;
      late = time.0;
      newer = b.journals.found.newer;
      start = subst (λ x. IsStart b.at found.floor b.journals.found.newer x read) same
          (starts found.floor (ap (λ x. (known_by found.floor x).floor) (sym same)));
    }

is_late : (s : Since) (start : Start) → IsInTime s start → IsLate start (events_in s.hub (flat_map turns_of s.periods))
is_late s (Refuses doubt floor) time = tt
is_late s (Resumes found check) time = time.1

-- ---- all runs

-- what was asked of each journal
abbrev AllAsked : (s : Since) (w : World) (runs : List Run) → AreRuns s w runs → Type 0
AllAsked s w [] are = ⊤
AllAsked s w (Serves r ∷ runs) (left, found, is, first, from, opens, time, sealed, are) =
    HasAsked is.begun (Some (flat_map did_in (rounds_in r.periods))) r.kept × AllAsked (since_run r w left is) found runs are
AllAsked s w (Fails options ∷ runs) (left, found, is, time, sealed, are) = AllAsked (since_failed s is.failed) found runs are

all_asked : (s : Since) (w : World) (runs : List Run) (are : AreRuns s w runs) → ∥ AllAsked s w runs are ∥₁
all_asked s w [] are = ∣ tt ∣₁
all_asked s w (Serves r ∷ runs) (left, found, is, first, from, opens, time, sealed, are) =
    ∥∥₁_elim is.asked ∥∥₁_prop (λ one. ∥∥₁_map (all_asked (since_run r w left is) found runs are) (λ others. (one, others)))
all_asked s w (Fails options ∷ runs) (left, found, is, time, sealed, are) = all_asked (since_failed s is.failed) found runs are

module _ (laws : LivesHold) where
  -- a start that failed, before those that follow
  before_failed : (s : Since) (options : ServeOptions) (w left : World) (is : IsFailed options w left) (servers : List Process) (failed : HasFailedOver options (Some w) (Some left))
      → FailsInTime s failed → Followers (since_failed s failed) left servers → Followers s w servers
  before_failed s options w left is servers (inl finished) time f = before_read s w left servers finished f
  before_failed s options w left is servers (inr begun) time f =
      let r = is_read w begun.begins.read begun.begins.reads.finished in
      let are : AreFound begun.beginning.journals.found r.world = subst (λ o. IfSome o (AreFound begun.beginning.journals.found)) r.is begun.begins.reads.found in
      before_read s w r.world servers r.finished
      (add_follower (Ran (began_only begun)) s (since_failed s (inr begun)) r.world left servers refl
      (is_process (option_copied options.journal) begun.rows begun.beginning is.has_journal begun.found begun.decided r.world are
      (opened_by options.is_first begun.beginning.at) begun.ok [] begun.last begun.last left begun.floor
      (subst (λ o. BeginsOver begun.beginning begun.ok o begun.last) r.is begun.begins.begins) (no_serving begun.ok begun.last) begun.left)
      (time r.world r.is) refl f)
    where
      no_serving : (ok : Bool) (last : JournalState) → journal.Serves ok [] last last
      no_serving true last = refl
      no_serving false last = refl

  still_there : (s : Since) {options : ServeOptions} {old new : Option World} (failed : HasFailedOver options old new) → s.past.are_lost ≡ false
      → (since_failed s failed).past.are_lost ≡ false
  still_there s (inl finished) here = here
  still_there s (inr begun) here = by_ok begun.ok
    where
      by_ok : (ok : Bool) → (if ok then past_at begun.beginning.at else s.past).are_lost ≡ false
      by_ok true = refl
      by_ok false = here

  followers : (s : Since) (w : World) (runs : List Run) (are : AreRuns s w runs) → AllAsked s w runs are → s.past.are_lost ≡ false
      → Followers s w (servers_in s w runs are)
  followers s w [] are asked here = record { ns = []; are_servers = refl; are = tt }
  followers s w (Fails options ∷ runs) (left, found, is, time, sealed, are) asked here =
      before_failed s options w left is _ is.failed time
      (before_seal (since_failed s is.failed) left found _ sealed (followers (since_failed s is.failed) found runs are asked (still_there s is.failed here)))
  followers s w (Serves r ∷ runs) (left, found, is, first, from, opens, time, sealed, are) (asked, others) here =
      let next = since_run r w left is in
      let rest = before_seal next left found _ sealed (followers next found runs are others refl) in
      let read = is_read w is.begins.read is.begins.reads.finished in
      let start = (beginning_of r w left is).start in
      let p = process_of r w left is from in
      before_read s w read.world _ read.finished
      (record {
        ns = record { process = p; did = did_of r w left is laws asked read.world read.is; before = [] } ∷ rest.ns;
        are_servers = ap (λ ps. p ∷ ps) rest.are_servers;
        are = (
          read.world,
          refl,
          subst (λ past. MayResume past read.world p.at start) (none_past s.past) (resumes_with r w left is laws asked read.world read.is s here start refl time),
          is_late s start time,
          opens,
          subst (λ hub. AreJournaled p.at hub (known_at p) p.periods (did_of r w left is laws asked read.world read.is) read.world rest.ns)
              (sym (turn_is r w left is (after_turns s.hub (flat_map turns_of s.periods)) start from first opens is.started.ready.kdc))
              (subst (λ one. AreJournaled p.at r.hub (known_before (opened_by one p.at) start) p.periods (did_of r w left is laws asked read.world read.is) read.world rest.ns) first
              (journaled r w left is laws asked read.world read.is rest.ns rest.are)),
        );
      })

  module _ (counted : ReadIsLater) where
    servers_are : (r : ServerRun) (w left found : World) (is : IsServerRun r w left) (runs : List Run) → IsSealedOnly left found
        → (are : AreRuns (since_run r w left is) found runs) → HasAsked is.begun (Some (flat_map did_in (rounds_in r.periods))) r.kept → AllAsked (since_run r w left is) found runs are
        → AreProcesses (beginning_of r w left is).at r.hub (known_of r w left is) r.periods (servers_in (since_run r w left is) found runs are)
    servers_are r w left found is runs sealed are asked others =
        let next = since_run r w left is in
        let rest = before_seal next left found _ sealed (followers next found runs are others refl) in
        let read = is_read w is.begins.read is.begins.reads.finished in
        subst (AreProcesses (beginning_of r w left is).at r.hub (known_of r w left is) r.periods) rest.are_servers
        (are_processes laws counted (beginning_of r w left is).at r.hub (known_of r w left is) r.periods
        (did_of r w left is laws asked read.world read.is) read.world rest.ns (journaled r w left is laws asked read.world read.is rest.ns rest.are))

-- ---- the law

started_covers : (begins : core.CanBeResumed) (database : Principals) (limits : Limits) (opening : Opening) (start : Start)
    → Covers (started_state database limits opening start) (known_before opening start)
started_covers begins database limits opening (Resumes found check) = begins.resumed database limits found
started_covers begins database limits opening (Refuses doubt floor) = begins.resumed database limits (record { floor = raised_floor opening floor; seen = [] })

-- what is one for each authenticator, if something was chosen, is
one_from : {A : Type 0} (xs : List (Stamp × List ℕ)) → ∥ A ∥₁ → (A → OneForEach xs) → OneForEach xs
one_from [] a so = tt
one_from {A = A} (x ∷ xs) a so = (each xs (λ h. (so h).0), one_from xs a (λ h. (so h).1))
  where
    each : (ys : List (Stamp × List ℕ)) → (A → AllByRecursion (λ y. y.0 ≡ x.0 → y.1 ≡ x.1) ys) → AllByRecursion (λ y. y.0 ≡ x.0 → y.1 ≡ x.1) ys
    each [] so = tt
    each (y ∷ ys) so = ((λ same. ∥∥₁_elim a (Coded-set (coded_list coded_ℕ) _ _) (λ h. (so h).0 same)), each ys (λ h. (so h).1))

module _ (laws : LivesHold) (counted : ReadIsLater) (begins : core.CanBeResumed)
    (covered : (at : Moment) (hub : HubState) (r : Resumption) (periods : List Period) (processes : List Process) → Covers hub.issuing.kdc r
    → AreProcesses at hub r periods processes → RestartsFollow (events_in hub (history periods processes)) → (c : Components)
    → OneForEach (tickets_sent c hub (history periods processes))) where
  pub one_ticket_over_runs : OneTicketOverRuns
  one_ticket_over_runs r w left found is runs sealed are follow c =
      one_from {A = HasAsked is.begun (Some (flat_map did_in (rounds_in r.periods))) r.kept × AllAsked (since_run r w left is) found runs are} _ (∥∥₁_elim is.asked ∥∥₁_prop (λ one. ∥∥₁_map (all_asked (since_run r w left is) found runs are) (λ others. (one, others)))) (λ asked.
      covered (beginning_of r w left is).at r.hub (known_of r w left is) r.periods (servers_in (since_run r w left is) found runs are)
      (subst (λ (k : State). Covers k (known_of r w left is)) (sym is.started.ready.kdc)
      (started_covers begins is.started.ready.rows r.options.limits (opened_by r.options.is_first (beginning_of r w left is).at) (beginning_of r w left is).start))
      (servers_are laws counted r w left found is runs sealed are asked.0 asked.1) follow c)

-- what a server has done in its life is what its tally has
by_tally : (tally : Option (List WireCall)) (did tried : List WireCall) → IsNew tally → Records tally did (Some tried) → did ≡ tried
by_tally None did tried none records = absurd records
by_tally (Some before) did tried none records = sym (records ∙ ap (λ l. l ++ did) none)

pub ran_is_run : RanIsRun
ran_is_run options before after news tried looks totals hub last old new there ran left whole = record {
  has_journal = there;
  started = ran.run.started;
  begun = ran.begun;
  begins = ran.begins;
  lived = ran.run.life.lived.each;
  asked = subst (λ did. ∥ HasAsked ran.begun (Some did) last ∥₁) (sym (by_tally ran.run.tally _ tried ran.run.tried ran.run.life.lived.did)) ran.asked;
  whole = inr whole;
  later = ([], refl, tt);
  left = left;
}
