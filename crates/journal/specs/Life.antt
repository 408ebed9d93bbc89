-- The life of a journal: processes that have its files one after the other, and what no start resumes without after
-- them.
use Rattle.std.specs.Prelude.{◌≡◌, ◌⊎◌, ℕ, ℤ, pos, ◌-ℤ◌, ◌≤ℤ◌, ◌<ℤ◌, ⊤, Bool, true, false, List, [], ◌∷◌, ◌++◌, Option}
use Rattle.std.specs.Prelude.{Some, None, Result}
use Rattle.std.specs.Prelude.{Contains, IfSome, if◌then◌else◌, is_ok, is_some}
use Rattle.std.specs.Option.{IsSomeAnd}
use Rattle.krb_fields.specs.Skew.{skew}
use Rattle.krb_fields.specs.declared.moment.Moment.{Moment}
use Rattle.replay.specs.Resumed.{is_spent, resumed_cache, stamp_seen}
use Rattle.replay.specs.declared.seen.Resumption.{Resumption}
use Rattle.replay.specs.declared.seen.Seen.{Seen}
use Rattle.journal.specs.Appending.{FoundIn, kept_by}
use Rattle.journal.specs.Decision.{Place, is_cut, last_second, next_start, start_of}
use Rattle.journal.specs.Forms.{Entry}
use Rattle.journal.specs.Holding.{Counts, FilesHave, IsAbove, IsFound, IsKept, IsSafe, IsStart, Spells, StillThere}
use Rattle.journal.specs.Holding.{known_by, with_one}
use Rattle.journal.specs.Showing.{Shows, Shown}
use Rattle.journal.specs.World.{Leaves, SameSeal, World, finished, with_seal}
use Rattle.journal.specs.declared.decision.ResumeRefusal.{ResumeRefusal}
use Rattle.journal.specs.declared.decision.Found.{Found}
use Rattle.journal.specs.declared.decision.Found.TheVariants.{Nothing, Broken, Whole}
use Rattle.journal.specs.declared.decision.Start.{Start}
use Rattle.journal.specs.declared.decision.Start.TheVariants.{Resumes, Refuses}
use Rattle.journal.specs.declared.journal_file.JournalFile.{JournalFile}
use Rattle.journal.specs.declared.journal_file.NotKept.{NotKept}
use Rattle.journal.specs.declared.journal_file.Tail.{Tail}
use Rattle.journal.specs.declared.reading.Journal.{Journal}

-- ---- the calls of one process

-- A journal between two calls: what its files hold, if that is recorded, the end of the newer one, and the floor of the
-- next one.
pub record JournalState : Type 0 where
  pub files : Option World
  pub tail : Option Tail
  pub floor : Option ℤ

abbrev pub state_of : {F : Type 0} → (F → Option World) → JournalFile F → JournalState
state_of world journal = record { files = world journal.files; tail = journal.tail; floor = journal.floor }

-- as `HasKept` says it
abbrev pub IsKeptIn : ℤ → Resumption → Resumption → JournalState → Type 0
IsKeptIn low kept all s = IfSome s.files (λ w. IsKept low kept all w s.tail s.floor)

-- What `start` promises: a start at this moment made this of what it found, and its journal began, or failed to.
pub record IsBegun (at : Moment) (newer : Found) (start : Start) (ok : Bool) (old new : JournalState) : Type 0 where
  pub kept : ok ≡ true → (floor : ℤ) → old.floor ≡ Some floor → IfSome old.files (IsStart at floor newer start)
      → IsKeptIn (at.sec -ℤ pos skew) (known_by floor start) (known_by floor start) new
  pub safe : (low : ℤ) (r : Resumption) → IfSome old.files (IsSafe low r) → ok ≡ false → IfSome new.files (IsSafe low r)
  pub broken : ok ≡ true → IfSome new.files (λ w. w.seal ≡ [])
  pub there : ok ≡ true → (floor : ℤ) (before : Seen) → old.floor ≡ Some floor
      → IfSome old.files (IsStart at floor newer start)
      → Counts start floor before → StillThere before old.files new.files
  pub stays : (before : Seen) → ok ≡ false → StillThere before old.files new.files

-- A call on a journal that began, and its result: an authenticator is handed over, or nothing new is.
pub data Call : Type 0 where
  Keep : Seen → Result Unit NotKept → Call
  Mend : Result Unit NotKept → Call

abbrev pub result_of : Call → Result Unit NotKept
result_of (Keep seen result) = result
result_of (Mend result) = result

-- all that was handed over
abbrev pub all_after : Resumption → Call → Resumption
all_after all (Keep seen result) = with_one all seen
all_after all (Mend result) = all

-- what `keep` and `mend` promise
pub record IsCall (call : Call) (old new : JournalState) : Type 0 where
  pub kept : (low : ℤ) (kept all : Resumption) → IsKeptIn low kept all old
      → IsKeptIn low (kept_by (result_of call) kept (all_after all call)) (all_after all call) new
  pub whole : IfSome new.files (λ w. is_some new.tail ≡ is_ok (result_of call))
  pub seal : Leaves SameSeal old.files new.files
  pub there : (low : ℤ) (kept all : Resumption) → IsKeptIn low kept all old → (before : Seen)
      → StillThere before old.files new.files

abbrev pub AreCalls : List Call → JournalState → JournalState → Type 0
AreCalls [] old new = new ≡ old
AreCalls (call ∷ calls) old new = (next : JournalState) × IsCall call old next × AreCalls calls next new

-- What is kept after these calls: all that was handed over up to the last one that succeeded.
unfoldable pub kept_in : Resumption → Resumption → List Call → Resumption
kept_in kept all [] = kept
kept_in kept all (call ∷ calls) = kept_in (kept_by (result_of call) kept (all_after all call))
    (all_after all call) calls

-- the authenticators that these calls hand over
abbrev pub seen_in : List Call → List Seen
seen_in [] = []
seen_in (Keep seen result ∷ calls) = seen ∷ seen_in calls
seen_in (Mend result ∷ calls) = seen_in calls

-- ---- one process

-- A process: the moment of its start, what it found in the newer file, what it made of both files, its floor, whether
-- its journal began, and its calls from then on. It may end after any of them. One that is killed within a call counts
-- as one whose call failed: the calls on the files that it did not come to failed and did nothing.
pub record Process : Type 0 where
  pub at : Moment
  pub newer : Found
  pub start : Start
  pub floor : ℤ
  pub has_begun : Bool
  pub calls : List Call

-- it makes no call on a journal that failed to begin
abbrev pub Serves : Bool → List Call → JournalState → JournalState → Type 0
Serves true calls begun last = AreCalls calls begun last
Serves false calls begun last = last ≡ begun

-- what the files held before it, and hold after it
pub record IsProcess (p : Process) (old new : World) : Type 0 where
  pub first : JournalState
  pub begun : JournalState
  pub last : JournalState
  pub found : first.files ≡ Some old
  pub floor : first.floor ≡ Some p.floor
  pub start : IsStart p.at p.floor p.newer p.start old
  pub begins : IsBegun p.at p.newer p.start p.has_begun first begun
  pub serves : Serves p.has_begun p.calls begun last
  pub left : last.files ≡ Some new

-- what it began with, and what it then said to have kept
abbrev pub kept_by_process : Process → Resumption
kept_by_process p = kept_in (known_by p.floor p.start) (known_by p.floor p.start) p.calls

-- ---- a life

-- What happens to the files: a process has them; a reading finishes a turn that was cut, and else leaves them as they
-- are; their seal is made or broken; or they are lost, and may be anything, since the system stopped without warning,
-- or since somebody removed or replaced them.
pub data Stage : Type 0 where
  Ran : Process → Stage
  Finished : Stage
  Sealed : Stage
  Lost : Stage

-- what is found in the files shows a turn that was cut
pub record FindsCut (w : World) : Type 0 where
  pub older : Found
  pub newer : Found
  pub beside : Found
  pub older_found : IsFound w.older older
  pub newer_found : IsFound w.newer newer
  pub beside_found : IsFound w.beside beside
  pub cut : is_cut older newer beside ≡ true

abbrev pub IsStage : Stage → World → World → Type 0
IsStage (Ran p) old new = IsProcess p old new
IsStage Finished old new = FindsCut old × (new ≡ finished old)
IsStage Sealed old new = (seal : List ℕ) × (new ≡ with_seal seal old)
IsStage Lost old new = ⊤

abbrev pub IsLife : List Stage → World → World → Type 0
IsLife [] old new = new ≡ old
IsLife (stage ∷ life) old new = (next : World) × IsStage stage old next × IsLife life next new

-- The second of the last start whose journal began, less the skew, and whether the files were lost since then.
pub record Past : Type 0 where
  pub low : ℤ
  pub are_lost : Bool

abbrev pub past_of : Process → Past
past_of p = record { low = p.at.sec -ℤ pos skew; are_lost = false }

abbrev pub past_after : Past → Stage → Past
past_after past (Ran p) = if p.has_begun then past_of p else past
past_after past Finished = past
past_after past Sealed = past
past_after past Lost = record { low = past.low; are_lost = true }

unfoldable pub past_after_all : Past → List Stage → Past
past_after_all past [] = past
past_after_all past (stage ∷ life) = past_after_all (past_after past stage) life

-- What was kept is not forgotten by a start that resumes with files that aren't lost, with a floor at most the skew
-- before the moment of the start before it; nor by one that refuses, with a floor above all of it.
abbrev pub IsLater : Resumption → Past → ℤ → Start → Type 0
IsLater kept past floor (Resumes found check) = (past.are_lost ≡ false) × (past.low ≤ℤ found.floor)
IsLater kept past floor (Refuses doubt found) = IsAbove floor kept

abbrev pub Follows : Resumption → Past → Stage → Type 0
Follows kept past (Ran p) = p.has_begun ≡ true → IsLater kept past p.floor p.start
Follows kept past Finished = ⊤
Follows kept past Sealed = ⊤
Follows kept past Lost = ⊤

unfoldable pub StagesFollow : Resumption → Past → List Stage → Type 0
StagesFollow kept past [] = ⊤
StagesFollow kept past (stage ∷ life) = Follows kept past stage × StagesFollow kept (past_after past stage) life

-- ---- the laws

-- No start resumes without what a process kept.
abbrev pub ProcessIsSafe : Type 0
ProcessIsSafe = (p : Process) (old new : World) → p.has_begun ≡ true → IsProcess p old new
    → IsSafe (past_of p).low (kept_by_process p) new

-- And so it stays, whatever stages follow: unless the files are lost just then, no start resumes without it.
abbrev pub IsSafeAfter : Resumption → Past → World → Type 0
IsSafeAfter kept past w = past.are_lost ≡ false → IsSafe past.low kept w

abbrev pub StaysSafe : Type 0
StaysSafe = (kept : Resumption) (past : Past) (life : List Stage) (old new : World)
    → IsSafeAfter kept past old → IsLife life old new → StagesFollow kept past life
    → IsSafeAfter kept (past_after_all past life) new

-- In other words: whatever stages follow a process, a start that then resumes refuses each authenticator that it kept.
abbrev pub KeptIsRefused : Type 0
KeptIsRefused = (p : Process) (life : List Stage) (before after new : World)
    → p.has_begun ≡ true → IsProcess p before after → IsLife life after new
    → StagesFollow (kept_by_process p) (past_of p) life
    → (place : Place) (older newer beside : Found) (found : Resumption) (check : Option (List ℕ))
    → IsFound new.older older → IsFound new.newer newer → IsFound new.beside beside
    → next_start place older newer beside ≡ Resumes found check
    → IsLater (kept_by_process p) (past_after_all (past_of p) life) found.floor (Resumes found check)
    → (seen : Seen) → Contains (kept_by_process p).seen seen
    → is_spent (resumed_cache found seen.client.components) (stamp_seen seen) ≡ true

-- If the last call of a process succeeded, it kept all of them.
abbrev pub AllIsKept : Type 0
AllIsKept = (r : Resumption) (calls : List Call) (last : Call) → is_ok (result_of last) ≡ true
    → kept_in r r (calls ++ last ∷ []) ≡ record { floor = r.floor; seen = r.seen ++ seen_in (calls ++ last ∷ []) }

-- The floor of a start that resumes is not below its own moment less the skew: so where clocks don't go back, it is
-- later than the start before it.
abbrev pub StartsAreLater : Type 0
StartsAreLater = (place : Place) (older newer beside : Found) (found : Resumption) (check : Option (List ℕ))
    → start_of place older newer beside ≡ Resumes found check → (place.at.sec -ℤ pos skew) ≤ℤ found.floor

-- A process whose journal began leaves no seal.
abbrev pub LeavesNoSeal : Type 0
LeavesNoSeal = (p : Process) (old new : World) → p.has_begun ≡ true → IsProcess p old new → new.seal ≡ []

-- And without a seal, a start in a boot in which no journal that it finds was begun refuses, whatever else it finds.
abbrev pub NextBootRefuses : Type 0
NextBootRefuses = (w : World) (place : Place) (older newer beside : Found) → IsFound w.older older
    → IsFound w.newer newer
    → place.seal.now ≡ [] → ((j : Journal) → newer ≡ Whole j → j.header.boot ≡ place.boot.now → ⊥)
    → (doubt : ResumeRefusal) × (floor : Option ℤ) × (start_of place older newer beside ≡ Refuses doubt floor)

-- ---- what the files still have

-- The floor of each start that refused counts it, and the files were never lost.
abbrev pub StageCounts : Seen → Stage → Type 0
StageCounts seen (Ran p) = p.has_begun ≡ true → Counts p.start p.floor seen
StageCounts seen Finished = ⊤
StageCounts seen Sealed = ⊤
StageCounts seen Lost = ⊥

unfoldable pub AllCount : Seen → List Stage → Type 0
AllCount seen [] = ⊤
AllCount seen (stage ∷ life) = StageCounts seen stage × AllCount seen life

-- What was read of a file, and not only what may be found in it: a file that others may write is not read.
abbrev pub IsReadOut : Option (List ℕ) → Found → Type 0
IsReadOut None Nothing = ⊤
IsReadOut None (Broken floor) = ⊥
IsReadOut None (Whole j) = ⊥
IsReadOut (Some text) found = FoundIn text found

-- Whatever calls failed, and wherever it was killed, the files have what a process kept.
abbrev pub LeavesThere : Type 0
LeavesThere = (p : Process) (old new : World) → p.has_begun ≡ true → IsProcess p old new → (seen : Seen)
    → Contains (kept_by_process p).seen seen → FilesHave new seen

-- And they have it after any stages that follow.
abbrev pub StaysThere : Type 0
StaysThere = (seen : Seen) (life : List Stage) (old new : World) → FilesHave old seen → IsLife life old new
    → AllCount seen life → FilesHave new seen

-- So a start that then refuses counts it: its floor is above it, unless it is of the last second of the year 9999.
abbrev pub ThereIsCounted : Type 0
ThereIsCounted = (w : World) (place : Place) (older newer beside : Found) (doubt : ResumeRefusal) (floor : Option ℤ)
    → IsReadOut w.older older → IsReadOut w.newer newer → IsReadOut w.beside beside
    → next_start place older newer beside ≡ Refuses doubt floor
    → (seen : Seen) → FilesHave w seen → seen.ctime <ℤ last_second → IsSomeAnd floor (λ f. seen.ctime <ℤ f)

-- ---- a start that refuses

-- A file shows the entries of its journal; or, if it is no whole one, those that are still in it.
abbrev pub ShowsEntry : List ℕ → Entry → Type 0
ShowsEntry text e =
    ((j : Journal) × Spells text j × Contains j.entries e)
    ⊎ (((j : Journal) → Spells text j → ⊥) × (shown : Shown) × Shows text shown × Contains shown.entries e)

-- one of the three files does
abbrev pub FilesShow : World → Entry → Type 0
FilesShow w e =
    IsSomeAnd w.older (λ text. ShowsEntry text e)
    ⊎ (IsSomeAnd w.newer (λ text. ShowsEntry text e) ⊎ IsSomeAnd w.beside (λ text. ShowsEntry text e))

-- Whatever its clock shows, and whatever became of the files, a start that refuses has a floor above each authenticator
-- that the files still show. (There is no floor above the last second of the year 9999.)
abbrev pub ShownIsRefused : Type 0
ShownIsRefused = (w : World) (place : Place) (older newer beside : Found) (doubt : ResumeRefusal) (floor : Option ℤ)
    → IsReadOut w.older older → IsReadOut w.newer newer → IsReadOut w.beside beside
    → start_of place older newer beside ≡ Refuses doubt floor
    → (e : Entry) → FilesShow w e → e.ctime <ℤ last_second → IsSomeAnd floor (λ f. e.ctime <ℤ f)

pub record LivesHold : Type 0 where
  pub safe : ProcessIsSafe
  pub stays : StaysSafe
  pub refused : KeptIsRefused
  pub all_kept : AllIsKept
  pub later : StartsAreLater
  pub no_seal : LeavesNoSeal
  pub next_boot : NextBootRefuses
  pub leaves : LeavesThere
  pub there : StaysThere
  pub counted : ThereIsCounted
  pub shown : ShownIsRefused
