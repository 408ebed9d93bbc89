-- Starts that refuse to resume with files that they read. That their floor is above what a process kept follows from
-- what the files still have, and is no premise.
use Rattle.std.specs.Prelude.{◌≡◌, ◌⊎◌, ℤ, ◌≤ℤ◌, ◌<ℤ◌, ⊤, Bool, true, false, List, [], ◌∷◌, Option, Some, None, All}
use Rattle.std.specs.Prelude.{IfSome}
use Rattle.replay.specs.declared.seen.Resumption.{Resumption}
use Rattle.replay.specs.declared.seen.Seen.{Seen}
use Rattle.journal.specs.Decision.{Place, last_second, next_start}
use Rattle.journal.specs.Holding.{IsAbove}
use Rattle.journal.specs.Life.{IsLife, IsProcess, IsReadOut, IsStage, Past, Process, Stage, StagesFollow}
use Rattle.journal.specs.Life.{kept_by_process, past_after, past_of}
use Rattle.journal.specs.Life.Stage.{Ran, Finished, Sealed, Lost}
use Rattle.journal.specs.World.{World}
use Rattle.journal.specs.declared.decision.ResumeRefusal.{ResumeRefusal}
use Rattle.journal.specs.declared.decision.Found.{Found}
use Rattle.journal.specs.declared.decision.Start.{Start}
use Rattle.journal.specs.declared.decision.Start.TheVariants.{Resumes, Refuses}

-- A start refused by what it read of all three files. Its floor is not below the one that they ask for, nor below the
-- one with which the process began that kept this. No authenticator is of the last second of the year 9999.
pub record HasRead (kept : Resumption) (p : Process) (doubt : ResumeRefusal) (found : Option ℤ)
    (w : World) : Type 0 where
  pub place : Place
  pub older : Found
  pub beside : Found
  pub older_read : IsReadOut w.older older
  pub newer_read : IsReadOut w.newer p.newer
  pub beside_read : IsReadOut w.beside beside
  pub decided : next_start place older p.newer beside ≡ Refuses doubt found
  pub asked : IfSome found (λ f. f ≤ℤ p.floor)
  pub floor_above : kept.floor ≤ℤ p.floor
  pub early : All (λ (s : Seen). s.ctime <ℤ last_second) kept.seen

-- What was kept is not forgotten by a start that resumes with files that aren't lost, with a floor at most the skew
-- before the moment of the start before it. Nor by one that refuses: if the files were never lost, it is enough that it
-- read them; otherwise its floor has to be above all that was kept.
abbrev pub IsLaterOver : Resumption → Past → Bool → Process → World → Start → Type 0
IsLaterOver kept past were_lost p w (Resumes found check) = (past.are_lost ≡ false) × (past.low ≤ℤ found.floor)
IsLaterOver kept past were_lost p w (Refuses doubt found) =
    IsAbove p.floor kept ⊎ ((were_lost ≡ false) × HasRead kept p doubt found w)

abbrev pub FollowsOver : Resumption → Past → Bool → Stage → World → Type 0
FollowsOver kept past were_lost (Ran p) w = p.has_begun ≡ true → IsLaterOver kept past were_lost p w p.start
FollowsOver kept past were_lost Finished w = ⊤
FollowsOver kept past were_lost Sealed w = ⊤
FollowsOver kept past were_lost Lost w = ⊤

abbrev pub lost_by : Bool → Stage → Bool
lost_by were_lost (Ran p) = were_lost
lost_by were_lost Finished = were_lost
lost_by were_lost Sealed = were_lost
lost_by were_lost Lost = true

-- The stages of a life, each over what the one before it left.
abbrev pub FollowsThrough : Resumption → Past → Bool → List Stage → World → World → Type 0
FollowsThrough kept past were_lost [] old new = new ≡ old
FollowsThrough kept past were_lost (stage ∷ life) old new =
    (next : World) × IsStage stage old next × FollowsOver kept past were_lost stage old
    × FollowsThrough kept (past_after past stage) (lost_by were_lost stage) life next new

-- Then they are a life in which no start forgets what the process kept.
abbrev pub ReadIsLater : Type 0
ReadIsLater = (p : Process) (life : List Stage) (before after new : World)
    → p.has_begun ≡ true → IsProcess p before after
    → FollowsThrough (kept_by_process p) (past_of p) false life after new
    → IsLife life after new × StagesFollow (kept_by_process p) (past_of p) life
