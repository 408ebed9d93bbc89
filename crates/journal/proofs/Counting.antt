-- A start that refuses with files that it read forgets nothing that a process kept.
use Rattle.std.proofs.Common.{◌≡◌, inl, inr, ℤ, ◌≤ℤ◌, ◌<ℤ◌, Bool, true, false, List, [], ◌∷◌, Option, Some, None, refl, sym, subst, ◌∙◌}
use Rattle.std.specs.Prelude.{All, Contains, IfSome}
use Rattle.std.specs.Option.{IsSomeAnd}
use Rattle.std.proofs.lemmas.Bool.{false≢true}
use Rattle.std.proofs.lemmas.List.Elements.{All-contains, All-contains_itself, All-weaker}
use Rattle.replay.specs.declared.seen.Resumption.{Resumption}
use Rattle.replay.specs.declared.seen.Seen.{Seen}
use Rattle.journal.specs.Counting.{FollowsOver, FollowsThrough, HasRead, IsLaterOver, ReadIsLater, lost_by}
use Rattle.journal.specs.Decision.{last_second}
use Rattle.journal.specs.Holding.{Counts, FilesHave, IsAbove}
use Rattle.journal.specs.Life.{AllCount, Follows, IsLater, IsLife, IsStage, Past, Process, Stage, StageCounts, StagesFollow, kept_by_process, past_after, past_of}
use Rattle.journal.specs.Life.Stage.{Ran, Finished, Sealed, Lost}
use Rattle.journal.specs.World.{World}
use Rattle.journal.specs.declared.decision.ResumeRefusal.{ResumeRefusal}
use Rattle.journal.specs.declared.decision.Start.{Start}
use Rattle.journal.specs.declared.decision.Start.TheVariants.{Resumes, Refuses}
use Rattle.journal.proofs.Held.{lt_le}
use Rattle.journal.proofs.Lasting.{lives_hold}

-- the files have all that was kept
abbrev HaveAll : Resumption → World → Type 0
HaveAll kept w = (seen : Seen) → Contains kept.seen seen → FilesHave w seen

below : (ctime floor : ℤ) (found : Option ℤ) → IsSomeAnd found (λ f. ctime <ℤ f) → IfSome found (λ f. f ≤ℤ floor) → ctime <ℤ floor
below ctime floor None over asked = absurd over
below ctime floor (Some f) over asked = lt_le ctime f floor over asked

module _ (kept : Resumption) where
  read_above : (p : Process) (doubt : ResumeRefusal) (found : Option ℤ) (w : World) → HasRead kept p doubt found w → HaveAll kept w → IsAbove p.floor kept
  read_above p doubt found w read have = record {
    floor_above = read.floor_above;
    times_above = All-weaker (Contains kept.seen) (λ (s : Seen). s.ctime <ℤ p.floor) (λ s has.
        below s.ctime p.floor found
        (lives_hold.counted w read.place read.older p.newer read.beside doubt found read.older_read read.newer_read read.beside_read read.decided s (have s has)
        (All-contains (λ (s : Seen). s.ctime <ℤ last_second) kept.seen s read.early has))
        read.asked) kept.seen (All-contains_itself kept.seen);
  }

  later : (past : Past) (lost : Bool) (p : Process) (w : World) → (lost ≡ false → HaveAll kept w) → (start : Start)
      → IsLaterOver kept past lost p w start → IsLater kept past p.floor start
  later past lost p w have (Resumes found check) is = is
  later past lost p w have (Refuses doubt found) (inl above) = above
  later past lost p w have (Refuses doubt found) (inr (none, read)) = read_above p doubt found w read (have none)

  follows : (past : Past) (lost : Bool) (stage : Stage) (w : World) → (lost ≡ false → HaveAll kept w)
      → FollowsOver kept past lost stage w → Follows kept past stage
  follows past lost (Ran p) w have is = λ begun. later past lost p w have p.start (is begun)
  follows past lost Finished w have is = tt
  follows past lost Sealed w have is = tt
  follows past lost Lost w have is = tt

  -- each start that follows counts each authenticator that was kept
  counts_by : (past : Past) (floor : ℤ) (start : Start) → IsLater kept past floor start → (seen : Seen) → Contains kept.seen seen → Counts start floor seen
  counts_by past floor (Resumes found check) is seen has = tt
  counts_by past floor (Refuses doubt found) is seen has = All-contains (λ (s : Seen). s.ctime <ℤ floor) kept.seen seen is.times_above has

  stage_counts : (past : Past) (lost : Bool) (stage : Stage) → lost_by lost stage ≡ false → Follows kept past stage → (seen : Seen)
      → Contains kept.seen seen → StageCounts seen stage
  stage_counts past lost (Ran p) none is seen has = λ begun. counts_by past p.floor p.start (is begun) seen has
  stage_counts past lost Finished none is seen has = tt
  stage_counts past lost Sealed none is seen has = tt
  stage_counts past lost Lost none is seen has = absurd (false≢true (sym none))

  not_lost : (lost : Bool) (stage : Stage) → lost_by lost stage ≡ false → lost ≡ false
  not_lost lost (Ran p) none = none
  not_lost lost Finished none = none
  not_lost lost Sealed none = none
  not_lost lost Lost none = absurd (false≢true (sym none))

  have_on : (past : Past) (lost : Bool) (stage : Stage) (old next : World) → (lost ≡ false → HaveAll kept old) → IsStage stage old next
      → Follows kept past stage → lost_by lost stage ≡ false → HaveAll kept next
  unfolding AllCount
  have_on past lost stage old next have is later none seen has =
      lives_hold.there seen (stage ∷ []) old next (have (not_lost lost stage none) seen has) (next, is, refl)
      (stage_counts past lost stage none later seen has, tt)

  through : (past : Past) (lost : Bool) (life : List Stage) (old new : World) → (lost ≡ false → HaveAll kept old)
      → FollowsThrough kept past lost life old new → IsLife life old new × StagesFollow kept past life
  unfolding StagesFollow
  through past lost [] old new have same = (same, tt)
  through past lost (stage ∷ life) old new have (next, is, over, rest) =
      let now = follows past lost stage old have over in
      let (lives, others) = through (past_after past stage) (lost_by lost stage) life next new (have_on past lost stage old next have is now) rest in
      ((next, is, lives), (now, others))

pub read_is_later : ReadIsLater
read_is_later p life before after new begun is follows =
    through (kept_by_process p) (past_of p) false life after new (λ none seen has. lives_hold.leaves p before after begun is seen has) follows
