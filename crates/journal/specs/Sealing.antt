-- When a journal is sealed, and what a seal is for.
use Rattle.std.specs.Prelude.{◌≡◌, ◌⊎◌, ℕ, ℤ, true, false, List, [], Option, Result, Ok, Err}
use Rattle.replay.specs.declared.seen.Resumption.{Resumption}
use Rattle.journal.specs.Decision.{Place, seal_of, start_of}
use Rattle.journal.specs.Holding.{IsSafe}
use Rattle.journal.specs.World.{Leaves, Seals, World, with_seal}
use Rattle.journal.specs.declared.decision.Found.{Found}
use Rattle.journal.specs.declared.decision.Found.TheVariants.{Whole}
use Rattle.journal.specs.declared.decision.ResumeRefusal.{ResumeRefusal}
use Rattle.journal.specs.declared.decision.Start.TheVariants.{Resumes, Refuses}
use Rattle.journal.specs.declared.reading.Journal.{Journal}
use Rattle.journal.specs.declared.sealing.SealOutcome.{SealOutcome}
use Rattle.journal.specs.declared.sealing.SealOutcome.TheVariants.{Doubted, Sealed}

-- the files are sealed, or a start would refuse them and nothing was done, or the call on the files failed
abbrev pub HasSealed : {E : Type 0} → Place → Found → Found → Option World → Result SealOutcome E → Option World
    → Type 0
HasSealed place older newer old (Ok Sealed) new =
    (check : List ℕ) × (seal_of place older newer ≡ Ok check) × Leaves (Seals check true) old new
HasSealed place older newer old (Ok (Doubted doubt)) new = (seal_of place older newer ≡ Err doubt) × (new ≡ old)
HasSealed place older newer old (Err fault) new =
    (check : List ℕ) × (seal_of place older newer ≡ Ok check) × Leaves (Seals check false) old new

-- ---- the laws

-- Only what a start at the same place resumes with is sealed: so nothing is that was begun in another boot and was not
-- sealed there.
abbrev pub SealsWhatResumes : Type 0
SealsWhatResumes = (place : Place) (older newer beside : Found) (check : List ℕ) → seal_of place older newer ≡ Ok check
    → (r : Resumption) × (behind : Option (List ℕ)) × (start_of place older newer beside ≡ Resumes r behind)

-- A start resumes only with a journal of its boot, or with one that is sealed. A server breaks the seal before its
-- first reply. So if the system stops without warning, which may take any of the last octets of the files, the next
-- start refuses.
abbrev pub ThisBootOrSealed : Type 0
ThisBootOrSealed = (place : Place) (older newer beside : Found) (r : Resumption) (behind : Option (List ℕ))
    → start_of place older newer beside ≡ Resumes r behind
    → (j : Journal) × (newer ≡ Whole j) × ((j.header.boot ≡ place.boot.now) ⊎ (place.seal.now ≡ j.check))

-- if files are sealed, or their seal is broken, no start resumes without what they hold
abbrev pub SealIsSafe : Type 0
SealIsSafe = (low : ℤ) (r : Resumption) (w : World) (seal : List ℕ) → IsSafe low r w → IsSafe low r (with_seal seal w)

-- A seal that is not that of the journal shows that one of the two was lost or changed: no start resumes with it.
abbrev pub MissealedRefuses : Type 0
MissealedRefuses = (place : Place) (older newer beside : Found) (j : Journal) → newer ≡ Whole j
    → (place.seal.now ≡ [] → ⊥) → (place.seal.now ≡ j.check → ⊥)
    → (doubt : ResumeRefusal) × (floor : Option ℤ) × (start_of place older newer beside ≡ Refuses doubt floor)

pub record SealsHold : Type 0 where
  pub resumes : SealsWhatResumes
  pub needed : ThisBootOrSealed
  pub safe : SealIsSafe
  pub missealed : MissealedRefuses
