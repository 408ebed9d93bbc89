-- What is found in the files of a journal, and what a reading does to them.
use Rattle.std.specs.Prelude.{◌≡◌, ◌⊎◌, ℕ, List, Option, Some, None}
use Rattle.journal.specs.Holding.{IsFound}
use Rattle.journal.specs.Life.{FindsCut, IsReadOut}
use Rattle.journal.specs.World.{World, finished}
use Rattle.journal.specs.declared.decision.Found.{Found}
use Rattle.journal.specs.declared.decision.Found.TheVariants.{Nothing, Broken}
use Rattle.journal.specs.declared.decision.FoundFiles.{FoundFiles}

pub record AreFound (found : FoundFiles) (w : World) : Type 0 where
  pub older : IsFound w.older found.older
  pub newer : IsFound w.newer found.newer
  pub beside : IsFound w.beside found.beside

-- unless it is a file that others may write, or that is too long
abbrev pub MayBeReadOut : Option (List ℕ) → Found → Type 0
MayBeReadOut file found = IsReadOut file found ⊎ (found ≡ Broken None)

pub record AreReadOut (found : FoundFiles) (w : World) : Type 0 where
  pub older : MayBeReadOut w.older found.older
  pub newer : MayBeReadOut w.newer found.newer
  pub beside : MayBeReadOut w.beside found.beside

-- what is found after a turn was finished
abbrev pub finished_found : FoundFiles → FoundFiles
finished_found found = record { older = found.older; newer = found.beside; beside = Nothing }

-- a turn that was cut was finished, or nothing was done
abbrev pub MayFinish : Option World → Option World → Type 0
MayFinish (Some old) (Some new) = (new ≡ old) ⊎ (FindsCut old × (new ≡ finished old))
MayFinish (Some old) None = ⊥
MayFinish None new = new ≡ None
