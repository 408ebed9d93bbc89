-- What is found in files, before and after a turn that was cut is finished.
use Rattle.std.proofs.Common.{◌≡◌, inl, inr, Bool, true, false, Option, Some, None, refl, sym, ap, subst}
use Rattle.std.specs.Prelude.{IfSome}
use Rattle.journal.specs.Decision.{is_cut}
use Rattle.journal.specs.Finding.{AreFound, AreReadOut, MayBeReadOut, MayFinish, finished_found}
use Rattle.journal.specs.Holding.{IsFound}
use Rattle.journal.specs.Life.{FindsCut}
use Rattle.journal.specs.World.{Finishes, Leaves, World}
use Rattle.journal.specs.declared.decision.Found.{Found}
use Rattle.journal.specs.declared.decision.Found.TheVariants.{Nothing}
use Rattle.journal.specs.declared.decision.FoundFiles.{FoundFiles}
use Rattle.journal.proofs.Keeps.{unrecorded}

pub all_found : (older newer beside : Found) (w : Option World) → IfSome w (λ w. IsFound w.older older) → IfSome w (λ w. IsFound w.newer newer)
    → IfSome w (λ w. IsFound w.beside beside) → IfSome w (AreFound (record { older = older; newer = newer; beside = beside }))
all_found older newer beside None o n b = tt
all_found older newer beside (Some w) o n b = record { older = o; newer = n; beside = b }

pub all_read : (older newer beside : Found) (w : Option World) → IfSome w (λ w. MayBeReadOut w.older older) → IfSome w (λ w. MayBeReadOut w.newer newer)
    → IfSome w (λ w. MayBeReadOut w.beside beside) → IfSome w (AreReadOut (record { older = older; newer = newer; beside = beside }))
all_read older newer beside None o n b = tt
all_read older newer beside (Some w) o n b = record { older = o; newer = n; beside = b }

pub finds_finished : (found : FoundFiles) (old new : Option World) → IfSome old (AreFound found) → Leaves (Finishes true) old new
    → IfSome new (AreFound (finished_found found))
finds_finished found None new are step = unrecorded new _ step
finds_finished found (Some w) None are step = absurd step
finds_finished found (Some w) (Some n) are step =
    subst (λ x. AreFound (finished_found found) x) (sym step) (record { older = are.older; newer = are.beside; beside = (Nothing, tt, refl) })

pub reads_finished : (found : FoundFiles) (old new : Option World) → IfSome old (AreReadOut found) → Leaves (Finishes true) old new
    → IfSome new (AreReadOut (finished_found found))
reads_finished found None new are step = unrecorded new _ step
reads_finished found (Some w) None are step = absurd step
reads_finished found (Some w) (Some n) are step =
    subst (λ x. AreReadOut (finished_found found) x) (sym step) (record { older = are.older; newer = are.beside; beside = inl tt })

finds_cut : (found : FoundFiles) (w : World) → AreFound found w → is_cut found.older found.newer found.beside ≡ true → FindsCut w
finds_cut found w are cut = record {
  older = found.older;
  newer = found.newer;
  beside = found.beside;
  older_found = are.older;
  newer_found = are.newer;
  beside_found = are.beside;
  cut = cut;
}

pub may_finish : (found : FoundFiles) (ok : Bool) (old new : Option World) → IfSome old (AreFound found)
    → is_cut found.older found.newer found.beside ≡ true → Leaves (Finishes ok) old new → MayFinish old new
may_finish found ok None new are cut step = step
may_finish found ok (Some w) None are cut step = step
may_finish found true (Some w) (Some n) are cut step = inr (finds_cut found w are cut, step)
may_finish found false (Some w) (Some n) are cut (inl same) = inl same
may_finish found false (Some w) (Some n) are cut (inr step) =
    inr (finds_cut found w are cut, step)

pub nothing_finished : (old new : Option World) → new ≡ old → MayFinish old new
nothing_finished None new same = same
nothing_finished (Some w) None same = absurd cc
nothing_finished (Some w) (Some n) same = inl (sym_some same)
  where
    world_or : World → Option World → World
    world_or other (Some x) = x
    world_or other None = other

    sym_some : Some n ≡ Some w → n ≡ w
    sym_some same = ap (world_or w) same

-- files that are recorded still are after a reading
pub read_world : (old : World) (w : Option World) → MayFinish (Some old) w → (read : World) × (w ≡ Some read) × MayFinish (Some old) (Some read)
read_world old None step = absurd step
read_world old (Some read) step = (read, refl, step)
