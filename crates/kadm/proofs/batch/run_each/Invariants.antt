use Rattle.std.proofs.Common.{◌≡◌, All, length, true}
use Rattle.principals.specs.Database.{Principals}
use Rattle.kadm.specs.Batches.{IsLineRead, line_texts}
use Rattle.kadm.specs.Lines.{AreDone, AreTried}
use Rattle.kadm.proofs.batch.run_each.Given as goal

-- whatever the coming lines make of the database, all lines make of the first one, while the run is whole; and so with
-- lines that are left; the passwords of the coming lines were read
abbrev pub invariant-loop-rest : goal.invariant-loop-rest
invariant-loop-rest g l =
    (g.T.Store.world l.store ≡ g.T.Store.world l.fn.store)
    × (l.whole ≡ true → (new : Principals) → AreDone (g.T.Store.world l.fn.store) l.batch.whole_realm l.batch.db.now (line_texts l.rest) l.draft.database new
    → AreDone (g.T.Store.world l.fn.store) l.batch.whole_realm l.batch.db.now (line_texts l.batch.lines.now) l.fn.draft.database new)
    × ((new : Principals) → AreTried (g.T.Store.world l.fn.store) l.batch.whole_realm l.batch.db.now (line_texts l.rest) l.draft.database new
    → AreTried (g.T.Store.world l.fn.store) l.batch.whole_realm l.batch.db.now (line_texts l.batch.lines.now) l.fn.draft.database new)
    × All (IsLineRead (g.T.Store.world l.fn.store)) l.rest

abbrev pub decreases-loop-rest : goal.decreases-loop-rest
decreases-loop-rest g l = length l.rest
