use Rattle.std.proofs.Common.{◌≡◌, All, length}
use Rattle.principals.specs.Database.{Principals}
use Rattle.kadm.specs.Batches.{IsLineRead, line_texts}
use Rattle.kadm.specs.Lines.{AreDone}
use Rattle.kadm.proofs.batch.run_all.Given as goal

-- whatever the coming lines make of the database, all lines make of the first one; their passwords were read
abbrev pub invariant-loop-rest : goal.invariant-loop-rest
invariant-loop-rest g l =
    (g.T.Store.world l.store ≡ g.T.Store.world l.fn.store)
    × ((new : Principals) → AreDone (g.T.Store.world l.fn.store) l.batch.whole_realm l.batch.db.now (line_texts l.rest) l.draft.database new
    → AreDone (g.T.Store.world l.fn.store) l.batch.whole_realm l.batch.db.now (line_texts l.batch.lines.now) l.fn.draft.database new)
    × All (IsLineRead (g.T.Store.world l.fn.store)) l.rest

abbrev pub decreases-loop-rest : goal.decreases-loop-rest
decreases-loop-rest g l = length l.rest
