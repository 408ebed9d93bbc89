use Rattle.std.proofs.Common.{◌≡◌, length}
use Rattle.principals.specs.Database.{Principals}
use Rattle.kadm_changes.specs.Asking.{all_asked}
use Rattle.kadm_changes.specs.Changing.{AreSet}
use Rattle.kadm_changes.proofs.changes.set_all.Given as goal

-- whatever the coming settings make of the database, all of them make of the first one
abbrev pub invariant-loop-rest : goal.invariant-loop-rest
invariant-loop-rest g l =
    (g.T.Store.world l.store ≡ g.T.Store.world l.fn.store)
    × ((new : Principals) → AreSet (g.T.Store.world l.fn.store) (all_asked l.rest) l.who.components l.draft.database new
    → AreSet (g.T.Store.world l.fn.store) (all_asked l.target.settings.items) l.who.components l.fn.draft.database new)

abbrev pub decreases-loop-rest : goal.decreases-loop-rest
decreases-loop-rest g l = length l.rest
