use Rattle.std.proofs.Common.{◌≡◌, length}
use Rattle.principals.specs.Database.{Principals}
use Rattle.kadm_changes.specs.Asking.{all_asked}
use Rattle.kadm_changes.specs.Changing.{AreChanged}
use Rattle.kadm_changes.specs.Texts.{texts}
use Rattle.kadm_changes.proofs.changes.change_all.Given as goal

-- whatever the changes of the coming principals make of the database, those of all make of the first one
abbrev pub invariant-loop-rest : goal.invariant-loop-rest
invariant-loop-rest g l =
    (g.T.Store.world l.store ≡ g.T.Store.world l.fn.store)
    × ((new : Principals) → AreChanged (g.T.Store.world l.fn.store) (all_asked l.target.settings.items) l.how (texts l.rest) l.draft.database new
    → AreChanged (g.T.Store.world l.fn.store) (all_asked l.target.settings.items) l.how (texts l.target.names.items) l.fn.draft.database new)

abbrev pub decreases-loop-rest : goal.decreases-loop-rest
decreases-loop-rest g l = length l.rest
