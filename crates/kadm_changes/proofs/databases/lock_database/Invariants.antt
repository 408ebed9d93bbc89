use Rattle.std.proofs.Common.{◌≡◌}
use Rattle.kadm_changes.proofs.databases.lock_database.Given as goal

abbrev pub invariant-loop-looks : goal.invariant-loop-looks
invariant-loop-looks g l = g.T.Store.world l.store ≡ g.T.Store.world l.fn.store
