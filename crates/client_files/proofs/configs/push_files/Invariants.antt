use Rattle.std.proofs.Common.{◌≡◌}
use Rattle.client_files.proofs.configs.push_files.Given as goal

-- no file is written
abbrev pub invariant-loop-name : goal.invariant-loop-name
invariant-loop-name g l = g.T.Store.world l.store ≡ g.T.Store.world l.fn.store
