use Rattle.std.proofs.Common.{◌≡◌}
use Rattle.client_files.proofs.configs.Config.read.Given as goal

-- no file is written
abbrev pub invariant-loop : goal.invariant-loop
invariant-loop g l = g.T.Store.world l.store ≡ g.T.Store.world l.fn.store
