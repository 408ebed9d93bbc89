use Rattle.std.proofs.Common.{◌≡◌}
use Rattle.client_files.proofs.configs.with_included.Given as goal

-- no file is written
abbrev pub invariant-loop-line : goal.invariant-loop-line
invariant-loop-line g l = g.T.Store.world l.store ≡ g.T.Store.world l.fn.store
