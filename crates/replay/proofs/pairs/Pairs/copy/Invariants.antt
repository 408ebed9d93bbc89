use Rattle.std.proofs.Common.{◌≡◌, ◌++◌}
use Rattle.replay.proofs.pairs.Pairs.copy.Given as goal

-- the copies so far, followed by the pairs still to be copied
abbrev pub invariant-loop-stamp : goal.invariant-loop-stamp
invariant-loop-stamp g l = l.kept.entries ++ l.stamp-iterator ≡ l.initial.stamp-iterator
