use Rattle.std.proofs.Common.{◌≡◌, ◌++◌, length}
use Rattle.mit_dump.specs.Losses.{key_losses}
use Rattle.mit_dump.proofs.losses.push_key_losses.Given as goal

abbrev pub invariant-loop-rest : goal.invariant-loop-rest
invariant-loop-rest l = l.losses.items ++ key_losses l.salt l.rest ≡ l.fn.losses.items ++ key_losses l.salt l.keys

abbrev pub decreases-loop-rest : goal.decreases-loop-rest
decreases-loop-rest l = length l.rest
