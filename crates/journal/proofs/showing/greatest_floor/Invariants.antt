use Rattle.std.proofs.Common.{length, ◌-◌}
use Rattle.journal.proofs.Walks.{HasWalked}
use Rattle.journal.proofs.showing.greatest_floor.Given as goal

abbrev pub invariant-loop-walk : goal.invariant-loop-walk
invariant-loop-walk l = HasWalked l.text l.fn.from l.fn.floor l.walk.place l.walk.floor

abbrev pub decreases-loop-walk : goal.decreases-loop-walk
decreases-loop-walk l = length l.text - l.walk.place
