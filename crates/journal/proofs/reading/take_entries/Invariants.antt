use Rattle.std.proofs.Common.{length}
use Rattle.journal.proofs.Recent.{IsTaken}
use Rattle.journal.proofs.reading.take_entries.Given as goal

abbrev pub invariant-loop-alloc : goal.invariant-loop-alloc
invariant-loop-alloc l = IsTaken l.fn.reader l.fn.before l.fn.at l.fn.floor l.entries.items l.latest l.high l.reader l.check

abbrev pub decreases-loop-alloc : goal.decreases-loop-alloc
decreases-loop-alloc l = length l.reader
