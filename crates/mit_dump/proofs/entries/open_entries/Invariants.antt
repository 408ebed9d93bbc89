use Rattle.std.proofs.Common.{drop}
use Rattle.mit_dump.specs.Entries.{ArePushed}
use Rattle.mit_dump.proofs.entries.open_entries.Given as goal

abbrev pub invariant-loop-i : goal.invariant-loop-i
invariant-loop-i l = ArePushed l.principal l.master (drop l.i l.keys) l.entries.items
