use Rattle.std.proofs.Common.{◌≡◌, drop}
use Rattle.mit_dump.specs.Entries.{preference}
use Rattle.mit_dump.proofs.entries.preference.Given as goal

abbrev pub invariant-loop-i : goal.invariant-loop-i
invariant-loop-i l = l.etypes.items ≡ preference (drop l.i l.keys)
