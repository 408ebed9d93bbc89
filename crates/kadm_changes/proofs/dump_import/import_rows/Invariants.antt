use Rattle.std.proofs.Common.{drop}
use Rattle.kadm_changes.specs.Dumps.{AreRowsOf}
use Rattle.kadm_changes.proofs.dump_import.import_rows.Given as goal

abbrev pub invariant-loop-i : goal.invariant-loop-i
invariant-loop-i g l = AreRowsOf l.realm l.stash (drop l.i l.found) l.rows.items
