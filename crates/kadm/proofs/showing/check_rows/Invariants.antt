use Rattle.std.proofs.Common.{All, take}
use Rattle.kadm_changes.specs.Texts.{texts}
use Rattle.kadm.specs.Printed.{HasRow}
use Rattle.kadm.proofs.showing.check_rows.Given as goal

abbrev pub invariant-loop-name : goal.invariant-loop-name
invariant-loop-name l = All (HasRow l.database) (texts (take l.name-index l.names))
