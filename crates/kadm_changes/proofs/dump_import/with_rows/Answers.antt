use Rattle.std.proofs.Common.{subst, sym}
use Rattle.principals.specs.NamesLaws.{AllNamesFit}
use Rattle.principals_text.proofs.RowEntries.{rows_fit-entries}
use Rattle.kadm_changes.proofs.Moved.{names_fit-entries}
use Rattle.kadm_changes.proofs.dump_import.with_rows.Goals as goal

pub from_rows-requires-clause-names : goal.from_rows-requires-clause-names
unfolding AllNamesFit
from_rows-requires-clause-names c =
    subst AllNamesFit (sym c.in_ok-rows.ensures) (names_fit-entries c.args.entries.items c.requires.names)

pub from_rows-requires-clause-rows : goal.from_rows-requires-clause-rows
from_rows-requires-clause-rows c = rows_fit-entries c.args.entries.items c.in_ok-rows.rows c.requires.rows c.in_ok-rows.ensures
