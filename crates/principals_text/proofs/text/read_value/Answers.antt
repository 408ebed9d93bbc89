use Rattle.serde_json.specs.View.{view}
use Rattle.principals_text.proofs.RowEntries.{rows_fit}
use Rattle.principals.specs.NamesLaws.{AllNamesFit}
use Rattle.principals_text.proofs.text.read_value.Goals as goal

pub from_rows-requires-clause-names : goal.from_rows-requires-clause-names
unfolding AllNamesFit
from_rows-requires-clause-names c =
    rows_fit c.in-Some.format (view c.args.value.now) c.in_ok-rows.rows c.in_ok-rows.ensures.ok
