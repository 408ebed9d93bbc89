use Rattle.std.proofs.Common.{rules, ◌≡◌, List, Some, reverse, sym, ap, ◌∙◌}
use Rattle.std.specs.FinMap.{from_entries}
use Rattle.json.specs.Lex.{tokens}
use Rattle.principal_rows.specs.NameMap.{pairs}
use Rattle.principal_rows.specs.declared.name_map.Entry.{Entry}
use Rattle.principal_rows.specs.declared.row.Row.{Row}
use Rattle.principals_text.specs.Ahead.{rows_in, text_value, HoldsParts}
use Rattle.principals_text.specs.Format.{newest}
use Rattle.principals_text.proofs.RowByRow.{turned_rows}
use Rattle.principals_text.proofs.RowEntries.{rows_fit}
use Rattle.principals.specs.NamesLaws.{AllNamesFit}
use Rattle.principals_text.proofs.by_rows.read_by_rows.Goals as goal

pub from_rows-requires-clause-names : goal.from_rows-requires-clause-names
unfolding AllNamesFit
from_rows-requires-clause-names c =
    let p = c.in_ok-realm.field-0 in
    let held : HoldsParts (tokens c.args.text.now) p.realm p.entries.items = c.in_ok-realm.ensures.parts in
    let turned : c.reverse.new.self.items ≡ reverse p.entries.items = search rules in
    let are : c.in-Ok.rows ≡ from_entries (pairs (reverse p.entries.items)) =
    c.in-Ok.ensures ∙ ap (λ (l : List (Entry Row)). from_entries (pairs l)) turned in
    let is : rows_in held.0 ≡ Some c.in-Ok.rows = held.3 ∙ ap Some (sym are) in
    rows_fit newest (text_value held.0 held.1) c.in-Ok.rows is

pub from_rows-requires-clause-rows : goal.from_rows-requires-clause-rows
from_rows-requires-clause-rows c =
    let p = c.in_ok-realm.field-0 in
    let turned : c.reverse.new.self.items ≡ reverse p.entries.items = search rules in
    let are : c.in-Ok.rows ≡ from_entries (pairs (reverse p.entries.items)) =
    c.in-Ok.ensures ∙ ap (λ (l : List (Entry Row)). from_entries (pairs l)) turned in
    turned_rows p.entries.items c.in-Ok.rows c.in_ok-realm.ensures.rows are
