use Rattle.std.proofs.Common.{rules, ◌≡◌, ◌≤◌, Some, arith}
use Rattle.serde_json.specs.Data.{depth}
use Rattle.principals_text.specs.NameOf.{name_of}
use Rattle.principals_text.specs.RowWritten.{row_value}
use Rattle.principals_text.proofs.Shapes.{depth-row}
use Rattle.principals_text.proofs.TakenTokens.{value_next, shorter}
use Rattle.principals_text.proofs.by_rows.read_entry.Goals as goal

pub returns-clause-row : goal.returns-clause-row
returns-clause-row c =
    let d = row_value c.in_ok-value.value in
    let named : name_of c.args.text.now ≡ Some c.in-Ok.name.components = search rules in
    let nests : depth (row_value c.in_ok-value.value) ≤ 125 = omega (arith, depth-row c.in_ok-value.value) in (
      d,
      value_next 125 d c.args.reader.now c.take_row.new.reader c.know_row.ensures.kept nests c.in_ok-value.ensures.tokens,
      named,
      c.know_row.ensures.reads,
    )

pub returns-clause-shorter : goal.returns-clause-shorter
returns-clause-shorter c some = shorter (row_value c.in_ok-value.value) c.args.reader.now c.take_row.new.reader c.in_ok-value.ensures.tokens
