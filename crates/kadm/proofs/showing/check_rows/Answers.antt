use Rattle.std.proofs.Common.{◌+◌, refl}
use Rattle.kadm.proofs.RowsThere.{rows_end, rows_on}
use Rattle.kadm.proofs.showing.check_rows.Goals as goal

pub loop-name-preserved : goal.loop-name-preserved
loop-name-preserved c =
    rows_on c.args.database.now c.args.names.now c.loop-name.name-index (c.loop-name.name-index + 1) _ refl c.loop-name-test.true c.loop-name.invariant
    c.in_ok-check_row.ensures

pub returns : goal.returns
returns c = rows_end c.args.database.now c.args.names.now c.loop-name.name-index c.loop-name-test.false c.loop-name.invariant
