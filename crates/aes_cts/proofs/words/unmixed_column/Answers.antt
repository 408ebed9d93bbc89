use Rattle.std.proofs.Common.{arith}
use Rattle.aes_cts.specs.SBox.{inverse_s_box}
use Rattle.aes_cts.proofs.Tables.{inverse_s_box-lt}
use Rattle.aes_cts.proofs.WordLaws.{column_is}
use Rattle.aes_cts.proofs.words.unmixed_column.Goals as goal

pub returns : goal.returns
returns c =
    rw (
      c.unmixing.ensures,
      c.unmixing-2.ensures,
      c.unmixing-3.ensures,
      c.unmixing-4.ensures,
    )
    (column_is 14 11 13 9 c.args.key (inverse_s_box c.args.a) (inverse_s_box c.args.b) (inverse_s_box c.args.c)
    (inverse_s_box c.args.d) (omega arith)
    (inverse_s_box-lt c.args.a (omega arith)) (inverse_s_box-lt c.args.b (omega arith))
    (inverse_s_box-lt c.args.c (omega arith)) (inverse_s_box-lt c.args.d (omega arith)))
