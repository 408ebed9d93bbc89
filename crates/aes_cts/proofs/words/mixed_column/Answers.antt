use Rattle.std.proofs.Common.{arith}
use Rattle.aes_cts.specs.SBox.{s_box}
use Rattle.aes_cts.proofs.Tables.{s_box-lt}
use Rattle.aes_cts.proofs.WordLaws.{column_is}
use Rattle.aes_cts.proofs.words.mixed_column.Goals as goal

pub returns : goal.returns
returns c =
    rw (
      c.mixing.ensures,
      c.mixing-2.ensures,
      c.mixing-3.ensures,
      c.mixing-4.ensures,
    )
    (column_is 2 3 1 1 c.args.key (s_box c.args.a) (s_box c.args.b) (s_box c.args.c) (s_box c.args.d) (omega arith)
    (s_box-lt c.args.a (omega arith)) (s_box-lt c.args.b (omega arith)) (s_box-lt c.args.c (omega arith))
    (s_box-lt c.args.d (omega arith)))
