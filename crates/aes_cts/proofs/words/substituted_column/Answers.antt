use Rattle.std.proofs.Common.{arith}
use Rattle.aes_cts.specs.SBox.{s_box}
use Rattle.aes_cts.proofs.Tables.{s_box-lt}
use Rattle.aes_cts.proofs.WordLaws.{octets-xor}
use Rattle.aes_cts.proofs.words.substituted_column.Goals as goal

pub returns : goal.returns
returns c =
    rw (
      c.join_bytes.ensures.word,
      c.substitute.ensures,
      c.substitute-2.ensures,
      c.substitute-3.ensures,
      c.substitute-4.ensures,
    )
    (octets-xor (s_box c.args.a) (s_box c.args.b) (s_box c.args.c) (s_box c.args.d) c.args.key
    (s_box-lt c.args.a (omega arith)) (s_box-lt c.args.b (omega arith)) (s_box-lt c.args.c (omega arith))
    (s_box-lt c.args.d (omega arith)) (omega arith))
