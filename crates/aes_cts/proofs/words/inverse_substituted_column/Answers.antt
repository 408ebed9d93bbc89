use Rattle.std.proofs.Common.{arith}
use Rattle.aes_cts.specs.SBox.{inverse_s_box}
use Rattle.aes_cts.proofs.Tables.{inverse_s_box-lt}
use Rattle.aes_cts.proofs.WordLaws.{octets-xor}
use Rattle.aes_cts.proofs.words.inverse_substituted_column.Goals as goal

pub returns : goal.returns
returns c =
    rw (
      c.join_bytes.ensures.word,
      c.inverse_substitute.ensures,
      c.inverse_substitute-2.ensures,
      c.inverse_substitute-3.ensures,
      c.inverse_substitute-4.ensures,
    )
    (octets-xor (inverse_s_box c.args.a) (inverse_s_box c.args.b) (inverse_s_box c.args.c) (inverse_s_box c.args.d)
    c.args.key
    (inverse_s_box-lt c.args.a (omega arith)) (inverse_s_box-lt c.args.b (omega arith))
    (inverse_s_box-lt c.args.c (omega arith)) (inverse_s_box-lt c.args.d (omega arith)) (omega arith))
