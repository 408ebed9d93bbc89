use Rattle.std.proofs.Common.{◌∙◌, arith}
use Rattle.aes_cts.proofs.BlockWords.{two_words}
use Rattle.aes_cts.proofs.words.join_two.Goals as goal

pub returns : goal.returns
returns c =
    c.to_be_bytes.ensures
    ∙ rw (c.from.ensures, c.from-2.ensures) (two_words c.args.a c.args.b (omega arith) (omega arith))
