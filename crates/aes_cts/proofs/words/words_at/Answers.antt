use Rattle.aes_cts.proofs.BlockWords.{words_at_is}
use Rattle.aes_cts.proofs.words.words_at.Goals as goal

pub returns : goal.returns
returns c =
    words_at_is c.args.text.now c.args.at _ _ _ _ c.word_at.ensures c.word_at-2.ensures c.word_at-3.ensures
    c.word_at-4.ensures
