use Rattle.std.proofs.Common.{◌∙◌}
use Rattle.aes_cts.proofs.BlockWords.{sum_is}
use Rattle.aes_cts.proofs.words.xor_words.Goals as goal

pub returns : goal.returns
returns c = c.add_round_key.ensures ∙ sum_is _ _
