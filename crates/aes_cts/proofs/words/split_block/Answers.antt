use Rattle.std.proofs.Common.{◌∙◌, arith}
use Rattle.std.proofs.lemmas.List.{take_all}
use Rattle.aes_cts.proofs.words.split_block.Goals as goal

pub returns : goal.returns
returns c = c.words_at.ensures ∙ take_all 16 c.args.block.now (omega (arith, c.told-block))
