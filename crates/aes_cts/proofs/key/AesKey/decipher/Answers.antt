use Rattle.std.proofs.Common.{◌∙◌}
use Rattle.aes_cts.proofs.BlockWords.{block_of_words}
use Rattle.aes_cts.proofs.Schedules.{decrypted_is}
use Rattle.aes_cts.proofs.Keys.{key_permutes}
use Rattle.aes_cts.proofs.key.AesKey.decipher.Goals as goal

pub returns-clause-value : goal.returns-clause-value
returns-clause-value c =
    c.inverse_cipher.ensures
    ∙ decrypted_is _ _ _ _ c.self.told c.self.invariant c.self.view_is c.requires _
    (block_of_words c.args.state.now c.told-state)

pub returns-clause-permutes : goal.returns-clause-permutes
returns-clause-permutes c = key_permutes _ _ _ c.self.invariant c.self.view_is
