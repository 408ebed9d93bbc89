use Rattle.std.proofs.Common.{◌∙◌}
use Rattle.aes_cts.proofs.Schedules.{encrypted_is}
use Rattle.aes_cts.proofs.Keys.{key_permutes}
use Rattle.aes_cts.proofs.key.AesKey.encipher.Goals as goal

pub returns-clause-value : goal.returns-clause-value
returns-clause-value c = c.cipher.ensures ∙ encrypted_is _ _ _ c.self.told c.self.invariant c.self.view_is _

pub returns-clause-permutes : goal.returns-clause-permutes
returns-clause-permutes c = key_permutes _ _ _ c.self.invariant c.self.view_is
