use Rattle.std.proofs.Common.{ap, ◌∙◌}
use Rattle.aes_cts.specs.Cipher.{aes, aes_inverse, IsBlock}
use Rattle.aes_cts.proofs.Lists.{All-octets}
use Rattle.aes_cts.proofs.key.AesKey.decrypt_under.Goals as goal

pub returns-clause-value : goal.returns-clause-value
returns-clause-value c =
    c.join_words.ensures ∙ c.decipher.ensures.value ∙ ap (aes_inverse c.args.self.now) c.split_block-state.ensures

pub returns-clause-inverse : goal.returns-clause-inverse
returns-clause-inverse c =
    let block : IsBlock c.args.block.now =
    record { size = c.told-block; octets = All-octets _ (record { at = c.fits-block }) } in
    ap (aes c.args.self.now) (returns-clause-value c)
    ∙ c.decipher.ensures.permutes.given_back c.args.block.now block
