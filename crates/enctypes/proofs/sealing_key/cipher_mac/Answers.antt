use Rattle.std.proofs.Common.{◌≡◌, ◌++◌, subst}
use Rattle.std.proofs.lemmas.List.{append-nil}
use Rattle.enctypes.specs.Sealing.{cut_hmac, zero_vector}
use Rattle.enctypes.proofs.sealing_key.cipher_mac.Goals as goal

pub returns : goal.returns
returns c etype key is = subst (λ t. c.mac.result ≡ cut_hmac etype key (zero_vector ++ t)) (append-nil c.args.text.now) (c.mac.ensures etype key is)
