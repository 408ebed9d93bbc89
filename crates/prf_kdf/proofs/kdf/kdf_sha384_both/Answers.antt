use Rattle.sha2.specs.Sha512.{sha384}
use Rattle.prf_kdf.specs.Hmac.{hmac, key_block}
use Rattle.prf_kdf.proofs.kdf.kdf_sha384_both.Goals as goal

pub returns-clause-out : goal.returns-clause-out
unfolding hmac
returns-clause-out c = c.derive.ensures (key_block sha384 128 c.args.key.now) c.new-prf.ensures

pub returns-clause-other_out : goal.returns-clause-other_out
unfolding hmac
returns-clause-other_out c = c.derive-2.ensures (key_block sha384 128 c.args.key.now) c.new-prf.ensures
