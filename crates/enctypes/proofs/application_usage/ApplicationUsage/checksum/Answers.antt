use Rattle.std.proofs.Common.{length, ap, ◌∙◌, arith}
use Rattle.enctypes.specs.Sizes.{mac_len-most, length-cut_hmac}
use Rattle.enctypes.proofs.application_usage.ApplicationUsage.checksum.Goals as goal

pub returns-clause-len : goal.returns-clause-len
returns-clause-len c =
    ap length (c.mac.ensures c.args.key.now.etype _ c.checksum_key.ensures) ∙ length-cut_hmac c.args.key.now.etype _ _

pub returns-clause-most : goal.returns-clause-most
returns-clause-most c = omega (arith, returns-clause-len c, mac_len-most c.args.key.now.etype)
