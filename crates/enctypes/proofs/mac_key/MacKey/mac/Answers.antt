use Rattle.std.proofs.Common.{subst, ◌∙◌}
use Rattle.std.specs.List.{flat_map}
use Rattle.prf_kdf.proofs.MacKeys.{mac-sha1, mac-sha256, mac-sha384}
use Rattle.enctypes.specs.ReadyKey.{IsMacKey}
use Rattle.enctypes.proofs.MacKeys.{cut-sha1, cut-sha256, cut-sha384}
use Rattle.enctypes.proofs.mac_key.MacKey.mac.Goals as goal

pub returns-in-Sha1 : goal.returns-in-Sha1
returns-in-Sha1 c etype key holds =
    let text = flat_map (λ part. part.now) c.args.parts.now in
    c.new.ensures
    ∙ cut-sha1 etype key text c.write_mac.new.out c.in-Sha1.key
    (mac-sha1 c.in-Sha1.key key text c.write_mac.new.out c.write_mac.ensures.mac)
    (subst (IsMacKey etype key) c.in-Sha1.is holds)

pub returns-in-Sha256 : goal.returns-in-Sha256
returns-in-Sha256 c etype key holds =
    let text = flat_map (λ part. part.now) c.args.parts.now in
    c.new-in-Sha256.ensures
    ∙ cut-sha256 etype key text c.write_mac-in-Sha256.new.out c.in-Sha256.key
    (mac-sha256 c.in-Sha256.key key text c.write_mac-in-Sha256.new.out c.write_mac-in-Sha256.ensures.mac)
    (subst (IsMacKey etype key) c.in-Sha256.is holds)

pub returns-in-Sha384 : goal.returns-in-Sha384
returns-in-Sha384 c etype key holds =
    let text = flat_map (λ part. part.now) c.args.parts.now in
    c.new-in-Sha384.ensures
    ∙ cut-sha384 etype key text c.write_mac-in-Sha384.new.out c.in-Sha384.key
    (mac-sha384 c.in-Sha384.key key text c.write_mac-in-Sha384.new.out c.write_mac-in-Sha384.ensures.mac)
    (subst (IsMacKey etype key) c.in-Sha384.is holds)
