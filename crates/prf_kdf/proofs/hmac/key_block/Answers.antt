use Rattle.std.proofs.Common.{◌≡◌, length, arith, ap, ◌∙◌, refl}
use Rattle.prf_kdf.proofs.KeyBlocks.{key_block-long, key_block-short}
use Rattle.prf_kdf.proofs.hmac.key_block.Goals as goal

pub returns-then-key-BLOCK_LEN : goal.returns-then-key-BLOCK_LEN
returns-then-key-BLOCK_LEN g c =
    let fits = g.met.H.Hasher.sizes_fit in
    key_block-short g.H.Hasher.hash g.H.Hasher.BLOCK_LEN c.args.key.now _ (omega arith) fits.2 c.padded_block.ensures

pub returns : goal.returns
returns g c =
    let fits = g.met.H.Hasher.sizes_fit in
    let digest : c.finish.new.out ≡ g.H.Hasher.hash c.args.key.now =
    c.finish.ensures.digest _ (c.update.ensures _ c.new-hasher.ensures) in
    key_block-long g.H.Hasher.hash g.H.Hasher.BLOCK_LEN c.args.key.now _ (omega arith) fits.2
    (omega (arith, ap length digest, fits.1, c.finish.ensures.len)) (c.padded_block-2.ensures ∙ rw digest refl)
