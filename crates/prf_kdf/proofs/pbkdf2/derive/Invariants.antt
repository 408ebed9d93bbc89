use Rattle.std.proofs.Common.{◌≡◌, ◌*◌, length, take}
use Rattle.prf_kdf.specs.Hmac.{hmac}
use Rattle.prf_kdf.specs.Pbkdf2.{pbkdf2_blocks}
use Rattle.prf_kdf.proofs.pbkdf2.derive.Given as goal

-- the front of the output is that of the blocks so far
abbrev pub invariant-loop-i : goal.invariant-loop-i
invariant-loop-i g l =
    take (g.H.Hasher.SIZE * l.i) l.out
    ≡ take (length l.fn.out) (pbkdf2_blocks (hmac g.H.Hasher.hash g.H.Hasher.BLOCK_LEN l.password) l.salt l.count l.i)
