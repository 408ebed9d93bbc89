use Rattle.std.proofs.Common.{◌≡◌, length, take}
use Rattle.prf_kdf.specs.Hmac.{masked_octets}
use Rattle.prf_kdf.proofs.hmac.masked_hasher.Given as goal

abbrev pub invariant-loop-i : goal.invariant-loop-i
invariant-loop-i g l = (length l.masked ≡ 128) × (take l.i l.masked ≡ masked_octets l.mask (take l.i l.block))
