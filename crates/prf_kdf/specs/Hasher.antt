-- What the contracts of `Hasher` and `HmacKey` need from a hash function.
use Rattle.std.specs.Prelude.{ℕ, ◌<◌, ◌≤◌, List}
use Rattle.prf_kdf.specs.Hmac.{masked_octets}

-- a digest fits in a block, and a block in 128 bytes
abbrev pub SizesFit : ℕ → ℕ → Type 0
SizesFit block_len size = (0 < size) × (size ≤ block_len) × (block_len ≤ 128)

-- the two hashers have hashed a key's block with the two masks of HMAC
abbrev pub HoldsKeyBlock : {H : Type 0} → (H → List ℕ → Type 0) → H → H → List ℕ → Type 0
HoldsKeyBlock Holds inner outer block = Holds inner (masked_octets 0x36 block) × Holds outer (masked_octets 0x5c block)
