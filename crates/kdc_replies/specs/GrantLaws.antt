-- The session key of a grant has the length for its encryption type.
use Rattle.std.proofs.Common.{◌≡◌, ◌≤◌, ℕ, List, length, take, arith, ◌∙◌, ap}
use Rattle.std.proofs.lemmas.List.{length-take-le, take-take}
use Rattle.enctypes.specs.Etype.{key_len}
use Rattle.enctypes.specs.declared.etype.Etype.{Etype}
use Rattle.enctypes.specs.declared.etype.Etype.TheVariants.{Aes128CtsHmacSha1_96, Aes256CtsHmacSha1_96}
use Rattle.enctypes.specs.declared.etype.Etype.TheVariants.{Aes128CtsHmacSha256_128, Aes256CtsHmacSha384_192}
use Rattle.kdc_replies.specs.Grant.{session_key}

taken : (n : ℕ) (random : List ℕ) → n ≤ 32 → 32 ≤ length random → length (take n (take 32 random)) ≡ n
taken n random le long = ap length (take-take n 32 random le) ∙ length-take-le n random (omega arith)

pub session_key_size : (etype : Etype) (random : List ℕ) → 32 ≤ length random
    → length (session_key etype random).bytes ≡ key_len etype
session_key_size Aes128CtsHmacSha1_96 random long = taken 16 random (omega arith) long
session_key_size Aes256CtsHmacSha1_96 random long = taken 32 random (omega arith) long
session_key_size Aes128CtsHmacSha256_128 random long = taken 16 random (omega arith) long
session_key_size Aes256CtsHmacSha384_192 random long = taken 32 random (omega arith) long
