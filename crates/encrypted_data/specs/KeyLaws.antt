-- A key that was put in a message is read as that key.
use Rattle.std.proofs.Common.{◌≡◌, Bool, cond, List, ℕ, length, Option, Some, None, ap, eq-eqb}
use Rattle.enctypes.specs.Etype.{key_len, number}
use Rattle.enctypes.specs.declared.etype.Etype.{Etype}
use Rattle.enctypes.specs.declared.etype.Etype.TheVariants.{Aes128CtsHmacSha1_96, Aes256CtsHmacSha1_96}
use Rattle.enctypes.specs.declared.etype.Etype.TheVariants.{Aes128CtsHmacSha256_128, Aes256CtsHmacSha384_192}
use Rattle.enctypes.specs.declared.key.Key.{Key}
use Rattle.encrypted_data.specs.Keys.{key_of}

-- a key of the encryption type, if its length is right
abbrev key_by : Etype → List ℕ → Bool → Option Key
key_by etype bytes size = cond size (Some (record { etype = etype; bytes = bytes })) None

of_type : (etype : Etype) (bytes : List ℕ) → length bytes ≡ key_len etype
    → key_of (number etype) bytes ≡ Some (record { etype = etype; bytes = bytes })
of_type Aes128CtsHmacSha1_96 bytes size = ap (key_by Aes128CtsHmacSha1_96 bytes) (eq-eqb (length bytes) 16 size)
of_type Aes256CtsHmacSha1_96 bytes size = ap (key_by Aes256CtsHmacSha1_96 bytes) (eq-eqb (length bytes) 32 size)
of_type Aes128CtsHmacSha256_128 bytes size = ap (key_by Aes128CtsHmacSha256_128 bytes) (eq-eqb (length bytes) 16 size)
of_type Aes256CtsHmacSha384_192 bytes size = ap (key_by Aes256CtsHmacSha384_192 bytes) (eq-eqb (length bytes) 32 size)

pub key_again : (key : Key) → length key.bytes ≡ key_len key.etype → key_of (number key.etype) key.bytes ≡ Some key
key_again key size = of_type key.etype key.bytes size
