-- Keys prepared for sealing and opening with one usage.
use Rattle.std.specs.Prelude.{◌≡◌, ℕ, List, Option, IfSome}
use Rattle.aes_cts.specs.Cipher.{IsInverseSchedule}
use Rattle.aes_cts.specs.KeyExpansion.{key_expansion, nr_of}
use Rattle.prf_kdf.specs.MacKeys.{IsSha1Key, IsSha256Key, IsSha384Key}
use Rattle.enctypes.specs.declared.etype.Etype.{Etype}
use Rattle.enctypes.specs.declared.etype.Etype.TheVariants.{Aes128CtsHmacSha1_96, Aes256CtsHmacSha1_96}
use Rattle.enctypes.specs.declared.etype.Etype.TheVariants.{Aes128CtsHmacSha256_128, Aes256CtsHmacSha384_192}
use Rattle.enctypes.specs.declared.key_usage.KeyUsage.{KeyUsage}
use Rattle.enctypes.specs.declared.mac_key.MacKey.{MacKey}
use Rattle.enctypes.specs.declared.mac_key.MacKey.TheVariants.{Sha1, Sha256, Sha384}
use Rattle.enctypes.specs.Derivation.{ke, ki}
use Rattle.enctypes.specs.Key.{ProtocolKey}

-- the hashers are those for the key, with the hash function of the encryption type
abbrev pub IsMacKey : Etype → List ℕ → MacKey → Type 0
IsMacKey Aes128CtsHmacSha1_96 key (Sha1 hashers) = IsSha1Key hashers key
IsMacKey Aes256CtsHmacSha1_96 key (Sha1 hashers) = IsSha1Key hashers key
IsMacKey Aes128CtsHmacSha256_128 key (Sha256 hashers) = IsSha256Key hashers key
IsMacKey Aes256CtsHmacSha384_192 key (Sha384 hashers) = IsSha384Key hashers key
IsMacKey _ _ _ = ⊥

-- a prepared key: that key and its usage
pub record ReadyKey : Type 0 where
  pub key : ProtocolKey
  pub usage : KeyUsage

-- what is derived for sealing: the key and the usage's number that it is derived from
pub record SealingKey : Type 0 where
  pub key : ProtocolKey
  pub usage : ℕ

-- the AES key is Ke, a decryption schedule is that of Ke, and the HMAC key is Ki
pub record IsReady (key : ProtocolKey) (usage : ℕ) (cipher : List ℕ) (schedule : Option (List ℕ))
    (hashers : MacKey) : Type 0 where
  pub encryption : cipher ≡ ke key.etype key.bytes usage
  pub decryption : IfSome schedule (λ words. IsInverseSchedule (key_expansion cipher) words (nr_of cipher))
  pub integrity : IsMacKey key.etype (ki key.etype key.bytes usage) hashers
