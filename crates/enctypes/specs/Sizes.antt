-- The sizes of keys and codes.
use Rattle.std.proofs.Common.{◌≡◌, ◌⊎◌, inl, inr, ℕ, ◌≤◌, List, length, refl, codes, arith}
use Rattle.std.proofs.lemmas.List.{length-take-le}
use Rattle.prf_kdf.specs.Hmac.{hmac_sha1, hmac_sha256, hmac_sha384}
use Rattle.prf_kdf.proofs.Lengths.{length-hmac_sha1, length-hmac_sha256, length-hmac_sha384}
use Rattle.prf_kdf.proofs.Lengths.{length-kdf_sha256, length-kdf_sha384}
use Rattle.enctypes.specs.declared.etype.Etype.{Etype}
use Rattle.enctypes.specs.declared.etype.Etype.TheVariants.{Aes128CtsHmacSha1_96, Aes256CtsHmacSha1_96}
use Rattle.enctypes.specs.declared.etype.Etype.TheVariants.{Aes128CtsHmacSha256_128, Aes256CtsHmacSha384_192}
use Rattle.enctypes.specs.declared.purpose.Purpose.{Purpose}
use Rattle.enctypes.specs.declared.purpose.Purpose.TheVariants.{Checksum, Encryption, Integrity}
use Rattle.enctypes.specs.Etype.{key_len, mac_key_len, mac_len}
use Rattle.enctypes.specs.Derivation.{derived, usage_constant, derived_len, derived_key, stretched, string_key}
use Rattle.enctypes.specs.Sealing.{hmac_of, cut_hmac}
use Rattle.enctypes.specs.RandomBlocks.{length-dr}

pub key_len-cases : (etype : Etype) → (key_len etype ≡ 16) ⊎ (key_len etype ≡ 32)
key_len-cases Aes128CtsHmacSha1_96 = inl refl
key_len-cases Aes256CtsHmacSha1_96 = inr refl
key_len-cases Aes128CtsHmacSha256_128 = inl refl
key_len-cases Aes256CtsHmacSha384_192 = inr refl

pub key_len-most : (etype : Etype) → key_len etype ≤ 32
key_len-most Aes128CtsHmacSha1_96 = omega arith
key_len-most Aes256CtsHmacSha1_96 = omega arith
key_len-most Aes128CtsHmacSha256_128 = omega arith
key_len-most Aes256CtsHmacSha384_192 = omega arith

pub mac_key_len-most : (etype : Etype) → mac_key_len etype ≤ 32
mac_key_len-most Aes128CtsHmacSha1_96 = omega arith
mac_key_len-most Aes256CtsHmacSha1_96 = omega arith
mac_key_len-most Aes128CtsHmacSha256_128 = omega arith
mac_key_len-most Aes256CtsHmacSha384_192 = omega arith

pub mac_len-most : (etype : Etype) → mac_len etype ≤ 24
mac_len-most Aes128CtsHmacSha1_96 = omega arith
mac_len-most Aes256CtsHmacSha1_96 = omega arith
mac_len-most Aes128CtsHmacSha256_128 = omega arith
mac_len-most Aes256CtsHmacSha384_192 = omega arith

pub derived_len-most : (etype : Etype) (purpose : Purpose) → derived_len etype purpose ≤ 32
derived_len-most etype Checksum = mac_key_len-most etype
derived_len-most etype Encryption = key_len-most etype
derived_len-most etype Integrity = mac_key_len-most etype

pub length-derived : (etype : Etype) (key constant : List ℕ) (len : ℕ) → len ≤ 32
    → length (derived etype key constant len) ≡ len
unfolding derived
length-derived Aes128CtsHmacSha1_96 key constant len most = length-dr key constant len
length-derived Aes256CtsHmacSha1_96 key constant len most = length-dr key constant len
length-derived Aes128CtsHmacSha256_128 key constant len most = length-kdf_sha256 key constant len most
length-derived Aes256CtsHmacSha384_192 key constant len most = length-kdf_sha384 key constant len (omega arith)

pub length-derived_key : (etype : Etype) (key : List ℕ) (usage : ℕ) (purpose : Purpose)
    → length (derived_key etype key usage purpose) ≡ derived_len etype purpose
unfolding derived_key
length-derived_key etype key usage purpose =
    length-derived etype key (usage_constant usage purpose) (derived_len etype purpose) (derived_len-most etype purpose)

pub length-string_key : (etype : Etype) (pass salt : List ℕ) (count : ℕ)
    → length (string_key etype pass salt count) ≡ key_len etype
unfolding string_key
length-string_key etype pass salt count =
    length-derived etype (stretched etype pass salt count) (codes "kerberos") (key_len etype) (key_len-most etype)

pub length-cut_hmac : (etype : Etype) (key text : List ℕ) → length (cut_hmac etype key text) ≡ mac_len etype
unfolding hmac_of
length-cut_hmac Aes128CtsHmacSha1_96 key text =
    length-take-le 12 (hmac_sha1 key text) (omega (arith, length-hmac_sha1 key text))
length-cut_hmac Aes256CtsHmacSha1_96 key text =
    length-take-le 12 (hmac_sha1 key text) (omega (arith, length-hmac_sha1 key text))
length-cut_hmac Aes128CtsHmacSha256_128 key text =
    length-take-le 16 (hmac_sha256 key text) (omega (arith, length-hmac_sha256 key text))
length-cut_hmac Aes256CtsHmacSha384_192 key text =
    length-take-le 24 (hmac_sha384 key text) (omega (arith, length-hmac_sha384 key text))
