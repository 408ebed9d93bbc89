-- The assigned numbers and key lengths of the encryption types: RFC 3962, section 7; RFC 8009, section 5.
use Rattle.std.specs.Prelude.{ℕ, ℤ, Bool, true, false}
use Rattle.krb_fields.specs.declared.numbers.TheConstants as numbers
use Rattle.enctypes.specs.declared.etype.Etype.{Etype}
use Rattle.enctypes.specs.declared.etype.Etype.TheVariants.{Aes128CtsHmacSha1_96, Aes256CtsHmacSha1_96}
use Rattle.enctypes.specs.declared.etype.Etype.TheVariants.{Aes128CtsHmacSha256_128, Aes256CtsHmacSha384_192}
use Rattle.enctypes.specs.declared.hash.Hash.{Hash}
use Rattle.enctypes.specs.declared.hash.Hash.TheVariants.{Sha1, Sha256, Sha384}

-- the hash function of its HMACs and of PBKDF2
abbrev pub hash : Etype → Hash
hash Aes128CtsHmacSha1_96 = Sha1
hash Aes256CtsHmacSha1_96 = Sha1
hash Aes128CtsHmacSha256_128 = Sha256
hash Aes256CtsHmacSha384_192 = Sha384

-- the number that IANA assigned to the encryption type
abbrev pub number : Etype → ℤ
number Aes128CtsHmacSha1_96 = numbers.AES128_CTS_HMAC_SHA1_96
number Aes256CtsHmacSha1_96 = numbers.AES256_CTS_HMAC_SHA1_96
number Aes128CtsHmacSha256_128 = numbers.AES128_CTS_HMAC_SHA256_128
number Aes256CtsHmacSha384_192 = numbers.AES256_CTS_HMAC_SHA384_192

-- the length of a protocol key in bytes
abbrev pub key_len : Etype → ℕ
key_len Aes128CtsHmacSha1_96 = 16
key_len Aes256CtsHmacSha1_96 = 32
key_len Aes128CtsHmacSha256_128 = 16
key_len Aes256CtsHmacSha384_192 = 32

-- both are the same encryption type
abbrev pub is_same : Etype → Etype → Bool
is_same Aes128CtsHmacSha1_96 Aes128CtsHmacSha1_96 = true
is_same Aes256CtsHmacSha1_96 Aes256CtsHmacSha1_96 = true
is_same Aes128CtsHmacSha256_128 Aes128CtsHmacSha256_128 = true
is_same Aes256CtsHmacSha384_192 Aes256CtsHmacSha384_192 = true
is_same _ _ = false

-- the length of a checksum, and of the HMAC at the end of a sealed text, in bytes: RFC 3962, section 7; RFC 8009,
-- section 5
abbrev pub mac_len : Etype → ℕ
mac_len Aes128CtsHmacSha1_96 = 12
mac_len Aes256CtsHmacSha1_96 = 12
mac_len Aes128CtsHmacSha256_128 = 16
mac_len Aes256CtsHmacSha384_192 = 24

-- the length of the derived keys for HMACs, in bytes: RFC 3961, section 5.3; RFC 8009, section 3
abbrev pub mac_key_len : Etype → ℕ
mac_key_len Aes128CtsHmacSha1_96 = 16
mac_key_len Aes256CtsHmacSha1_96 = 32
mac_key_len Aes128CtsHmacSha256_128 = 16
mac_key_len Aes256CtsHmacSha384_192 = 24

-- the number of the checksum type for the encryption type: RFC 3962, section 7; RFC 8009, section 6
abbrev pub checksum_type : Etype → ℤ
checksum_type Aes128CtsHmacSha1_96 = numbers.HMAC_SHA1_96_AES128
checksum_type Aes256CtsHmacSha1_96 = numbers.HMAC_SHA1_96_AES256
checksum_type Aes128CtsHmacSha256_128 = numbers.HMAC_SHA256_128_AES128
checksum_type Aes256CtsHmacSha384_192 = numbers.HMAC_SHA384_192_AES256

-- the default iteration count of string-to-key: RFC 3962, section 4; RFC 8009, section 4
abbrev pub default_count : Etype → ℕ
default_count Aes128CtsHmacSha1_96 = 4096
default_count Aes256CtsHmacSha1_96 = 4096
default_count Aes128CtsHmacSha256_128 = 32768
default_count Aes256CtsHmacSha384_192 = 32768
