-- Derived keys (RFC 3961, sections 5.1 and 5.3; RFC 8009, section 3), and keys from passwords (RFC 3962, section 4; RFC
-- 8009, section 4).
use Rattle.std.specs.Prelude.{ℕ, zero, suc, List, [], ◌∷◌, ◌++◌, take, codes}
use Rattle.std.specs.Int.{w32, to_be_bytes, div_ceil}
use Rattle.aes_cts.specs.Cipher.{aes}
use Rattle.prf_kdf.specs.Fold.{n_fold}
use Rattle.prf_kdf.specs.Kdf.{kdf_sha256, kdf_sha384}
use Rattle.prf_kdf.specs.Pbkdf2.{pbkdf2_sha1, pbkdf2_sha256, pbkdf2_sha384}
use Rattle.enctypes.specs.declared.etype.Etype.{Etype}
use Rattle.enctypes.specs.declared.etype.Etype.TheVariants.{Aes128CtsHmacSha1_96, Aes256CtsHmacSha1_96}
use Rattle.enctypes.specs.declared.etype.Etype.TheVariants.{Aes128CtsHmacSha256_128, Aes256CtsHmacSha384_192}
use Rattle.enctypes.specs.declared.purpose.Purpose.{Purpose}
use Rattle.enctypes.specs.declared.purpose.Purpose.TheVariants.{Checksum, Encryption, Integrity}
use Rattle.enctypes.specs.Etype.{key_len, mac_key_len}

-- K(n + 1) of DR (RFC 3961, section 5.1): K1 is the constant, folded to a block and encrypted, and each further block
-- is the encryption of the one before. With an initial cipher state of zeros, encrypting a single block is plain AES.
unfoldable pub dr_block : List ℕ → List ℕ → ℕ → List ℕ
dr_block key constant zero = aes key (n_fold constant 16)
dr_block key constant (suc n) = aes key (dr_block key constant n)

-- K1 | K2 | .. | Kn
unfoldable pub dr_blocks : List ℕ → List ℕ → ℕ → List ℕ
dr_blocks key constant zero = []
dr_blocks key constant (suc n) = dr_blocks key constant n ++ dr_block key constant n

-- DR: the blocks, cut to the wanted length. AES's random-to-key changes nothing (RFC 3962, section 6), so this is DK
-- too.
unfoldable pub dr : List ℕ → List ℕ → ℕ → List ℕ
dr key constant len = take len (dr_blocks key constant (div_ceil len 16))

-- the bytes that a key derives from a constant
unfoldable pub derived : Etype → List ℕ → List ℕ → ℕ → List ℕ
derived Aes128CtsHmacSha1_96 key constant len = dr key constant len
derived Aes256CtsHmacSha1_96 key constant len = dr key constant len
derived Aes128CtsHmacSha256_128 key constant len = kdf_sha256 key constant len
derived Aes256CtsHmacSha384_192 key constant len = kdf_sha384 key constant len

-- the byte for a purpose of derived keys (RFC 3961, section 5.3; RFC 8009, section 3)
abbrev pub purpose_octet : Purpose → ℕ
purpose_octet Checksum = 0x99
purpose_octet Encryption = 0xAA
purpose_octet Integrity = 0x55

-- the constant for deriving a key: the usage as four bytes, and the purpose
unfoldable pub usage_constant : ℕ → Purpose → List ℕ
usage_constant usage purpose = to_be_bytes w32 usage ++ purpose_octet purpose ∷ []

-- the length of the derived key in bytes
abbrev pub derived_len : Etype → Purpose → ℕ
derived_len etype Checksum = mac_key_len etype
derived_len etype Encryption = key_len etype
derived_len etype Integrity = mac_key_len etype

unfoldable pub derived_key : Etype → List ℕ → ℕ → Purpose → List ℕ
derived_key etype key usage purpose = derived etype key (usage_constant usage purpose) (derived_len etype purpose)

-- the three keys derived from a protocol key for a usage
abbrev pub kc : Etype → List ℕ → ℕ → List ℕ
kc etype key usage = derived_key etype key usage Checksum

abbrev pub ke : Etype → List ℕ → ℕ → List ℕ
ke etype key usage = derived_key etype key usage Encryption

abbrev pub ki : Etype → List ℕ → ℕ → List ℕ
ki etype key usage = derived_key etype key usage Integrity

-- the key that PBKDF2 derives from a password: tkey of RFC 3962, section 4, and RFC 8009, section 4. In the latter the
-- salt is preceded by the name of the encryption type and a zero byte
unfoldable pub stretched : Etype → List ℕ → List ℕ → ℕ → List ℕ
stretched Aes128CtsHmacSha1_96 pass salt count = pbkdf2_sha1 pass salt count (key_len Aes128CtsHmacSha1_96)
stretched Aes256CtsHmacSha1_96 pass salt count = pbkdf2_sha1 pass salt count (key_len Aes256CtsHmacSha1_96)
stretched Aes128CtsHmacSha256_128 pass salt count =
    pbkdf2_sha256 pass (codes "aes128-cts-hmac-sha256-128" ++ 0 ∷ salt) count (key_len Aes128CtsHmacSha256_128)
stretched Aes256CtsHmacSha384_192 pass salt count =
    pbkdf2_sha384 pass (codes "aes256-cts-hmac-sha384-192" ++ 0 ∷ salt) count (key_len Aes256CtsHmacSha384_192)

-- string-to-key
unfoldable pub string_key : Etype → List ℕ → List ℕ → ℕ → List ℕ
string_key etype pass salt count = derived etype (stretched etype pass salt count) (codes "kerberos") (key_len etype)
