-- The standard's examples for the definitions over SHA-2, so that a wrong definition does not check. All are from RFC
-- 8009, appendix A.
use Rattle.std.proofs.Common.{◌≡◌, ℕ, List, [], ◌∷◌, refl}
use Rattle.std.specs.List.{range_with_len}
use Rattle.sha2.specs.Sha256.{first_words, schedule, compress, hash_after, digest_bytes, sha256}
use Rattle.sha2.specs.Sha256.{rounds as sha256_rounds}
use Rattle.sha2.specs.Sha512.{first_words as first_words_512, schedule as schedule_512, compress as compress_512}
use Rattle.sha2.specs.Sha512.{hash_after as hash_after_512, digest_bytes as digest_bytes_512, sha384}
use Rattle.sha2.specs.Sha512.{rounds as rounds_512}
use Rattle.aes_cts.specs.Field.{times_low, times, power_of_x, square, power_of_twos, inverse}
use Rattle.aes_cts.specs.SBox.{affine, s_box}
use Rattle.aes_cts.specs.State.{sub_bytes, shift_rows, mix_columns, add_round_key}
use Rattle.aes_cts.specs.KeyExpansion.{expanded, key_expansion}
use Rattle.aes_cts.specs.Cipher.{rounds, cipher, aes}
use Rattle.aes_cts.specs.Cts.{xor_blocks, cipher_block, cbc, swapped, cts}
use Rattle.prf_kdf.specs.Hmac.{key_block, hmac}
use Rattle.enctypes.specs.declared.etype.Etype.TheVariants.{Aes128CtsHmacSha256_128, Aes256CtsHmacSha384_192}
use Rattle.enctypes.specs.Derivation.{derived, usage_constant, derived_key, kc, ke, ki}
use Rattle.enctypes.specs.Sealing.{hmac_of, mac, seal}

-- the base keys
abbrev base_128 : List ℕ
base_128 =
    0x37 ∷ 0x05 ∷ 0xd9 ∷ 0x60 ∷ 0x80 ∷ 0xc1 ∷ 0x77 ∷ 0x28 ∷ 0xa0 ∷ 0xe8 ∷ 0x00 ∷ 0xea ∷ 0xb6 ∷ 0xe0 ∷ 0xd2 ∷ 0x3c ∷ []

abbrev base_256 : List ℕ
base_256 =
    0x6d ∷ 0x40 ∷ 0x4d ∷ 0x37 ∷ 0xfa ∷ 0xf7 ∷ 0x9f ∷ 0x9d ∷ 0xf0 ∷ 0xd3 ∷ 0x35 ∷ 0x68 ∷ 0xd3 ∷ 0x20 ∷ 0x66 ∷ 0x98 ∷
    0x00 ∷ 0xeb ∷ 0x48 ∷ 0x36 ∷ 0x47 ∷ 0x2e ∷ 0xa8 ∷ 0xa0 ∷ 0x26 ∷ 0xd1 ∷ 0x6b ∷ 0x71 ∷ 0x82 ∷ 0x46 ∷ 0x0c ∷ 0x52 ∷ []

pub kc-19 : kc Aes128CtsHmacSha256_128 base_128 2 ≡
    0xb3 ∷ 0x1a ∷ 0x01 ∷ 0x8a ∷ 0x48 ∷ 0xf5 ∷ 0x47 ∷ 0x76 ∷ 0xf4 ∷ 0x03 ∷ 0xe9 ∷ 0xa3 ∷ 0x96 ∷ 0x32 ∷ 0x5d ∷ 0xc3 ∷ []
unfolding first_words schedule sha256_rounds compress hash_after digest_bytes sha256 key_block hmac derived
    usage_constant derived_key
kc-19 = refl

pub ke-19 : ke Aes128CtsHmacSha256_128 base_128 2 ≡
    0x9b ∷ 0x19 ∷ 0x7d ∷ 0xd1 ∷ 0xe8 ∷ 0xc5 ∷ 0x60 ∷ 0x9d ∷ 0x6e ∷ 0x67 ∷ 0xc3 ∷ 0xe3 ∷ 0x7c ∷ 0x62 ∷ 0xc7 ∷ 0x2e ∷ []
unfolding first_words schedule sha256_rounds compress hash_after digest_bytes sha256 key_block hmac derived
    usage_constant derived_key
ke-19 = refl

pub ki-19 : ki Aes128CtsHmacSha256_128 base_128 2 ≡
    0x9f ∷ 0xda ∷ 0x0e ∷ 0x56 ∷ 0xab ∷ 0x2d ∷ 0x85 ∷ 0xe1 ∷ 0x56 ∷ 0x9a ∷ 0x68 ∷ 0x86 ∷ 0x96 ∷ 0xc2 ∷ 0x6a ∷ 0x6c ∷ []
unfolding first_words schedule sha256_rounds compress hash_after digest_bytes sha256 key_block hmac derived
    usage_constant derived_key
ki-19 = refl

pub kc-20 : kc Aes256CtsHmacSha384_192 base_256 2 ≡
    0xef ∷ 0x57 ∷ 0x18 ∷ 0xbe ∷ 0x86 ∷ 0xcc ∷ 0x84 ∷ 0x96 ∷ 0x3d ∷ 0x8b ∷ 0xbb ∷ 0x50 ∷ 0x31 ∷ 0xe9 ∷ 0xf5 ∷ 0xc4 ∷
    0xba ∷ 0x41 ∷ 0xf2 ∷ 0x8f ∷ 0xaf ∷ 0x69 ∷ 0xe7 ∷ 0x3d ∷ []
unfolding first_words_512 schedule_512 rounds_512 compress_512 hash_after_512 digest_bytes_512 sha384 key_block hmac
    derived usage_constant derived_key
kc-20 = refl

pub ke-20 : ke Aes256CtsHmacSha384_192 base_256 2 ≡
    0x56 ∷ 0xab ∷ 0x22 ∷ 0xbe ∷ 0xe6 ∷ 0x3d ∷ 0x82 ∷ 0xd7 ∷ 0xbc ∷ 0x52 ∷ 0x27 ∷ 0xf6 ∷ 0x77 ∷ 0x3f ∷ 0x8e ∷ 0xa7 ∷
    0xa5 ∷ 0xeb ∷ 0x1c ∷ 0x82 ∷ 0x51 ∷ 0x60 ∷ 0xc3 ∷ 0x83 ∷ 0x12 ∷ 0x98 ∷ 0x0c ∷ 0x44 ∷ 0x2e ∷ 0x5c ∷ 0x7e ∷ 0x49 ∷ []
unfolding first_words_512 schedule_512 rounds_512 compress_512 hash_after_512 digest_bytes_512 sha384 key_block hmac
    derived usage_constant derived_key
ke-20 = refl

pub ki-20 : ki Aes256CtsHmacSha384_192 base_256 2 ≡
    0x69 ∷ 0xb1 ∷ 0x65 ∷ 0x14 ∷ 0xe3 ∷ 0xcd ∷ 0x8e ∷ 0x56 ∷ 0xb8 ∷ 0x20 ∷ 0x10 ∷ 0xd5 ∷ 0xc7 ∷ 0x30 ∷ 0x12 ∷ 0xb6 ∷
    0x22 ∷ 0xc4 ∷ 0xd0 ∷ 0x0f ∷ 0xfc ∷ 0x23 ∷ 0xed ∷ 0x1f ∷ []
unfolding first_words_512 schedule_512 rounds_512 compress_512 hash_after_512 digest_bytes_512 sha384 key_block hmac
    derived usage_constant derived_key
ki-20 = refl

-- the checksum of the bytes 00 to 14
pub mac-19 : mac Aes128CtsHmacSha256_128 base_128 2 (range_with_len 0 21) ≡
    0xd7 ∷ 0x83 ∷ 0x67 ∷ 0x18 ∷ 0x66 ∷ 0x43 ∷ 0xd6 ∷ 0x7b ∷ 0x41 ∷ 0x1c ∷ 0xba ∷ 0x91 ∷ 0x39 ∷ 0xfc ∷ 0x1d ∷ 0xee ∷ []
unfolding first_words schedule sha256_rounds compress hash_after digest_bytes sha256 key_block hmac derived
    usage_constant derived_key hmac_of mac
mac-19 = refl

pub mac-20 : mac Aes256CtsHmacSha384_192 base_256 2 (range_with_len 0 21) ≡
    0x45 ∷ 0xee ∷ 0x79 ∷ 0x15 ∷ 0x67 ∷ 0xee ∷ 0xfc ∷ 0xa3 ∷ 0x7f ∷ 0x4a ∷ 0xc1 ∷ 0xe0 ∷ 0x22 ∷ 0x2d ∷ 0xe8 ∷ 0x0d ∷
    0x43 ∷ 0xc3 ∷ 0xbf ∷ 0xa0 ∷ 0x66 ∷ 0x99 ∷ 0x67 ∷ 0x2a ∷ []
unfolding first_words_512 schedule_512 rounds_512 compress_512 hash_after_512 digest_bytes_512 sha384 key_block hmac
    derived usage_constant derived_key hmac_of mac
mac-20 = refl

-- 6 bytes, sealed
pub seal-19 : seal Aes128CtsHmacSha256_128 base_128 2
    (0x7b ∷ 0xca ∷ 0x28 ∷ 0x5e ∷ 0x2f ∷ 0xd4 ∷ 0x13 ∷ 0x0f ∷ 0xb5 ∷ 0x5b ∷ 0x1a ∷ 0x5c ∷ 0x83 ∷ 0xbc ∷ 0x5b ∷ 0x24 ∷ [])
    (range_with_len 0 6) ≡
    0x84 ∷ 0xd7 ∷ 0xf3 ∷ 0x07 ∷ 0x54 ∷ 0xed ∷ 0x98 ∷ 0x7b ∷ 0xab ∷ 0x0b ∷ 0xf3 ∷ 0x50 ∷ 0x6b ∷ 0xeb ∷ 0x09 ∷ 0xcf ∷
    0xb5 ∷ 0x54 ∷ 0x02 ∷ 0xce ∷ 0xf7 ∷ 0xe6 ∷ 0x87 ∷ 0x7c ∷ 0xe9 ∷ 0x9e ∷ 0x24 ∷ 0x7e ∷ 0x52 ∷ 0xd1 ∷ 0x6e ∷ 0xd4 ∷
    0x42 ∷ 0x1d ∷ 0xfd ∷ 0xf8 ∷ 0x97 ∷ 0x6c ∷ []
unfolding first_words schedule sha256_rounds compress hash_after digest_bytes sha256 key_block hmac derived
    usage_constant derived_key hmac_of
    times_low times square power_of_twos inverse affine s_box sub_bytes shift_rows mix_columns add_round_key
    power_of_x expanded key_expansion rounds cipher aes xor_blocks cipher_block cbc swapped cts seal
seal-19 = refl
