-- The standards' examples for the definitions over SHA-1, so that a wrong definition does not check.
use Rattle.std.proofs.Common.{◌≡◌, [], ◌∷◌, codes, refl}
use Rattle.sha1.specs.Sha1.{first_words, schedule, rounds, compress, hash_after, digest_bytes, sha1}
use Rattle.prf_kdf.specs.Hmac.{key_block, hmac, hmac_sha1}
use Rattle.prf_kdf.specs.Pbkdf2.{iterate, iterates_xor, pbkdf2_blocks, pbkdf2, pbkdf2_sha1}

-- case 2 of RFC 2202
pub hmac_sha1-jefe : hmac_sha1 (codes "Jefe") (codes "what do ya want for nothing?") ≡
    0xef ∷ 0xfc ∷ 0xdf ∷ 0x6a ∷ 0xe5 ∷ 0xeb ∷ 0x2f ∷ 0xa2 ∷ 0xd2 ∷ 0x74 ∷ 0x16 ∷ 0xd5 ∷ 0xf1 ∷ 0x84 ∷ 0xdf ∷ 0x9c ∷
    0x25 ∷ 0x9a ∷ 0x7c ∷ 0x79 ∷ []
unfolding first_words schedule rounds compress hash_after digest_bytes sha1 key_block hmac
hmac_sha1-jefe = refl

-- the examples of RFC 3962, appendix B, with one and two iterations
pub pbkdf2_sha1-one : pbkdf2_sha1 (codes "password") (codes "ATHENA.MIT.EDUraeburn") 1 16 ≡
    0xcd ∷ 0xed ∷ 0xb5 ∷ 0x28 ∷ 0x1b ∷ 0xb2 ∷ 0xf8 ∷ 0x01 ∷ 0x56 ∷ 0x5a ∷ 0x11 ∷ 0x22 ∷ 0xb2 ∷ 0x56 ∷ 0x35 ∷ 0x15 ∷ []
unfolding first_words schedule rounds compress hash_after digest_bytes sha1 key_block hmac
    iterate iterates_xor pbkdf2_blocks pbkdf2
pbkdf2_sha1-one = refl

pub pbkdf2_sha1-two : pbkdf2_sha1 (codes "password") (codes "ATHENA.MIT.EDUraeburn") 2 32 ≡
    0x01 ∷ 0xdb ∷ 0xee ∷ 0x7f ∷ 0x4a ∷ 0x9e ∷ 0x24 ∷ 0x3e ∷ 0x98 ∷ 0x8b ∷ 0x62 ∷ 0xc7 ∷ 0x3c ∷ 0xda ∷ 0x93 ∷ 0x5d ∷
    0xa0 ∷ 0x53 ∷ 0x78 ∷ 0xb9 ∷ 0x32 ∷ 0x44 ∷ 0xec ∷ 0x8f ∷ 0x48 ∷ 0xa9 ∷ 0x9e ∷ 0x61 ∷ 0xad ∷ 0x79 ∷ 0x9d ∷ 0x86 ∷ []
unfolding first_words schedule rounds compress hash_after digest_bytes sha1 key_block hmac
    iterate iterates_xor pbkdf2_blocks pbkdf2
pbkdf2_sha1-two = refl
