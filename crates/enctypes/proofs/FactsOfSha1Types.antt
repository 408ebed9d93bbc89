-- RFC 3962's examples (appendix B) for the definitions themselves, so that a wrong definition does not check. PBKDF2's
-- result for the password is an example there too, for the definitions of prf_kdf.
use Rattle.std.proofs.Common.{◌≡◌, ℕ, List, [], ◌∷◌, codes, refl, ap, ◌∙◌}
use Rattle.aes_cts.specs.Field.{times_low, times, power_of_x, square, power_of_twos, inverse}
use Rattle.aes_cts.specs.SBox.{affine, s_box}
use Rattle.aes_cts.specs.State.{sub_bytes, shift_rows, mix_columns, add_round_key}
use Rattle.aes_cts.specs.KeyExpansion.{expanded, key_expansion}
use Rattle.aes_cts.specs.Cipher.{rounds, cipher, aes}
use Rattle.prf_kdf.specs.Fold.{number, octets_of, rotated_copies, gcd_within, pieces_sum, n_fold}
use Rattle.prf_kdf.proofs.FactsOfSha1.{pbkdf2_sha1-one, pbkdf2_sha1-two}
use Rattle.enctypes.specs.declared.etype.Etype.TheVariants.{Aes128CtsHmacSha1_96, Aes256CtsHmacSha1_96}
use Rattle.enctypes.specs.Derivation.{dr_block, dr_blocks, dr, derived, stretched, string_key}

derived-17 : derived Aes128CtsHmacSha1_96
    (0xcd ∷ 0xed ∷ 0xb5 ∷ 0x28 ∷ 0x1b ∷ 0xb2 ∷ 0xf8 ∷ 0x01 ∷ 0x56 ∷ 0x5a ∷ 0x11 ∷ 0x22 ∷ 0xb2 ∷ 0x56 ∷ 0x35 ∷ 0x15 ∷ [])
    (codes "kerberos") 16 ≡
    0x42 ∷ 0x26 ∷ 0x3c ∷ 0x6e ∷ 0x89 ∷ 0xf4 ∷ 0xfc ∷ 0x28 ∷ 0xb8 ∷ 0xdf ∷ 0x68 ∷ 0xee ∷ 0x09 ∷ 0x79 ∷ 0x9f ∷ 0x15 ∷ []
unfolding number octets_of rotated_copies gcd_within pieces_sum n_fold times_low times square power_of_twos inverse
    affine s_box sub_bytes shift_rows mix_columns add_round_key power_of_x expanded key_expansion rounds cipher aes
    dr_block dr_blocks dr derived
derived-17 = refl

-- with one iteration
pub string_key-17 : string_key Aes128CtsHmacSha1_96 (codes "password") (codes "ATHENA.MIT.EDUraeburn") 1 ≡
    0x42 ∷ 0x26 ∷ 0x3c ∷ 0x6e ∷ 0x89 ∷ 0xf4 ∷ 0xfc ∷ 0x28 ∷ 0xb8 ∷ 0xdf ∷ 0x68 ∷ 0xee ∷ 0x09 ∷ 0x79 ∷ 0x9f ∷ 0x15 ∷ []
unfolding stretched string_key
string_key-17 = ap (λ (tkey : List ℕ). derived Aes128CtsHmacSha1_96 tkey (codes "kerberos") 16) pbkdf2_sha1-one
    ∙ derived-17

derived-18 : derived Aes256CtsHmacSha1_96
    (0x01 ∷ 0xdb ∷ 0xee ∷ 0x7f ∷ 0x4a ∷ 0x9e ∷ 0x24 ∷ 0x3e ∷ 0x98 ∷ 0x8b ∷ 0x62 ∷ 0xc7 ∷ 0x3c ∷ 0xda ∷ 0x93 ∷ 0x5d ∷
    0xa0 ∷ 0x53 ∷ 0x78 ∷ 0xb9 ∷ 0x32 ∷ 0x44 ∷ 0xec ∷ 0x8f ∷ 0x48 ∷ 0xa9 ∷ 0x9e ∷ 0x61 ∷ 0xad ∷ 0x79 ∷ 0x9d ∷ 0x86 ∷ [])
    (codes "kerberos") 32 ≡
    0xa2 ∷ 0xe1 ∷ 0x6d ∷ 0x16 ∷ 0xb3 ∷ 0x60 ∷ 0x69 ∷ 0xc1 ∷ 0x35 ∷ 0xd5 ∷ 0xe9 ∷ 0xd2 ∷ 0xe2 ∷ 0x5f ∷ 0x89 ∷ 0x61 ∷
    0x02 ∷ 0x68 ∷ 0x56 ∷ 0x18 ∷ 0xb9 ∷ 0x59 ∷ 0x14 ∷ 0xb4 ∷ 0x67 ∷ 0xc6 ∷ 0x76 ∷ 0x22 ∷ 0x22 ∷ 0x58 ∷ 0x24 ∷ 0xff ∷ []
unfolding number octets_of rotated_copies gcd_within pieces_sum n_fold times_low times square power_of_twos inverse
    affine s_box sub_bytes shift_rows mix_columns add_round_key power_of_x expanded key_expansion rounds cipher aes
    dr_block dr_blocks dr derived
derived-18 = refl

-- with two iterations
pub string_key-18 : string_key Aes256CtsHmacSha1_96 (codes "password") (codes "ATHENA.MIT.EDUraeburn") 2 ≡
    0xa2 ∷ 0xe1 ∷ 0x6d ∷ 0x16 ∷ 0xb3 ∷ 0x60 ∷ 0x69 ∷ 0xc1 ∷ 0x35 ∷ 0xd5 ∷ 0xe9 ∷ 0xd2 ∷ 0xe2 ∷ 0x5f ∷ 0x89 ∷ 0x61 ∷
    0x02 ∷ 0x68 ∷ 0x56 ∷ 0x18 ∷ 0xb9 ∷ 0x59 ∷ 0x14 ∷ 0xb4 ∷ 0x67 ∷ 0xc6 ∷ 0x76 ∷ 0x22 ∷ 0x22 ∷ 0x58 ∷ 0x24 ∷ 0xff ∷ []
unfolding stretched string_key
string_key-18 = ap (λ (tkey : List ℕ). derived Aes256CtsHmacSha1_96 tkey (codes "kerberos") 32) pbkdf2_sha1-two
    ∙ derived-18
