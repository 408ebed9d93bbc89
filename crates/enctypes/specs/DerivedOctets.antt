-- If a key consists of bytes, so do its derived keys. So decrypting with them undoes encrypting.
use Rattle.std.proofs.Common.{ℕ, zero, suc, ◌<◌, List, All}
use Rattle.std.specs.Int.{div_ceil}
use Rattle.std.proofs.lemmas.List.Elements.{All-nil, All-append, All-take}
use Rattle.aes_cts.specs.Cipher.{IsBlock, PermutesBlocks}
use Rattle.aes_cts.specs.Cts.{PermutesTexts}
use Rattle.aes_cts.proofs.Keys.{permutes_blocks}
use Rattle.aes_cts.proofs.Permutations.{permutes_texts}
use Rattle.prf_kdf.specs.Fold.{n_fold}
use Rattle.prf_kdf.proofs.Lengths.{length-n_fold}
use Rattle.prf_kdf.proofs.Octets.{octets-kdf_sha256, octets-kdf_sha384, octets-n_fold}
use Rattle.enctypes.specs.declared.etype.Etype.{Etype}
use Rattle.enctypes.specs.declared.etype.Etype.TheVariants.{Aes128CtsHmacSha1_96, Aes256CtsHmacSha1_96}
use Rattle.enctypes.specs.declared.etype.Etype.TheVariants.{Aes128CtsHmacSha256_128, Aes256CtsHmacSha384_192}
use Rattle.enctypes.specs.declared.purpose.Purpose.{Purpose}
use Rattle.enctypes.specs.declared.purpose.Purpose.TheVariants.{Encryption}
use Rattle.enctypes.specs.Derivation.{dr_block, dr_blocks, dr, derived, usage_constant, derived_len, derived_key, ke}

-- ---- DR

block-n_fold : (constant : List ℕ) → IsBlock (n_fold constant 16)
block-n_fold constant = record { size = length-n_fold constant 16; octets = octets-n_fold constant 16 }

block-dr : (key constant : List ℕ) (n : ℕ) → PermutesBlocks key → IsBlock (dr_block key constant n)
unfolding dr_block
block-dr key constant zero law = law.enciphered (n_fold constant 16) (block-n_fold constant)
block-dr key constant (suc n) law = law.enciphered (dr_block key constant n) (block-dr key constant n law)

octets-dr_blocks : (key constant : List ℕ) (n : ℕ) → PermutesBlocks key → All (λ b. b < 256) (dr_blocks key constant n)
unfolding dr_blocks
octets-dr_blocks key constant zero law = All-nil (λ b. b < 256)
octets-dr_blocks key constant (suc n) law =
    All-append (λ b. b < 256) (dr_blocks key constant n) (dr_block key constant n) (octets-dr_blocks key constant n law)
    (block-dr key constant n law).octets

octets-dr : (key constant : List ℕ) (len : ℕ) → All (λ b. b < 256) key → All (λ b. b < 256) (dr key constant len)
unfolding dr
octets-dr key constant len octets =
    All-take (λ b. b < 256) len (dr_blocks key constant (div_ceil len 16))
    (octets-dr_blocks key constant (div_ceil len 16) (permutes_blocks key octets))

-- ---- the keys derived from a protocol key

pub octets-derived : (etype : Etype) (key constant : List ℕ) (len : ℕ) → All (λ b. b < 256) key
    → All (λ b. b < 256) (derived etype key constant len)
unfolding derived
octets-derived Aes128CtsHmacSha1_96 key constant len octets = octets-dr key constant len octets
octets-derived Aes256CtsHmacSha1_96 key constant len octets = octets-dr key constant len octets
octets-derived Aes128CtsHmacSha256_128 key constant len octets = octets-kdf_sha256 key constant len
octets-derived Aes256CtsHmacSha384_192 key constant len octets = octets-kdf_sha384 key constant len

pub octets-derived_key : (etype : Etype) (key : List ℕ) (usage : ℕ) (purpose : Purpose) → All (λ b. b < 256) key
    → All (λ b. b < 256) (derived_key etype key usage purpose)
unfolding derived_key
octets-derived_key etype key usage purpose octets =
    octets-derived etype key (usage_constant usage purpose) (derived_len etype purpose) octets

-- ciphertext stealing with Ke
pub ke_permutes : (etype : Etype) (key : List ℕ) (usage : ℕ) → All (λ b. b < 256) key
    → PermutesTexts (ke etype key usage)
ke_permutes etype key usage octets =
    permutes_texts (ke etype key usage)
    (permutes_blocks (ke etype key usage) (octets-derived_key etype key usage Encryption octets))
