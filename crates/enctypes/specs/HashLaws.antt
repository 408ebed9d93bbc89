-- What an encryption type derives is what its hash function says.
use Rattle.std.proofs.Common.{◌≡◌, ◌⊎◌, ℕ, ◌≤◌, List, length, refl, ap, ◌∙◌, subst, sym}
use Rattle.enctypes.specs.declared.etype.Etype.{Etype}
use Rattle.enctypes.specs.declared.etype.Etype.TheVariants.{Aes128CtsHmacSha1_96, Aes256CtsHmacSha1_96}
use Rattle.enctypes.specs.declared.etype.Etype.TheVariants.{Aes128CtsHmacSha256_128, Aes256CtsHmacSha384_192}
use Rattle.enctypes.specs.declared.hash.Hash.{Hash}
use Rattle.enctypes.specs.Etype.{hash, key_len}
use Rattle.enctypes.specs.Derivation.{derived, stretched}
use Rattle.enctypes.specs.Hash.{derived_by, stretched_by}
use Rattle.enctypes.specs.Sizes.{key_len-cases, key_len-most}

derived_of : (etype : Etype) (key constant : List ℕ) (len : ℕ)
    → derived_by (hash etype) key constant len ≡ derived etype key constant len
unfolding derived
derived_of Aes128CtsHmacSha1_96 key constant len = refl
derived_of Aes256CtsHmacSha1_96 key constant len = refl
derived_of Aes128CtsHmacSha256_128 key constant len = refl
derived_of Aes256CtsHmacSha384_192 key constant len = refl

pub derived_is : (etype : Etype) (h : Hash) (key constant out : List ℕ) (len : ℕ) → h ≡ hash etype
    → out ≡ derived_by h key constant len → out ≡ derived etype key constant len
derived_is etype h key constant out len is by =
    by ∙ ap (λ (x : Hash). derived_by x key constant len) is ∙ derived_of etype key constant len

stretched_of : (etype : Etype) (pass salt : List ℕ) (count : ℕ)
    → stretched_by (hash etype) pass salt count (key_len etype) ≡ stretched etype pass salt count
unfolding stretched
stretched_of Aes128CtsHmacSha1_96 pass salt count = refl
stretched_of Aes256CtsHmacSha1_96 pass salt count = refl
stretched_of Aes128CtsHmacSha256_128 pass salt count = refl
stretched_of Aes256CtsHmacSha384_192 pass salt count = refl

pub stretched_is : (etype : Etype) (h : Hash) (pass salt out : List ℕ) (count len : ℕ) → h ≡ hash etype
    → len ≡ key_len etype → out ≡ stretched_by h pass salt count len → out ≡ stretched etype pass salt count
stretched_is etype h pass salt out count len is size by =
    by ∙ ap (λ (x : Hash). stretched_by x pass salt count len) is
    ∙ ap (λ (n : ℕ). stretched_by (hash etype) pass salt count n) size ∙ stretched_of etype pass salt count

pub key_sizes : (etype : Etype) (size : ℕ) (key : List ℕ) → size ≡ key_len etype → length key ≡ size
    → (length key ≡ 16) ⊎ (length key ≡ 32)
key_sizes etype size key is of =
    subst (λ (n : ℕ). (n ≡ 16) ⊎ (n ≡ 32)) (sym (of ∙ is)) (key_len-cases etype)

pub key_most : (etype : Etype) (size len : ℕ) → size ≡ key_len etype → len ≡ size → len ≤ 32
key_most etype size len is of = subst (λ (n : ℕ). n ≤ 32) (sym (of ∙ is)) (key_len-most etype)
