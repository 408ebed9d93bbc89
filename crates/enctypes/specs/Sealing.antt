-- Checksums and sealed texts: RFC 3961, sections 5.3 and 5.4, and RFC 3962, section 6, for types 17 and 18;
-- RFC 8009, sections 5 and 6, for types 19 and 20.
use Rattle.std.specs.Prelude.{◌≡◌, ◌↔◌, ◌<◌, ◌+◌, ◌-◌, All, ℕ, Bool, true, false, ◌&&◌}
use Rattle.std.specs.Prelude.{nat_le, if◌then◌else◌, List, ◌++◌, take, drop, length, replicate, Option, Some, None}
use Rattle.std.specs.Str.{bytes_eq}
use Rattle.aes_cts.specs.Cipher.{IsBlock}
use Rattle.aes_cts.specs.Cts.{cts, cts_inverse}
use Rattle.prf_kdf.specs.Hmac.{hmac_sha1, hmac_sha256, hmac_sha384}
use Rattle.enctypes.specs.declared.etype.Etype.{Etype}
use Rattle.enctypes.specs.declared.etype.Etype.TheVariants.{Aes128CtsHmacSha1_96, Aes256CtsHmacSha1_96}
use Rattle.enctypes.specs.declared.etype.Etype.TheVariants.{Aes128CtsHmacSha256_128, Aes256CtsHmacSha384_192}
use Rattle.enctypes.specs.Etype.{mac_len}
use Rattle.enctypes.specs.Derivation.{kc, ke, ki}

-- the HMAC with the hash function of the encryption type
unfoldable pub hmac_of : Etype → List ℕ → List ℕ → List ℕ
hmac_of Aes128CtsHmacSha1_96 key text = hmac_sha1 key text
hmac_of Aes256CtsHmacSha1_96 key text = hmac_sha1 key text
hmac_of Aes128CtsHmacSha256_128 key text = hmac_sha256 key text
hmac_of Aes256CtsHmacSha384_192 key text = hmac_sha384 key text

-- its first bytes, as many as the encryption type keeps
abbrev pub cut_hmac : Etype → List ℕ → List ℕ → List ℕ
cut_hmac etype key text = take (mac_len etype) (hmac_of etype key text)

-- the checksum of a text
unfoldable pub mac : Etype → List ℕ → ℕ → List ℕ → List ℕ
mac etype key usage text = cut_hmac etype (kc etype key usage) text

-- the initial cipher state
abbrev pub zero_vector : List ℕ
zero_vector = replicate 16 0

-- the HMAC of a sealed text covers the cipher rather than the plain text
abbrev pub macs_cipher : Etype → Bool
macs_cipher Aes128CtsHmacSha1_96 = false
macs_cipher Aes256CtsHmacSha1_96 = false
macs_cipher Aes128CtsHmacSha256_128 = true
macs_cipher Aes256CtsHmacSha384_192 = true

-- what the HMAC of a sealed text covers
abbrev pub authenticated : Bool → List ℕ → List ℕ → List ℕ
authenticated of_cipher plain cipher = if of_cipher then zero_vector ++ cipher else plain

-- the cipher of a plain text, followed by the HMAC; the plain text is the confounder and the text
abbrev pub sealed_plain : Etype → List ℕ → ℕ → List ℕ → List ℕ → List ℕ
sealed_plain etype key usage plain cipher =
    cipher ++ cut_hmac etype (ki etype key usage) (authenticated (macs_cipher etype) plain cipher)

-- the text, sealed with a confounder of 16 bytes
unfoldable pub seal : Etype → List ℕ → ℕ → List ℕ → List ℕ → List ℕ
seal etype key usage confounder text =
    sealed_plain etype key usage (confounder ++ text) (cts (ke etype key usage) zero_vector (confounder ++ text))

-- the cipher is that of the text, with some confounder
pub record Opens (etype : Etype) (key : List ℕ) (usage : ℕ) (cipher text : List ℕ) : Type 0 where
  pub confounder : List ℕ
  pub is_block : IsBlock confounder
  pub octets : All (λ b. b < 256) text
  pub sealed : seal etype key usage confounder text ≡ cipher

-- the cipher is not that of any text
unfoldable pub OpensNothing : Etype → List ℕ → ℕ → List ℕ → Type 0
OpensNothing etype key usage cipher = (text : List ℕ) → Opens etype key usage cipher text → ⊥

-- the cipher is that of at most one text
unfoldable pub OpensAtMostOne : Etype → List ℕ → ℕ → List ℕ → Type 0
OpensAtMostOne etype key usage cipher =
    (text other : List ℕ) → Opens etype key usage cipher text → Opens etype key usage cipher other → text ≡ other

-- ---- opening as a function, for definitions that use the opened text

-- the cipher without the HMAC at its end, and the HMAC
abbrev pub enciphered : Etype → List ℕ → List ℕ
enciphered etype cipher = take (length cipher - mac_len etype) cipher

abbrev pub ending : Etype → List ℕ → List ℕ
ending etype cipher = drop (length cipher - mac_len etype) cipher

-- confounder and text, decrypted
abbrev pub deciphered : Etype → List ℕ → ℕ → List ℕ → List ℕ
deciphered etype key usage cipher = cts_inverse (ke etype key usage) zero_vector (enciphered etype cipher)

-- the HMAC that the cipher must end with
abbrev pub expected_ending : Etype → List ℕ → ℕ → List ℕ → List ℕ
expected_ending etype key usage cipher =
    cut_hmac etype (ki etype key usage)
    (authenticated (macs_cipher etype) (deciphered etype key usage cipher) (enciphered etype cipher))

-- the cipher is long enough for a confounder and an HMAC, and ends with the right one
unfoldable pub is_sealed : Etype → List ℕ → ℕ → List ℕ → Bool
is_sealed etype key usage cipher =
    nat_le (16 + mac_len etype) (length cipher) && bytes_eq (ending etype cipher)
    (expected_ending etype key usage cipher)

-- the text that was sealed to this cipher, or none
unfoldable pub opened : Etype → List ℕ → ℕ → List ℕ → Option (List ℕ)
opened etype key usage cipher =
    if is_sealed etype key usage cipher then Some (drop 16 (deciphered etype key usage cipher)) else None

-- with this key and usage a cipher opens to the text that was sealed to it, and to nothing else
pub record OpensWhatWasSealed (etype : Etype) (key : List ℕ) (usage : ℕ) : Type 0 where
  pub sealed : (confounder text : List ℕ) → IsBlock confounder → All (λ b. b < 256) text
      → opened etype key usage (seal etype key usage confounder text) ≡ Some text
  pub found : (cipher text : List ℕ) → Opens etype key usage cipher text → opened etype key usage cipher ≡ Some text
  pub some : (cipher text : List ℕ) → All (λ b. b < 256) cipher
      → (opened etype key usage cipher ≡ Some text) ↔ Opens etype key usage cipher text
  pub none : (cipher : List ℕ) → All (λ b. b < 256) cipher
      → (opened etype key usage cipher ≡ None) ↔ OpensNothing etype key usage cipher
