-- The hashers for a key compute the HMAC of its encryption type, cut to its length.
use Rattle.std.proofs.Common.{◌≡◌, ℕ, List, take, ap}
use Rattle.prf_kdf.specs.Hmac.{hmac_sha1, hmac_sha256, hmac_sha384}
use Rattle.prf_kdf.specs.MacKeys.{HmacSha1, HmacSha256, HmacSha384, IsSha1Key, IsSha256Key, IsSha384Key}
use Rattle.enctypes.specs.declared.etype.Etype.{Etype}
use Rattle.enctypes.specs.declared.etype.Etype.TheVariants.{Aes128CtsHmacSha1_96, Aes256CtsHmacSha1_96}
use Rattle.enctypes.specs.declared.etype.Etype.TheVariants.{Aes128CtsHmacSha256_128, Aes256CtsHmacSha384_192}
use Rattle.enctypes.specs.declared.mac_key.MacKey.TheVariants.{Sha1, Sha256, Sha384}
use Rattle.enctypes.specs.ReadyKey.{IsMacKey}
use Rattle.enctypes.specs.Sealing.{hmac_of, cut_hmac}

pub cut-sha1 : (etype : Etype) (key text mac : List ℕ) (hashers : HmacSha1)
    → (IsSha1Key hashers key → mac ≡ hmac_sha1 key text)
    → IsMacKey etype key (Sha1 hashers) → take 12 mac ≡ cut_hmac etype key text
unfolding hmac_of
cut-sha1 Aes128CtsHmacSha1_96 key text mac hashers is holds = ap (take 12) (is holds)
cut-sha1 Aes256CtsHmacSha1_96 key text mac hashers is holds = ap (take 12) (is holds)
cut-sha1 Aes128CtsHmacSha256_128 key text mac hashers is holds = absurd holds
cut-sha1 Aes256CtsHmacSha384_192 key text mac hashers is holds = absurd holds

pub cut-sha256 : (etype : Etype) (key text mac : List ℕ) (hashers : HmacSha256)
    → (IsSha256Key hashers key → mac ≡ hmac_sha256 key text)
    → IsMacKey etype key (Sha256 hashers) → take 16 mac ≡ cut_hmac etype key text
unfolding hmac_of
cut-sha256 Aes128CtsHmacSha1_96 key text mac hashers is holds = absurd holds
cut-sha256 Aes256CtsHmacSha1_96 key text mac hashers is holds = absurd holds
cut-sha256 Aes128CtsHmacSha256_128 key text mac hashers is holds = ap (take 16) (is holds)
cut-sha256 Aes256CtsHmacSha384_192 key text mac hashers is holds = absurd holds

pub cut-sha384 : (etype : Etype) (key text mac : List ℕ) (hashers : HmacSha384)
    → (IsSha384Key hashers key → mac ≡ hmac_sha384 key text)
    → IsMacKey etype key (Sha384 hashers) → take 24 mac ≡ cut_hmac etype key text
unfolding hmac_of
cut-sha384 Aes128CtsHmacSha1_96 key text mac hashers is holds = absurd holds
cut-sha384 Aes256CtsHmacSha1_96 key text mac hashers is holds = absurd holds
cut-sha384 Aes128CtsHmacSha256_128 key text mac hashers is holds = absurd holds
cut-sha384 Aes256CtsHmacSha384_192 key text mac hashers is holds = ap (take 24) (is holds)
