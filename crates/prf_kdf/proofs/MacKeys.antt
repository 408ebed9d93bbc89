-- The hashers for a key compute the HMAC with that key.
use Rattle.std.proofs.Common.{◌≡◌, ℕ, List}
use Rattle.sha1.specs.Sha1.{sha1}
use Rattle.sha1.specs.Sha1.{Holds as Holds1}
use Rattle.sha2.specs.Hashers.{Holds256, Holds384}
use Rattle.sha2.specs.Sha256.{sha256}
use Rattle.sha2.specs.Sha512.{sha384}
use Rattle.prf_kdf.specs.Hasher.{HoldsKeyBlock}
use Rattle.prf_kdf.specs.Hmac.{hmac, hmac_of_block, hmac_sha1, hmac_sha256, hmac_sha384, key_block}
use Rattle.prf_kdf.specs.MacKeys.{HmacSha1, HmacSha256, HmacSha384, IsSha1Key, IsSha256Key, IsSha384Key}

pub mac-sha1 : (hashers : HmacSha1) (key text mac : List ℕ)
    → ((block : List ℕ) → HoldsKeyBlock Holds1 hashers.inner hashers.outer block → mac ≡ hmac_of_block sha1 block text)
    → IsSha1Key hashers key → mac ≡ hmac_sha1 key text
unfolding hmac
mac-sha1 hashers key text mac is holds = is (key_block sha1 64 key) holds

pub mac-sha256 : (hashers : HmacSha256) (key text mac : List ℕ)
    → ((block : List ℕ) → HoldsKeyBlock Holds256 hashers.inner hashers.outer block
    → mac ≡ hmac_of_block sha256 block text)
    → IsSha256Key hashers key → mac ≡ hmac_sha256 key text
unfolding hmac
mac-sha256 hashers key text mac is holds = is (key_block sha256 64 key) holds

pub mac-sha384 : (hashers : HmacSha384) (key text mac : List ℕ)
    → ((block : List ℕ) → HoldsKeyBlock Holds384 hashers.inner hashers.outer block
    → mac ≡ hmac_of_block sha384 block text)
    → IsSha384Key hashers key → mac ≡ hmac_sha384 key text
unfolding hmac
mac-sha384 hashers key text mac is holds = is (key_block sha384 128 key) holds
