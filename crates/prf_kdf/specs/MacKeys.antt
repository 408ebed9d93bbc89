-- The hashers of HMAC with one key.
use Rattle.std.specs.Prelude.{ℕ, List}
use Rattle.sha1.specs.Sha1.{sha1}
use Rattle.sha1.specs.Sha1.{Holds as Holds1}
use Rattle.sha1.specs.declared.Sha1.{Sha1}
use Rattle.sha2.specs.Hashers.{Holds256, Holds384}
use Rattle.sha2.specs.Sha256.{sha256}
use Rattle.sha2.specs.Sha512.{sha384}
use Rattle.sha2.specs.declared.Sha256.{Sha256}
use Rattle.sha2.specs.declared.Sha384.{Sha384}
use Rattle.prf_kdf.specs.Hasher.{HoldsKeyBlock}
use Rattle.prf_kdf.specs.Hmac.{key_block}
use Rattle.prf_kdf.specs.declared.hmac.HmacKey.{HmacKey}

-- for the three hash functions
abbrev pub HmacSha1 : Type 0
HmacSha1 = HmacKey Sha1

abbrev pub HmacSha256 : Type 0
HmacSha256 = HmacKey Sha256

abbrev pub HmacSha384 : Type 0
HmacSha384 = HmacKey Sha384

-- the hashers are those for the key with SHA-1
abbrev pub IsSha1Key : HmacSha1 → List ℕ → Type 0
IsSha1Key hashers key = HoldsKeyBlock Holds1 hashers.inner hashers.outer (key_block sha1 64 key)

-- with SHA-256
abbrev pub IsSha256Key : HmacSha256 → List ℕ → Type 0
IsSha256Key hashers key = HoldsKeyBlock Holds256 hashers.inner hashers.outer (key_block sha256 64 key)

-- with SHA-384
abbrev pub IsSha384Key : HmacSha384 → List ℕ → Type 0
IsSha384Key hashers key = HoldsKeyBlock Holds384 hashers.inner hashers.outer (key_block sha384 128 key)
