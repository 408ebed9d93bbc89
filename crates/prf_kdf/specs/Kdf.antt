-- KDF-HMAC-SHA2 (RFC 8009, section 3) without a context.
use Rattle.std.specs.Prelude.{ℕ, ◌*◌, List, ◌∷◌, ◌++◌, take}
use Rattle.std.specs.Int.{w32, to_be_bytes}
use Rattle.prf_kdf.specs.Hmac.{hmac_sha256, hmac_sha384}

-- what is hashed: 00000001 | label | 00 | k, for k = 8 * len bits
abbrev pub kdf_input : List ℕ → ℕ → List ℕ
kdf_input label len = 0 ∷ 0 ∷ 0 ∷ 1 ∷ (label ++ 0 ∷ to_be_bytes w32 (8 * len))

-- the first len bytes of the pseudorandom function of that, where the function is the HMAC with the key
abbrev pub kdf_sha2 : (List ℕ → List ℕ) → List ℕ → ℕ → List ℕ
kdf_sha2 prf label len = take len (prf (kdf_input label len))

-- with HMAC-SHA-256
abbrev pub kdf_sha256 : List ℕ → List ℕ → ℕ → List ℕ
kdf_sha256 key label len = kdf_sha2 (hmac_sha256 key) label len

-- with HMAC-SHA-384
abbrev pub kdf_sha384 : List ℕ → List ℕ → ℕ → List ℕ
kdf_sha384 key label len = kdf_sha2 (hmac_sha384 key) label len
