-- What is derived from keys and passwords, by the hash function.
use Rattle.std.specs.Prelude.{ℕ, List, ◌∷◌, ◌++◌, codes}
use Rattle.prf_kdf.specs.Kdf.{kdf_sha256, kdf_sha384}
use Rattle.prf_kdf.specs.Pbkdf2.{pbkdf2_sha1, pbkdf2_sha256, pbkdf2_sha384}
use Rattle.enctypes.specs.declared.hash.Hash.{Hash}
use Rattle.enctypes.specs.declared.hash.Hash.TheVariants.{Sha1, Sha256, Sha384}
use Rattle.enctypes.specs.Derivation.{dr}

-- the bytes that a key derives from a constant
abbrev pub derived_by : Hash → List ℕ → List ℕ → ℕ → List ℕ
derived_by Sha1 key constant len = dr key constant len
derived_by Sha256 key constant len = kdf_sha256 key constant len
derived_by Sha384 key constant len = kdf_sha384 key constant len

-- the key that PBKDF2 derives from a password
abbrev pub stretched_by : Hash → List ℕ → List ℕ → ℕ → ℕ → List ℕ
stretched_by Sha1 pass salt count len = pbkdf2_sha1 pass salt count len
stretched_by Sha256 pass salt count len = pbkdf2_sha256 pass (codes "aes128-cts-hmac-sha256-128" ++ 0 ∷ salt) count len
stretched_by Sha384 pass salt count len = pbkdf2_sha384 pass (codes "aes256-cts-hmac-sha384-192" ++ 0 ∷ salt) count len
