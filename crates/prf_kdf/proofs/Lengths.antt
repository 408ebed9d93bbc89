-- The lengths of what the definitions return. Crates above may cite these.
use Rattle.std.proofs.Common.{◌≡◌, ℕ, ◌≤◌, ◌<◌, List, length, arith}
use Rattle.std.specs.Int.{div_ceil}
use Rattle.std.proofs.lemmas.Grind.{div_ceil_times}
use Rattle.std.proofs.lemmas.List.{length-take-le}
use Rattle.prf_kdf.specs.HasherLaws.{length-sha1, length-sha256, length-sha384}
use Rattle.prf_kdf.specs.Hmac.{hmac, hmac_sha1, hmac_sha256, hmac_sha384}
use Rattle.prf_kdf.specs.Pbkdf2.{pbkdf2, pbkdf2_blocks, pbkdf2_sha1, pbkdf2_sha256, pbkdf2_sha384}
use Rattle.prf_kdf.specs.Kdf.{kdf_input, kdf_sha256, kdf_sha384}
use Rattle.prf_kdf.specs.Fold.{n_fold}
use Rattle.prf_kdf.proofs.Blocks.{length-pbkdf2_blocks}
use Rattle.prf_kdf.proofs.Numbers.{length-octets_of}

pub length-hmac : (hash : List ℕ → List ℕ) (n size : ℕ) → ((m : List ℕ) → length (hash m) ≡ size) → (key text : List ℕ)
    → length (hmac hash n key text) ≡ size
unfolding hmac
length-hmac hash n size fixed key text = fixed _

pub length-hmac_sha1 : (key text : List ℕ) → length (hmac_sha1 key text) ≡ 20
length-hmac_sha1 key text = length-hmac _ 64 20 length-sha1 key text

pub length-hmac_sha256 : (key text : List ℕ) → length (hmac_sha256 key text) ≡ 32
length-hmac_sha256 key text = length-hmac _ 64 32 length-sha256 key text

pub length-hmac_sha384 : (key text : List ℕ) → length (hmac_sha384 key text) ≡ 48
length-hmac_sha384 key text = length-hmac _ 128 48 length-sha384 key text

pub length-pbkdf2 : (prf : List ℕ → List ℕ) (size : ℕ) → 0 < size → ((m : List ℕ) → length (prf m) ≡ size)
    → (salt : List ℕ) (count len : ℕ) → length (pbkdf2 prf size salt count len) ≡ len
unfolding pbkdf2
length-pbkdf2 prf size some fixed salt count len =
    length-take-le len (pbkdf2_blocks prf salt count (div_ceil len size))
    (omega (arith, div_ceil_times len size some, length-pbkdf2_blocks prf size fixed salt count (div_ceil len size)))

pub length-pbkdf2_sha1 : (password salt : List ℕ) (count len : ℕ) → length (pbkdf2_sha1 password salt count len) ≡ len
length-pbkdf2_sha1 password salt count len =
    length-pbkdf2 (hmac_sha1 password) 20 (omega arith) (length-hmac_sha1 password) salt count len

pub length-pbkdf2_sha256 : (password salt : List ℕ) (count len : ℕ)
    → length (pbkdf2_sha256 password salt count len) ≡ len
length-pbkdf2_sha256 password salt count len =
    length-pbkdf2 (hmac_sha256 password) 32 (omega arith) (length-hmac_sha256 password) salt count len

pub length-pbkdf2_sha384 : (password salt : List ℕ) (count len : ℕ)
    → length (pbkdf2_sha384 password salt count len) ≡ len
length-pbkdf2_sha384 password salt count len =
    length-pbkdf2 (hmac_sha384 password) 48 (omega arith) (length-hmac_sha384 password) salt count len

pub length-kdf_sha256 : (key label : List ℕ) (len : ℕ) → len ≤ 32 → length (kdf_sha256 key label len) ≡ len
length-kdf_sha256 key label len fits =
    length-take-le len (hmac_sha256 key (kdf_input label len))
    (omega (arith, length-hmac_sha256 key (kdf_input label len)))

pub length-kdf_sha384 : (key label : List ℕ) (len : ℕ) → len ≤ 48 → length (kdf_sha384 key label len) ≡ len
length-kdf_sha384 key label len fits =
    length-take-le len (hmac_sha384 key (kdf_input label len))
    (omega (arith, length-hmac_sha384 key (kdf_input label len)))

pub length-n_fold : (bs : List ℕ) (n : ℕ) → length (n_fold bs n) ≡ n
unfolding n_fold
length-n_fold bs n = length-octets_of n _
