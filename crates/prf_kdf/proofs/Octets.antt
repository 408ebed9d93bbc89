-- The definitions return bytes, even for arguments that are not bytes. Crates above may cite these.
use Rattle.std.proofs.Common.{ℕ, zero, suc, ◌*◌, ◌<◌, ◌/◌, ◌%◌, ◌^◌, List, All, arith}
use Rattle.std.specs.Int.{byte_at, bytes_high_first}
use Rattle.std.specs.Prelude.{slice_index}
use Rattle.std.proofs.lemmas.List.Elements.{All-nil, All-cons, All-append, All-take}
use Rattle.sha2.specs.Sha256.{sha256, initial_hash_256, final_hash, digest_bytes}
use Rattle.sha2.specs.Sha512.{sha384, initial_hash_384}
use Rattle.sha2.specs.Sha512.{digest_bytes as digest_bytes_512, final_hash as final_hash_512}
use Rattle.prf_kdf.specs.Fold.{octets_of, n_fold}
use Rattle.prf_kdf.specs.Hmac.{hmac, hmac_sha256, hmac_sha384}
use Rattle.prf_kdf.specs.Kdf.{kdf_input, kdf_sha256, kdf_sha384}

-- ---- numbers as bytes

byte_at-lt : (i n : ℕ) → byte_at i n < 256
byte_at-lt zero n = omega arith
byte_at-lt (suc i) n = let x : ℕ = n / 256 ^ suc i in let h : x % 256 < 256 = omega arith in h

octets-high_first : (k n : ℕ) → All (λ b. b < 256) (bytes_high_first k n)
octets-high_first zero n = All-nil (λ b. b < 256)
octets-high_first (suc k) n =
    All-cons (λ b. b < 256) (byte_at k n) (bytes_high_first k n) (byte_at-lt k n) (octets-high_first k n)

octets-octets_of : (n x : ℕ) → All (λ b. b < 256) (octets_of n x)
unfolding octets_of
octets-octets_of zero x = All-nil (λ b. b < 256)
octets-octets_of (suc n) x =
    let y : ℕ = x / 2 ^ (8 * n) in
    let h : y % 256 < 256 = omega arith in
    All-cons (λ b. b < 256) (y % 256) (octets_of n x) h (octets-octets_of n x)

-- ---- hashes

octets-digest_256 : (h : List ℕ) (n : ℕ) → All (λ b. b < 256) (digest_bytes h n)
unfolding digest_bytes
octets-digest_256 h zero = All-nil (λ b. b < 256)
octets-digest_256 h (suc n) =
    All-append (λ b. b < 256) (digest_bytes h n) (bytes_high_first 4 (slice_index h n))
    (octets-digest_256 h n) (octets-high_first 4 (slice_index h n))

octets-digest_512 : (h : List ℕ) (n : ℕ) → All (λ b. b < 256) (digest_bytes_512 h n)
unfolding digest_bytes_512
octets-digest_512 h zero = All-nil (λ b. b < 256)
octets-digest_512 h (suc n) =
    All-append (λ b. b < 256) (digest_bytes_512 h n) (bytes_high_first 8 (slice_index h n))
    (octets-digest_512 h n) (octets-high_first 8 (slice_index h n))

octets-sha256 : (m : List ℕ) → All (λ b. b < 256) (sha256 m)
unfolding sha256
octets-sha256 m = octets-digest_256 (final_hash initial_hash_256 m) 8

octets-sha384 : (m : List ℕ) → All (λ b. b < 256) (sha384 m)
unfolding sha384
octets-sha384 m = All-take (λ b. b < 256) 48 _ (octets-digest_512 (final_hash_512 initial_hash_384 m) 8)

octets-hmac : (hash : List ℕ → List ℕ) (n : ℕ) → ((m : List ℕ) → All (λ b. b < 256) (hash m))
    → (key text : List ℕ) → All (λ b. b < 256) (hmac hash n key text)
unfolding hmac
octets-hmac hash n octets key text = octets _

-- ---- derivations

pub octets-kdf_sha256 : (key label : List ℕ) (len : ℕ) → All (λ b. b < 256) (kdf_sha256 key label len)
octets-kdf_sha256 key label len =
    let input : List ℕ = kdf_input label len in
    All-take (λ b. b < 256) len (hmac_sha256 key input) (octets-hmac sha256 64 octets-sha256 key input)

pub octets-kdf_sha384 : (key label : List ℕ) (len : ℕ) → All (λ b. b < 256) (kdf_sha384 key label len)
octets-kdf_sha384 key label len =
    let input : List ℕ = kdf_input label len in
    All-take (λ b. b < 256) len (hmac_sha384 key input) (octets-hmac sha384 128 octets-sha384 key input)

pub octets-n_fold : (bs : List ℕ) (n : ℕ) → All (λ b. b < 256) (n_fold bs n)
unfolding n_fold
octets-n_fold bs n = octets-octets_of n _
