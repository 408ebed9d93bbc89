-- The key of HMAC as one block.
use Rattle.std.proofs.Common.{◌≡◌, ℕ, ◌-◌, ◌≤◌, ◌<◌, ◌+◌, List, ◌++◌, take, length, replicate, arith, sym}
use Rattle.std.proofs.lemmas.List.{append_assoc, take_at, replicate-append-replicate, length-replicate, length-append}
use Rattle.std.proofs.lemmas.Bool.{lt-ltb, le-ltb}
use Rattle.prf_kdf.specs.Hmac.{key_block, block_of}

take-block_of : (n m : ℕ) (octets : List ℕ) → length octets ≤ n → n ≤ m → take n (block_of m octets) ≡ block_of n octets
take-block_of n m octets short fits =
    let k : ℕ = n - length octets in
    let rest : m - length octets ≡ k + (m - n) = omega arith in
    let parts : block_of m octets ≡ block_of n octets ++ replicate (m - n) 0 =
    rw (rest, ← replicate-append-replicate {A = ℕ} k (m - n) 0)
    (sym (append_assoc octets (replicate k 0) (replicate (m - n) 0))) in
    let len : length (block_of n octets) ≡ n =
    omega (arith, length-append octets (replicate {A = ℕ} k 0), length-replicate {A = ℕ} k 0) in
    rw parts (take_at (block_of n octets) (replicate (m - n) 0) n len)

-- a key that is longer than a block
pub key_block-long : (hash : List ℕ → List ℕ) (n : ℕ) (key block : List ℕ) → n < length key → n ≤ 128
    → length (hash key) ≤ n
    → block ≡ block_of 128 (hash key) → take n block ≡ key_block hash n key
unfolding key_block
key_block-long hash n key block long fits short is =
    rw (is, lt-ltb n (length key) long) (take-block_of n 128 (hash key) short fits)

-- a key that fits a block
pub key_block-short : (hash : List ℕ → List ℕ) (n : ℕ) (key block : List ℕ) → length key ≤ n → n ≤ 128
    → block ≡ block_of 128 key → take n block ≡ key_block hash n key
unfolding key_block
key_block-short hash n key block short fits is =
    rw (is, le-ltb n (length key) short) (take-block_of n 128 key short fits)
