-- PBKDF2 (RFC 8018, section 5.2) over any pseudorandom function, and with HMAC over the three hashes.
use Rattle.std.specs.Prelude.{ℕ, zero, suc, ◌-◌, List, [], ◌∷◌, ◌++◌, take, bit_xor}
use Rattle.std.specs.Int.{w32, to_be_bytes, div_ceil}
use Rattle.prf_kdf.specs.Hmac.{hmac_sha1, hmac_sha256, hmac_sha384}

-- the xor of two lists, byte by byte
abbrev pub octets_xor : List ℕ → List ℕ → List ℕ
octets_xor (x ∷ xs) (y ∷ ys) = bit_xor x y ∷ octets_xor xs ys
octets_xor _ _ = []

-- U (n + 1), where U 1 = u and each further one is the pseudorandom function of the one before
unfoldable pub iterate : (List ℕ → List ℕ) → List ℕ → ℕ → List ℕ
iterate prf u zero = u
iterate prf u (suc n) = prf (iterate prf u n)

-- U 1 xor .. xor U (n + 1)
unfoldable pub iterates_xor : (List ℕ → List ℕ) → List ℕ → ℕ → List ℕ
iterates_xor prf u zero = u
iterates_xor prf u (suc n) = octets_xor (iterates_xor prf u n) (iterate prf u (suc n))

-- T i = F (P, S, c, i), where U 1 is the pseudorandom function of the salt and INT (i)
abbrev pub pbkdf2_block : (List ℕ → List ℕ) → List ℕ → ℕ → ℕ → List ℕ
pbkdf2_block prf salt count i = iterates_xor prf (prf (salt ++ to_be_bytes w32 i)) (count - 1)

-- T 1 || .. || T n
unfoldable pub pbkdf2_blocks : (List ℕ → List ℕ) → List ℕ → ℕ → ℕ → List ℕ
pbkdf2_blocks prf salt count zero = []
pbkdf2_blocks prf salt count (suc n) = pbkdf2_blocks prf salt count n ++ pbkdf2_block prf salt count (suc n)

-- the first len bytes of CEIL (len / size) blocks, each with size bytes
unfoldable pub pbkdf2 : (List ℕ → List ℕ) → ℕ → List ℕ → ℕ → ℕ → List ℕ
pbkdf2 prf size salt count len = take len (pbkdf2_blocks prf salt count (div_ceil len size))

-- with HMAC-SHA-1, whose MACs have 20 bytes
abbrev pub pbkdf2_sha1 : List ℕ → List ℕ → ℕ → ℕ → List ℕ
pbkdf2_sha1 password salt count len = pbkdf2 (hmac_sha1 password) 20 salt count len

-- with HMAC-SHA-256, whose MACs have 32 bytes
abbrev pub pbkdf2_sha256 : List ℕ → List ℕ → ℕ → ℕ → List ℕ
pbkdf2_sha256 password salt count len = pbkdf2 (hmac_sha256 password) 32 salt count len

-- with HMAC-SHA-384, whose MACs have 48 bytes
abbrev pub pbkdf2_sha384 : List ℕ → List ℕ → ℕ → ℕ → List ℕ
pbkdf2_sha384 password salt count len = pbkdf2 (hmac_sha384 password) 48 salt count len
