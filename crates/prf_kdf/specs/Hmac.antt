-- HMAC (RFC 2104) over any hash function. A hash function maps a list of bytes to a list of bytes. Its block length, B
-- in the standard, is in bytes.
use Rattle.std.specs.Prelude.{ℕ, ◌-◌, List, ◌++◌, length, map, replicate, bit_xor, nat_lt, if◌then◌else◌}
use Rattle.sha1.specs.Sha1.{sha1}
use Rattle.sha2.specs.Sha256.{sha256}
use Rattle.sha2.specs.Sha512.{sha384}

-- the bytes, padded with zeros to n
abbrev pub block_of : ℕ → List ℕ → List ℕ
block_of n octets = octets ++ replicate (n - length octets) 0

-- the key as one block of n bytes; a longer key is hashed first (section 2)
unfoldable pub key_block : (List ℕ → List ℕ) → ℕ → List ℕ → List ℕ
key_block hash n key =
    if nat_lt n (length key) then block_of n (hash key) else block_of n key

-- each byte xor the mask
abbrev pub masked_octets : ℕ → List ℕ → List ℕ
masked_octets mask octets = map (λ b. bit_xor b mask) octets

-- H(K xor ipad, text), the inner hash of a key that fills a block (section 2)
abbrev pub inner_hash : (List ℕ → List ℕ) → List ℕ → List ℕ → List ℕ
inner_hash hash block text = hash (masked_octets 0x36 block ++ text)

-- H(K xor opad, H(K xor ipad, text)), for a key that fills a block (section 2)
abbrev pub hmac_of_block : (List ℕ → List ℕ) → List ℕ → List ℕ → List ℕ
hmac_of_block hash block text = hash (masked_octets 0x5c block ++ inner_hash hash block text)

-- the HMAC of a text with a key, for a hash function with blocks of n bytes
unfoldable pub hmac : (List ℕ → List ℕ) → ℕ → List ℕ → List ℕ → List ℕ
hmac hash n key text = hmac_of_block hash (key_block hash n key) text

-- with SHA-1, which has blocks of 64 bytes
abbrev pub hmac_sha1 : List ℕ → List ℕ → List ℕ
hmac_sha1 key text = hmac sha1 64 key text

-- with SHA-256, which has blocks of 64 bytes
abbrev pub hmac_sha256 : List ℕ → List ℕ → List ℕ
hmac_sha256 key text = hmac sha256 64 key text

-- with SHA-384, which has blocks of 128 bytes
abbrev pub hmac_sha384 : List ℕ → List ℕ → List ℕ
hmac_sha384 key text = hmac sha384 128 key text
