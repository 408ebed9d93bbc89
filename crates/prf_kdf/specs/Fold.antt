-- n-fold (RFC 3961, section 5.1). A list of bytes is read as a number, most significant byte first. In the standard k
-- is the input and n is the output's length:
--     l = lcm (n, length of k), r = l / length of k
--     s = k | k rotated right by 13 bits | .. | k rotated right by 13 * (r - 1) bits
--     n-fold (k) = s[0..n-1] + s[n..2n-1] + .. + s[(l/n-1)*n..l-1], with end-around carry
use Rattle.std.specs.Prelude.{ℕ, zero, suc, ◌+◌, ◌-◌, ◌*◌, ◌/◌, ◌%◌, ◌^◌}
use Rattle.std.specs.Prelude.{List, [], ◌∷◌, ◌++◌, take, drop, length, map, slice_index}
use Rattle.std.specs.List.{range_with_len}

-- the number that the bytes spell
unfoldable pub number : List ℕ → ℕ
number [] = 0
number (b ∷ bs) = b * 2 ^ (8 * length bs) + number bs

-- the last n bytes of a number
unfoldable pub octets_of : ℕ → ℕ → List ℕ
octets_of zero x = []
octets_of (suc n) x = x / 2 ^ (8 * n) % 256 ∷ octets_of n x

-- a number of n bits rotated right by k bits
abbrev pub rotate_right : ℕ → ℕ → ℕ → ℕ
rotate_right n k x = x / 2 ^ (k % n) + x % 2 ^ (k % n) * 2 ^ (n - k % n)

-- copy i of the bytes, from 0: rotated right by 13 bits more than the one before
abbrev pub rotated_copy : List ℕ → ℕ → List ℕ
rotated_copy bs i = octets_of (length bs) (rotate_right (8 * length bs) (13 * i) (number bs))

-- s: the first r copies
unfoldable pub rotated_copies : List ℕ → ℕ → List ℕ
rotated_copies bs zero = []
rotated_copies bs (suc r) = rotated_copies bs r ++ rotated_copy bs r

-- Euclid's algorithm, in at most this many steps
unfoldable pub gcd_within : ℕ → ℕ → ℕ → ℕ
gcd_within zero a b = a
gcd_within (suc steps) a zero = a
gcd_within (suc steps) a (suc b) = gcd_within steps (suc b) (a % suc b)

-- the greatest common divisor
abbrev pub gcd : ℕ → ℕ → ℕ
gcd a b = gcd_within b a b

-- the least common multiple
abbrev pub lcm : ℕ → ℕ → ℕ
lcm a b = a * b / gcd a b

-- the sum of the first k pieces of n bytes
unfoldable pub pieces_sum : ℕ → List ℕ → ℕ → ℕ
pieces_sum n s zero = 0
pieces_sum n s (suc k) = pieces_sum n s k + number (take n (drop (n * k) s))

-- a sum t in n bits, with end-around carry, as in one's complement: 0 if t is 0, otherwise (t - 1) mod (2^n - 1) + 1,
-- which differs from t by a multiple of 2^n - 1
abbrev pub end_around_carry : ℕ → ℕ → ℕ
end_around_carry n zero = 0
end_around_carry n (suc t) = t % (2 ^ n - 1) + 1

-- the bytes, folded to n bytes
unfoldable pub n_fold : List ℕ → ℕ → List ℕ
n_fold bs n =
    let l = lcm (length bs) n in
    octets_of n (end_around_carry (8 * n) (pieces_sum n (rotated_copies bs (l / length bs)) (l / n)))

-- ---- the same copies byte by byte, as the code computes them

-- byte `at` of the copies
abbrev pub octet_of_copies : List ℕ → ℕ → ℕ
octet_of_copies bs at = slice_index (rotated_copy bs (at / length bs)) (at % length bs)

-- n bytes of the copies, from byte `start` on
unfoldable pub piece_of_copies : List ℕ → ℕ → ℕ → List ℕ
piece_of_copies bs start n = map (λ i. octet_of_copies bs (start + i)) (range_with_len 0 n)
