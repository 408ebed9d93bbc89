-- The n-fold to a block as one sum of the copies: with end-around carry 2^128 counts as 1, so the copies need not be
-- cut into pieces.
use Rattle.std.proofs.Common.{◌≡◌, ℕ, zero, suc, ◌+◌, ◌-◌, ◌*◌, ◌/◌, ◌%◌, ◌^◌, ◌≤◌, ◌<◌, List, [], ◌∷◌, take, drop, length}
use Rattle.std.proofs.Common.{get_or, bit_or, bit_and, refl, sym, ap, ◌∙◌, arith, add-one, take-add, length-take, length-drop}
use Rattle.std.specs.Int.{w128, to_be_bytes, bytes_high_first, byte_at}
use Rattle.std.specs.Int.{IsGcd}
use Rattle.std.proofs.Math.Pow.{pow_mono}
use Rattle.std.proofs.Math.Nat.{add-mod-mod, mod-mod, pow-suc}
use Rattle.std.proofs.lemmas.List.{take_all}
use Rattle.std.proofs.lemmas.Nat.{pow-add, pow_pos, mod_below, shr_split, shr_below, shl_whole, one_shl, or_shifted}
use Rattle.std.proofs.lemmas.Nat.{and_mask, mul-add-lt, mod-mul-add}
use Rattle.prf_kdf.specs.Fold.{number, octets_of, rotate_right, rotated_copy, rotated_copies, lcm, pieces_sum, end_around_carry, n_fold}
use Rattle.prf_kdf.proofs.Copies.{length-rotated_copy, length-rotated_copies}
use Rattle.prf_kdf.proofs.EndAround.{end_around_carry-add, end_around_carry-high, end_around_carry-small, end_around_carry-step}
use Rattle.prf_kdf.proofs.Multiples.{fits_lcm}
use Rattle.prf_kdf.proofs.Numbers.{number-append, number-lt, number-take_more, number-octets_of, next_power}
use Rattle.prf_kdf.proofs.Sums.{pieces_sum_none, pieces_sum_more}
use Rattle.prf_kdf.proofs.Turns.{turned}

-- ---- bytes

power_256 : (n : ℕ) → 2 ^ (8 * n) ≡ 256 ^ n
power_256 zero = refl
power_256 (suc n) =
    let e : 8 * suc n ≡ 8 * (n + 1) = omega arith in
    ap (λ (m : ℕ). 2 ^ m) e ∙ next_power n ∙ ap (λ (m : ℕ). 256 * m) (power_256 n) ∙ omega (arith, pow-suc 256 n)

octet_is : (n x : ℕ) → x / 2 ^ (8 * n) % 256 ≡ byte_at n x
octet_is zero x = omega arith
octet_is (suc n) x = ap (λ (m : ℕ). x / m % 256) (power_256 (suc n))

octets_are : (n x : ℕ) → octets_of n x ≡ bytes_high_first n x
unfolding octets_of
octets_are zero x = refl
octets_are (suc n) x = rw (octet_is n x, octets_are n x) refl

pub block_octets : (x : ℕ) → octets_of 16 x ≡ to_be_bytes w128 x
block_octets x = octets_are 16 x

-- ---- a number rotated right

pub rotate_right-lt : (n k x : ℕ) → 0 < n → x < 2 ^ n → rotate_right n k x < 2 ^ n
rotate_right-lt n k x some below =
    let r : ℕ = k % n in
    let low : r < n = mod_below k n some in
    let is : x / 2 ^ r + x % 2 ^ r * 2 ^ (n - r) ≡ (x * 2 ^ n + x) / 2 ^ r % 2 ^ n = turned n r x (omega arith) below in
    rw is (mod_below ((x * 2 ^ n + x) / 2 ^ r) (2 ^ n) (pow_pos n))

-- n bits of the number written twice
pub turned_right_is : (n r x : ℕ) → n ≤ 64 → r < n → x < 2 ^ n
    → bit_and (bit_or (x * 2 ^ n % 2 ^ 128) x / 2 ^ r) (1 * 2 ^ n % 2 ^ 128 - 1) ≡ rotate_right n r x
turned_right_is n r x most low below =
    let whole : x * 2 ^ n % 2 ^ 128 ≡ x * 2 ^ n = shl_whole x n n 128 below (omega arith) in
    let twice : bit_or (x * 2 ^ n % 2 ^ 128) x ≡ x * 2 ^ n + x =
    ap (λ (m : ℕ). bit_or m x) whole ∙ or_shifted x n x below in
    let mask : 1 * 2 ^ n % 2 ^ 128 ≡ 2 ^ n = one_shl n 128 (omega arith) in
    let none : 0 * n + r ≡ r = omega arith in
    let turn : r % n ≡ r = ap (λ (m : ℕ). m % n) (sym none) ∙ mod-mul-add 0 n r low in
    ap (λ (m : ℕ). bit_and (bit_or (x * 2 ^ n % 2 ^ 128) x / 2 ^ r) (m - 1)) mask
    ∙ and_mask (bit_or (x * 2 ^ n % 2 ^ 128) x / 2 ^ r) n
    ∙ ap (λ (m : ℕ). m / 2 ^ r % 2 ^ n) twice
    ∙ sym (turned n r x (omega arith) below)
    ∙ ap (λ (m : ℕ). x / 2 ^ m + x % 2 ^ m * 2 ^ (n - m)) (sym turn)

-- ---- a number rotated left: with end-around carry, times a power of two

product_is : (x a r W R P : ℕ) → a * R + r ≡ x → P ≡ W * R → x * W ≡ a * P + r * W
product_is x a r W R P split power = omega (arith, ap (λ (m : ℕ). m * W) split, ap (λ (m : ℕ). a * m) power)

turned_left : (n b x : ℕ) → b ≤ n → 2 ≤ 2 ^ n → x < 2 ^ n
    → bit_or (x * 2 ^ b % 2 ^ n) (x / 2 ^ (n - b)) ≡ end_around_carry n (x * 2 ^ b)
turned_left n b x fits some below =
    let W : ℕ = 2 ^ b in
    let R : ℕ = 2 ^ (n - b) in
    let a : ℕ = x / R in
    let r : ℕ = x % R in
    let parts : n ≡ b + (n - b) = omega arith in
    let power : 2 ^ n ≡ W * R = ap (λ (m : ℕ). 2 ^ m) parts ∙ pow-add 2 b (n - b) in
    let split : a * R + r ≡ x = shr_split x (n - b) in
    let low : r < R = mod_below x R (pow_pos (n - b)) in
    let high : a < W = let h : x < 2 ^ (b + (n - b)) = rw (← parts) below in shr_below x b (n - b) h in
    let product : x * W ≡ a * 2 ^ n + r * W = product_is x a r W R (2 ^ n) split power in
    let small : r * W + a < 2 ^ n = rw power (mul-add-lt r W a R low high) in
    let rest : x * W % 2 ^ n ≡ r * W =
    ap (λ (m : ℕ). m % 2 ^ n) product ∙ mod-mul-add a (2 ^ n) (r * W) (omega arith) in
    let swapped : a + r * W ≡ r * W + a = omega arith in
    ap (λ (m : ℕ). bit_or m a) rest ∙ or_shifted r b a high
    ∙ sym (ap (end_around_carry n) product ∙ end_around_carry-high n a (r * W) some ∙ ap (end_around_carry n) swapped
    ∙ end_around_carry-small n (r * W + a) some small)

-- u128's rotate_left
pub rotated_left : (x b : ℕ) → 0 < b → b < 128 → x < 2 ^ 128
    → bit_or (x * 2 ^ (b % 128) % 2 ^ 128) (x / 2 ^ ((128 - b % 128) % 128)) ≡ end_around_carry 128 (x * 2 ^ b)
rotated_left x b some fits below =
    let first : b % 128 ≡ b = omega arith in
    let second : (128 - b) % 128 ≡ 128 - b = omega arith in
    ap (λ (m : ℕ). bit_or (x * 2 ^ m % 2 ^ 128) (x / 2 ^ ((128 - m) % 128))) first
    ∙ ap (λ (m : ℕ). bit_or (x * 2 ^ b % 2 ^ 128) (x / 2 ^ m)) second
    ∙ turned_left 128 b x (omega arith) (omega arith) below

-- ---- the copies as one number

pub number-copies_none : (bs : List ℕ) → number (rotated_copies bs 0) ≡ 0
unfolding number rotated_copies
number-copies_none bs = refl

pub number-copies_more : (bs : List ℕ) (i : ℕ) → ((j : ℕ) → get_or bs j 0 < 256) → 0 < length bs
    → number (rotated_copies bs (i + 1))
    ≡ number (rotated_copies bs i) * 2 ^ (8 * length bs) + rotate_right (8 * length bs) (13 * i) (number bs)
unfolding rotated_copies
number-copies_more bs i octets some =
    let n : ℕ = length bs in
    let copy : ℕ = rotate_right (8 * n) (13 * i) (number bs) in
    let below : copy < 2 ^ (8 * n) = rotate_right-lt (8 * n) (13 * i) (number bs) (omega arith) (number-lt bs octets) in
    let none : 0 * 2 ^ (8 * n) + copy ≡ copy = omega arith in
    let same : copy % 2 ^ (8 * n) ≡ copy =
    ap (λ (m : ℕ). m % 2 ^ (8 * n)) (sym none) ∙ mod-mul-add 0 (2 ^ (8 * n)) copy below in
    let last : number (rotated_copy bs i) ≡ copy = number-octets_of n copy ∙ same in
    rw add-one
    (number-append (rotated_copies bs i) (rotated_copy bs i)
    ∙ ap (λ (m : ℕ). number (rotated_copies bs i) * 2 ^ (8 * m) + number (rotated_copy bs i)) (length-rotated_copy bs i)
    ∙ ap (λ (m : ℕ). number (rotated_copies bs i) * 2 ^ (8 * n) + m) last)

octets-take : (xs : List ℕ) (n : ℕ) → ((j : ℕ) → get_or xs j 0 < 256) → (j : ℕ) → get_or (take n xs) j 0 < 256
octets-take xs zero octets j = omega arith
octets-take [] (suc n) octets j = omega arith
octets-take (x ∷ xs) (suc n) octets zero = octets 0
octets-take (x ∷ xs) (suc n) octets (suc j) = octets-take xs n (λ k. octets (suc k)) j

-- ---- whole pieces need not be cut

pieces_are : (n : ℕ) (s : List ℕ) (k : ℕ) → 2 ≤ 2 ^ (8 * n) → n * k ≤ length s
    → end_around_carry (8 * n) (number (take (n * k) s)) ≡ end_around_carry (8 * n) (pieces_sum n s k)
unfolding number
pieces_are n s zero some inside =
    let none : n * 0 ≡ 0 = omega arith in
    ap (λ (m : ℕ). end_around_carry (8 * n) (number (take m s))) none
    ∙ ap (end_around_carry (8 * n)) (sym (pieces_sum_none n s))
pieces_are n s (suc k) some inside =
    let front : List ℕ = take (n * k) s in
    let piece : List ℕ = take n (drop (n * k) s) in
    let next : n * suc k ≡ n * k + n = omega arith in
    let size : length piece ≡ n = omega (arith, length-take n (drop (n * k) s), length-drop (n * k) s) in
    let whole : number (take (n * suc k) s) ≡ number front * 2 ^ (8 * n) + number piece =
    ap (λ (m : ℕ). number (take m s)) next ∙ ap number (take-add (n * k) n s) ∙ number-append front piece
    ∙ ap (λ (m : ℕ). number front * 2 ^ (8 * m) + number piece) size in
    let more : pieces_sum n s (suc k) ≡ pieces_sum n s k + number piece =
    let e : suc k ≡ k + 1 = omega arith in ap (pieces_sum n s) e ∙ pieces_sum_more n s k in
    ap (end_around_carry (8 * n)) whole
    ∙ end_around_carry-high (8 * n) (number front) (number piece) some
    ∙ sym (end_around_carry-add (8 * n) (number front) (number piece))
    ∙ ap (λ (m : ℕ). end_around_carry (8 * n) (m + number piece)) (pieces_are n s k some (omega arith))
    ∙ end_around_carry-add (8 * n) (pieces_sum n s k) (number piece)
    ∙ ap (end_around_carry (8 * n)) (sym more)

-- the sum of the copies up to the least common multiple of both lengths
pub block_fold_is : (bs : List ℕ) (g total : ℕ) → 0 < length bs → IsGcd (length bs) 16 g
    → total ≡ end_around_carry 128 (number (rotated_copies bs (16 / g))) → octets_of 16 total ≡ n_fold bs 16
unfolding n_fold
block_fold_is bs g total some is sum =
    let n : ℕ = length bs in
    let fits = fits_lcm n 16 g some (omega arith) is in
    let s : List ℕ = rotated_copies bs (16 / g) in
    let size : length s ≡ 16 * (n / g) = length-rotated_copies bs (16 / g) ∙ sym fits.all in
    let all : take (16 * (n / g)) s ≡ s = take_all (16 * (n / g)) s (omega arith) in
    let pieces : end_around_carry 128 (number s) ≡ end_around_carry 128 (pieces_sum 16 s (n / g)) =
    ap (λ (l : List ℕ). end_around_carry 128 (number l)) (sym all) ∙ pieces_are 16 s (n / g) (omega arith) (omega arith) in
    ap (octets_of 16) (sum ∙ pieces
    ∙ ap (λ (k : ℕ). end_around_carry 128 (pieces_sum 16 (rotated_copies bs k) (n / g))) (sym fits.copies)
    ∙ ap (λ (k : ℕ). end_around_carry 128 (pieces_sum 16 (rotated_copies bs (lcm n 16 / n)) k)) (sym fits.pieces))

-- how far the next copy is rotated
pub next_turn_is : (turn n : ℕ) → 0 < n → turn < n → turn + 13 % n < n → turn + 13 % n ≡ (turn + 13) % n
next_turn_is turn n some low fits =
    let none : 0 * n + (turn + 13 % n) ≡ turn + 13 % n = omega arith in
    sym (mod-mul-add 0 n (turn + 13 % n) fits) ∙ ap (λ (m : ℕ). m % n) none ∙ add-mod-mod turn 13 n

pub next_turn_over : (turn n : ℕ) → 0 < n → turn < n → n ≤ turn + 13 % n → turn + 13 % n - n ≡ (turn + 13) % n
next_turn_over turn n some low over =
    let step : 13 % n < n = mod_below 13 n some in
    let once : 1 * n + (turn + 13 % n - n) ≡ turn + 13 % n = omega arith in
    sym (mod-mul-add 1 n (turn + 13 % n - n) (omega arith)) ∙ ap (λ (m : ℕ). m % n) once ∙ add-mod-mod turn 13 n

-- ---- the loop

-- one more byte of a word
pub word_more : (xs : List ℕ) (i : ℕ) → ((j : ℕ) → get_or xs j 0 < 256) → i < length xs → length xs ≤ 8
    → number (take i xs) * 256 + get_or xs i 0 < 2 ^ 64
word_more xs i octets inside few =
    let size : length (take (i + 1) xs) ≡ i + 1 = omega (arith, length-take (i + 1) xs) in
    let below : number (take (i + 1) xs) < 2 ^ (8 * length (take (i + 1) xs)) =
    number-lt (take (i + 1) xs) (octets-take xs (i + 1) octets) in
    let most : 2 ^ (8 * length (take (i + 1) xs)) ≤ 2 ^ 64 =
    pow_mono {i = 8 * length (take (i + 1) xs)} {j = 64} (omega arith) in
    omega (arith, number-take_more xs i inside)

-- one more copy
pub block_fold_more : (bs : List ℕ) (i total left copy sum : ℕ) → ((j : ℕ) → get_or bs j 0 < 256) → 0 < length bs
    → total ≡ end_around_carry 128 (number (rotated_copies bs i))
    → left ≡ end_around_carry 128 (total * 2 ^ (8 * length bs))
    → copy ≡ rotate_right (8 * length bs) (13 * i) (number bs) → sum ≡ end_around_carry 128 (left + copy)
    → sum ≡ end_around_carry 128 (number (rotated_copies bs (i + 1)))
block_fold_more bs i total left copy sum octets some before turned_is copy_is sum_is =
    let P : ℕ = 2 ^ (8 * length bs) in
    let t : ℕ = number (rotated_copies bs i) in
    let k : ℕ = rotate_right (8 * length bs) (13 * i) (number bs) in
    sum_is
    ∙ ap (λ (m : ℕ). end_around_carry 128 (m + copy)) (turned_is ∙ ap (λ (m : ℕ). end_around_carry 128 (m * P)) before)
    ∙ ap (λ (m : ℕ). end_around_carry 128 (end_around_carry 128 (end_around_carry 128 t * P) + m)) copy_is
    ∙ end_around_carry-step 128 t P k (pow_pos (8 * length bs))
    ∙ ap (end_around_carry 128) (sym (number-copies_more bs i octets some))

-- rotated by the rest of 13 bits for each copy before it
pub copy_turn : (n i x : ℕ) → rotate_right n (13 * i % n) x ≡ rotate_right n (13 * i) x
copy_turn n i x = ap (λ (m : ℕ). x / 2 ^ m + x % 2 ^ m * 2 ^ (n - m)) (mod-mod (13 * i) n)
