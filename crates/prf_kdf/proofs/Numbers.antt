-- The number that bytes spell, and its bytes.
use Rattle.std.proofs.Common.{◌≡◌, ℕ, zero, suc, ◌+◌, ◌-◌, ◌*◌, ◌/◌, ◌%◌, ◌^◌}
use Rattle.std.proofs.Common.{◌≤◌, ◌<◌, List, [], ◌∷◌, ◌++◌, take, drop, length, replicate}
use Rattle.std.proofs.Common.{get_or, set, refl, sym, ap, ◌∙◌, arith, length-append, length-drop, take-append-drop}
use Rattle.std.proofs.lemmas.List.{drop_all, drop_more, take_more, get_or-drop, ext_get_or}
use Rattle.std.proofs.lemmas.Nat.{pow-add, pow_pos, mod-pow-add, mul-add-lt, shr_high, mod_low}
use Rattle.prf_kdf.specs.Fold.{number, octets_of}

pub next_power : (k : ℕ) → 2 ^ (8 * (k + 1)) ≡ 256 * 2 ^ (8 * k)
next_power k = let e : 8 * (k + 1) ≡ 8 + 8 * k = omega arith in rw e (pow-add 2 8 (8 * k))

pub number-append : (xs ys : List ℕ) → number (xs ++ ys) ≡ number xs * 2 ^ (8 * length ys) + number ys
unfolding number
number-append [] ys = omega arith
number-append (x ∷ xs) ys =
    let len : 8 * length (xs ++ ys) ≡ 8 * length xs + 8 * length ys = omega (arith, length-append xs ys) in
    let power : 2 ^ (8 * length (xs ++ ys)) ≡ 2 ^ (8 * length xs) * 2 ^ (8 * length ys) =
    ap (λ n. 2 ^ n) len ∙ pow-add 2 (8 * length xs) (8 * length ys) in
    rw (power, number-append xs ys) (omega arith)

pub number_one : (x : ℕ) → number (x ∷ []) ≡ x
unfolding number
number_one x = omega arith

-- n bytes spell a number below 2^(8 n)
pub number-lt : (xs : List ℕ) → ((i : ℕ) → get_or xs i 0 < 256) → number xs < 2 ^ (8 * length xs)
unfolding number
number-lt [] octets = pow_pos 0
number-lt (x ∷ xs) octets =
    let P : ℕ = 2 ^ (8 * length xs) in
    let rest : number xs < P = number-lt xs (λ i. octets (suc i)) in
    let below : x * P + number xs < P * 256 = mul-add-lt x P (number xs) 256 (octets 0) rest in
    let power : 2 ^ (8 * suc (length xs)) ≡ 256 * P =
    let e : 8 * suc (length xs) ≡ 8 * (length xs + 1) = omega arith in ap (λ n. 2 ^ n) e ∙ next_power (length xs) in
    omega arith

-- writing a byte leaves bytes
pub set-lt : (xs : List ℕ) (i x : ℕ) → ((j : ℕ) → get_or xs j 0 < 256) → x < 256 → (j : ℕ)
    → get_or (set xs i x) j 0 < 256
set-lt [] i x octets small j = octets j
set-lt (y ∷ ys) zero x octets small zero = small
set-lt (y ∷ ys) zero x octets small (suc j) = octets (suc j)
set-lt (y ∷ ys) (suc i) x octets small zero = octets 0
set-lt (y ∷ ys) (suc i) x octets small (suc j) = set-lt ys i x (λ j. octets (suc j)) small j

-- the front of the bytes spells a quotient
pub number-take : (xs : List ℕ) (n k : ℕ) → ((i : ℕ) → get_or xs i 0 < 256) → n + k ≡ length xs
    → number xs / 2 ^ (8 * k) ≡ number (take n xs)
number-take xs n k octets len =
    let rest : length (drop n xs) ≡ k = omega (arith, length-drop n xs) in
    let below : number (drop n xs) < 2 ^ (8 * length (drop n xs)) =
    number-lt (drop n xs) (λ i. rw get_or-drop (octets (n + i))) in
    let parts : number xs ≡ number (take n xs) * 2 ^ (8 * k) + number (drop n xs) =
    ap number (sym (take-append-drop n xs)) ∙ number-append (take n xs) (drop n xs) ∙ rw rest refl in
    rw parts (shr_high (number (take n xs)) (8 * k) (number (drop n xs)) (rw (← rest) below))

pub number-take_more : (xs : List ℕ) (n : ℕ) → n < length xs
    → number (take (n + 1) xs) ≡ number (take n xs) * 256 + get_or xs n 0
number-take_more xs n inside =
    ap number (take_more xs n 0 inside) ∙ number-append (take n xs) (get_or xs n 0 ∷ [])
    ∙ ap (λ m. number (take n xs) * 256 + m) (number_one (get_or xs n 0))

pub number-drop : (xs : List ℕ) (i k : ℕ) → k + (i + 1) ≡ length xs
    → number (drop i xs) ≡ get_or xs i 0 * 2 ^ (8 * k) + number (drop (i + 1) xs)
unfolding number
number-drop xs i k len =
    let rest : length (drop (i + 1) xs) ≡ k = omega (arith, length-drop (i + 1) xs) in
    rw (drop_more xs i 0 (omega arith), rest) refl

pub number_past : (xs : List ℕ) (i : ℕ) → length xs ≤ i → number (drop i xs) ≡ 0
unfolding number
number_past xs i past = rw (drop_all i xs past) refl

pub number-replicate : (n : ℕ) → number (replicate n 0) ≡ 0
unfolding number
number-replicate zero = refl
number-replicate (suc n) = omega (arith, number-replicate n)

pub length-octets_of : (n x : ℕ) → length (octets_of n x) ≡ n
unfolding octets_of
length-octets_of zero x = refl
length-octets_of (suc n) x = ap suc (length-octets_of n x)

pub get_or-octets_of : (n x i k : ℕ) → k + (i + 1) ≡ n → get_or (octets_of n x) i 0 ≡ x / 2 ^ (8 * k) % 256
unfolding octets_of
get_or-octets_of zero x i k len = absurd (omega arith)
get_or-octets_of (suc n) x zero k len = let e : n ≡ k = omega arith in rw e refl
get_or-octets_of (suc n) x (suc i) k len = get_or-octets_of n x i k (omega arith)

-- the number that the bytes of a number spell
pub number-octets_of : (n x : ℕ) → number (octets_of n x) ≡ x % 2 ^ (8 * n)
unfolding number octets_of
number-octets_of zero x = omega arith
number-octets_of (suc n) x =
    let e : 8 * suc n ≡ 8 + 8 * n = omega arith in
    rw (length-octets_of n x, number-octets_of n x, e) (sym (mod-pow-add x 8 (8 * n)))

-- the bytes of the number that bytes spell
pub octets_of-number : (xs : List ℕ) → ((i : ℕ) → get_or xs i 0 < 256) → octets_of (length xs) (number xs) ≡ xs
octets_of-number xs octets =
    ext_get_or 0 (octets_of (length xs) (number xs)) xs (length-octets_of (length xs) (number xs))
    (λ i below.
    let inside : i < length xs = omega (arith, length-octets_of (length xs) (number xs)) in
    let k : ℕ = length xs - (i + 1) in
    let len : k + (i + 1) ≡ length xs = omega arith in
    get_or-octets_of (length xs) (number xs) i k len
    ∙ ap (λ n. n % 256) (number-take xs (i + 1) k octets (omega arith) ∙ number-take_more xs i inside)
    ∙ mod_low (number (take i xs)) 8 (get_or xs i 0) (octets i))
