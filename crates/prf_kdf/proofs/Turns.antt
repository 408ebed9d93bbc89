-- A byte of a rotated copy is cut out of two adjacent bytes of the input.
use Rattle.std.proofs.Common.{◌≡◌, ℕ, ◌+◌, ◌-◌, ◌*◌, ◌/◌, ◌%◌, ◌^◌, ◌≤◌, ◌<◌, List}
use Rattle.std.proofs.Common.{◌++◌, take, length, get_or, sym, ap, ◌∙◌, arith, ⊎_elim, length-append}
use Rattle.std.proofs.Math.Nat.{mul-add-div_right}
use Rattle.std.proofs.Math.Pow.{mod-mod-pow}
use Rattle.std.proofs.lemmas.Bool.{cases_lt}
use Rattle.std.proofs.lemmas.List.{get_or_append_left, get_or-append_right}
use Rattle.std.proofs.lemmas.Nat.{pow-add, pow_pos, shr-shr, shr_split, field_of}
use Rattle.std.proofs.lemmas.Nat.{mul-add-lt, div-mul-add, mod-mul-add, mod_below, shr_below}
use Rattle.prf_kdf.specs.Fold.{number, rotate_right, octet_of_copies}
use Rattle.prf_kdf.proofs.Numbers.{number-append, number-lt, number-take, number-take_more, get_or-octets_of}

twice_split : (x P W R A B : ℕ) → P ≡ W * R → A * R + B ≡ x → x * P + x ≡ (x * W + A) * R + B
twice_split x P W R A B power split = omega (arith, ap (λ m. x * m) power)

high_split : (x P W R A B : ℕ) → P ≡ W * R → A * R + B ≡ x → x * W + A ≡ A * P + (B * W + A)
high_split x P W R A B power split = omega (arith, ap (λ m. A * m) power, ap (λ m. m * W) split)

-- a number of n bits rotated right is n bits of the number written twice
pub turned : (n r x : ℕ) → r ≤ n → x < 2 ^ n → x / 2 ^ r + x % 2 ^ r * 2 ^ (n - r) ≡ (x * 2 ^ n + x) / 2 ^ r % 2 ^ n
turned n r x fits below =
    let A : ℕ = x / 2 ^ r in
    let B : ℕ = x % 2 ^ r in
    let R : ℕ = 2 ^ r in
    let W : ℕ = 2 ^ (n - r) in
    let split : A * R + B ≡ x = shr_split x r in
    let parts : n ≡ (n - r) + r = omega arith in
    let power : 2 ^ n ≡ W * R = ap (λ m. 2 ^ m) parts ∙ pow-add 2 (n - r) r in
    let low : B < R = mod_below x R (pow_pos r) in
    let high : A < W = let b : x < 2 ^ ((n - r) + r) = rw (← parts) below in shr_below x (n - r) r b in
    let small : B * W + A < 2 ^ n = rw power (mul-add-lt B W A R low high) in
    let quotient : (x * 2 ^ n + x) / R ≡ x * W + A =
    ap (λ m. m / R) (twice_split x (2 ^ n) W R A B power split) ∙ div-mul-add (x * W + A) R B low in
    let rest : (x * W + A) % 2 ^ n ≡ B * W + A =
    ap (λ m. m % 2 ^ n) (high_split x (2 ^ n) W R A B power split) ∙ mod-mul-add A (2 ^ n) (B * W + A) small in
    let sum : A + B * W ≡ B * W + A = omega arith in
    sum ∙ sym (ap (λ m. m % 2 ^ n) quotient ∙ rest)

-- eight bits out of a number's last n bits
field : (n r k z : ℕ) → k + 8 ≤ n → z / 2 ^ r % 2 ^ n / 2 ^ k % 2 ^ 8 ≡ z / 2 ^ (r + k) % 2 ^ 8
field n r k z fits =
    let all : n ≡ (n - k) + k = omega arith in
    let left : n - k ≡ (n - k - 8) + 8 = omega arith in
    ap (λ m. z / 2 ^ r % 2 ^ m / 2 ^ k % 2 ^ 8) all
    ∙ ap (λ m. m % 2 ^ 8) (field_of (z / 2 ^ r) (n - k) k)
    ∙ ap (λ m. z / 2 ^ r / 2 ^ k % 2 ^ m % 2 ^ 8) left
    ∙ mod-mod-pow (z / 2 ^ r / 2 ^ k) (n - k - 8) 8
    ∙ ap (λ m. m % 2 ^ 8) (shr-shr z r k)

-- the bits above two bytes don't reach the eight bits that begin in them
pair_of : (high pair o : ℕ) → o < 8 → (high * 65536 + pair) / 2 ^ o % 256 ≡ pair / 2 ^ o % 256
pair_of high pair o small =
    let Q : ℕ = 2 ^ (8 - o) in
    let parts : 16 ≡ ((8 - o) + 8) + o = omega arith in
    let power : 65536 ≡ Q * 256 * 2 ^ o =
    ap (λ m. 2 ^ m) parts ∙ pow-add 2 ((8 - o) + 8) o ∙ ap (λ m. m * 2 ^ o) (pow-add 2 (8 - o) 8) in
    let wide : high * 65536 + pair ≡ high * Q * 256 * 2 ^ o + pair = omega (arith, ap (λ m. high * m) power) in
    ap (λ m. m / 2 ^ o % 256) wide
    ∙ ap (λ m. m % 256) (mul-add-div_right (pow_pos o) (high * Q * 256) pair)
    ∙ omega arith

-- eight bits of the number that bytes spell
window : (xs : List ℕ) (p o k : ℕ) → ((i : ℕ) → get_or xs i 0 < 256) → o < 8 → k + (p + 2) ≡ length xs
    → number xs / 2 ^ (8 * k + o) % 256 ≡ (get_or xs p 0 * 256 + get_or xs (p + 1) 0) / 2 ^ o % 256
window xs p o k octets small len =
    let front : number (take (p + 1 + 1) xs) ≡ number (take p xs) * 65536 + (get_or xs p 0 * 256 + get_or xs (p + 1) 0) =
    number-take_more xs (p + 1) (omega arith) ∙ omega (arith, number-take_more xs p (omega arith)) in
    ap (λ m. m % 256) (sym (shr-shr (number xs) (8 * k) o))
    ∙ ap (λ m. m / 2 ^ o % 256) (number-take xs (p + 1 + 1) k octets (omega arith) ∙ front)
    ∙ pair_of (number (take p xs)) (get_or xs p 0 * 256 + get_or xs (p + 1) 0) o small

-- an element of a list written twice
get_or-twice : (xs : List ℕ) (i : ℕ) → i < 2 * length xs → get_or (xs ++ xs) i 0 ≡ get_or xs (i % length xs) 0
get_or-twice xs i inside = ⊎_elim
    (λ (first : i < length xs).
    let e : i ≡ 0 * length xs + i = omega arith in
    get_or_append_left xs xs 0 i first
    ∙ ap (λ m. get_or xs m 0) (sym (ap (λ m. m % length xs) e ∙ mod-mul-add 0 (length xs) i first)))
    (λ (second : length xs ≤ i).
    let e : i ≡ 1 * length xs + (i - length xs) = omega arith in
    get_or-append_right xs xs (length xs) i 0 (omega arith) second
    ∙ ap (λ m. get_or xs m 0) (sym (ap (λ m. m % length xs) e ∙ mod-mul-add 1 (length xs) (i - length xs) (omega arith))))
    (cases_lt i (length xs))

octets_twice : (xs : List ℕ) → ((i : ℕ) → get_or xs i 0 < 256) → (i : ℕ) → get_or (xs ++ xs) i 0 < 256
octets_twice xs octets i = ⊎_elim
    (λ (first : i < length xs). rw get_or_append_left (octets i))
    (λ (second : length xs ≤ i).
    let e : get_or (xs ++ xs) i 0 ≡ get_or xs (i - length xs) 0 =
    get_or-append_right xs xs (length xs) i 0 (omega arith) second in
    rw e (octets (i - length xs)))
    (cases_lt i (length xs))

-- byte `at` of the copies
pub octet_of_copies_is : (xs : List ℕ) (at shift : ℕ) → ((i : ℕ) → get_or xs i 0 < 256) → 0 < length xs
    → shift ≡ 13 * (at / length xs) % (8 * length xs) + 8 * (length xs - 1 - at % length xs)
    → (get_or xs ((2 * length xs - 1 - shift / 8 - 1) % length xs) 0 * 256
    + get_or xs ((2 * length xs - 1 - shift / 8) % length xs) 0) / 2 ^ (shift % 8) % 256
    ≡ octet_of_copies xs at
octet_of_copies_is xs at shift octets some is =
    let n : ℕ = length xs in
    let x : ℕ = number xs in
    let place : ℕ = at % n in
    let r : ℕ = 13 * (at / n) % (8 * n) in
    let k : ℕ = n - 1 - place in
    let e : ℕ = shift / 8 in
    let p : ℕ = 2 * n - 1 - e - 1 in
    let inside : place < n = mod_below at n some in
    let turn : r < 8 * n = mod_below (13 * (at / n)) (8 * n) (omega arith) in
    let twice : number (xs ++ xs) ≡ x * 2 ^ (8 * n) + x = number-append xs xs in
    let len : e + (p + 2) ≡ length (xs ++ xs) = omega (arith, length-append xs xs) in
    let shifted : r + 8 * k ≡ 8 * e + shift % 8 = omega arith in
    let next : p + 1 ≡ 2 * n - 1 - e = omega arith in
    let eight : number (xs ++ xs) / 2 ^ (8 * e + shift % 8) % 256
    ≡ (get_or (xs ++ xs) p 0 * 256 + get_or (xs ++ xs) (p + 1) 0) / 2 ^ (shift % 8) % 256 =
    window (xs ++ xs) p (shift % 8) e (octets_twice xs octets) (omega arith) len in
    let first : get_or (xs ++ xs) p 0 ≡ get_or xs (p % n) 0 = get_or-twice xs p (omega arith) in
    let second : get_or (xs ++ xs) (p + 1) 0 ≡ get_or xs ((2 * n - 1 - e) % n) 0 =
    get_or-twice xs (p + 1) (omega arith) ∙ ap (λ m. get_or xs (m % n) 0) next in
    let turned_is : rotate_right (8 * n) (13 * (at / n)) x ≡ number (xs ++ xs) / 2 ^ r % 2 ^ (8 * n) =
    turned (8 * n) r x (omega arith) (number-lt xs octets) ∙ ap (λ m. m / 2 ^ r % 2 ^ (8 * n)) (sym twice) in
    let octet : octet_of_copies xs at ≡ number (xs ++ xs) / 2 ^ (r + 8 * k) % 256 =
    get_or-octets_of n (rotate_right (8 * n) (13 * (at / n)) x) place k (omega arith)
    ∙ ap (λ m. m / 2 ^ (8 * k) % 256) turned_is
    ∙ field (8 * n) r (8 * k) (number (xs ++ xs)) (omega arith) in
    sym (octet ∙ ap (λ m. number (xs ++ xs) / 2 ^ m % 256) shifted ∙ eight
    ∙ ap (λ m. (m * 256 + get_or (xs ++ xs) (p + 1) 0) / 2 ^ (shift % 8) % 256) first
    ∙ ap (λ m. (get_or xs (p % n) 0 * 256 + m) / 2 ^ (shift % 8) % 256) second)
