-- End-around carry: the code adds the carry after each piece, the definition once in the sum of all pieces.
use Rattle.std.proofs.Common.{◌≡◌, ℕ, zero, suc, ◌+◌, ◌-◌, ◌*◌, ◌/◌, ◌%◌}
use Rattle.std.proofs.Common.{◌^◌, ◌≤◌, ◌<◌, refl, sym, ap, ◌∙◌, arith, ⊎_elim}
use Rattle.std.proofs.Math.Nat.{mod-add-mod, add-mul-mod_self_right}
use Rattle.std.proofs.lemmas.Bool.{cases_lt}
use Rattle.std.proofs.lemmas.Nat.{div-add-mod', div-mul-add, mod-mul-add, mod_below}
use Rattle.prf_kdf.specs.Fold.{end_around_carry}

-- the bits above the lowest n, added to the lowest bits once
abbrev pub brought_round : ℕ → ℕ → ℕ
brought_round n x = x % 2 ^ n + x / 2 ^ n

pub brought_round_is : (n c N x : ℕ) → c * 2 ^ n + N ≡ x → N < 2 ^ n → brought_round n x ≡ N + c
brought_round_is n c N x parts fits = rw (← parts, div-mul-add c (2 ^ n) N fits, mod-mul-add c (2 ^ n) N fits) refl

end_around_carry-most : (n t : ℕ) → 2 ≤ 2 ^ n → end_around_carry n t ≤ 2 ^ n - 1
end_around_carry-most n zero some = omega arith
end_around_carry-most n (suc t) some =
    let below : t % (2 ^ n - 1) < 2 ^ n - 1 = mod_below t (2 ^ n - 1) (omega arith) in
    omega arith

pub end_around_carry-lt : (n t : ℕ) → 2 ≤ 2 ^ n → end_around_carry n t < 2 ^ n
end_around_carry-lt n t some = omega (arith, end_around_carry-most n t some)

-- adding a number afterwards
pub end_around_carry-add : (n t p : ℕ) → end_around_carry n (end_around_carry n t + p) ≡ end_around_carry n (t + p)
end_around_carry-add n zero p = refl
end_around_carry-add n (suc t) p =
    let first : t % (2 ^ n - 1) + 1 + p ≡ suc (t % (2 ^ n - 1) + p) = omega arith in
    let second : suc t + p ≡ suc (t + p) = omega arith in
    ap (end_around_carry n) first
    ∙ ap (λ (m : ℕ). m + 1) (mod-add-mod t (2 ^ n - 1) p)
    ∙ sym (ap (end_around_carry n) second)

-- for a sum of two numbers of n bits
pub end_around_carry-two : (n x : ℕ) → 2 ≤ 2 ^ n → x ≤ 2 ^ n - 1 + (2 ^ n - 1) → end_around_carry n x ≡ brought_round n x
end_around_carry-two n zero some most =
    let none : 0 * 2 ^ n + 0 ≡ 0 = omega arith in
    sym (brought_round_is n 0 0 0 none (omega arith))
end_around_carry-two n (suc x) some most = ⊎_elim
    (λ (fits : x < 2 ^ n - 1).
    let parts : 0 * (2 ^ n - 1) + x ≡ x = omega arith in
    let same : x % (2 ^ n - 1) ≡ x = ap (λ (m : ℕ). m % (2 ^ n - 1)) (sym parts) ∙ mod-mul-add 0 (2 ^ n - 1) x fits in
    let whole : 0 * 2 ^ n + suc x ≡ suc x = omega arith in
    ap (λ (m : ℕ). m + 1) same ∙ omega (arith, brought_round_is n 0 (suc x) (suc x) whole (omega arith)))
    (λ (over : 2 ^ n - 1 ≤ x).
    let N : ℕ = x - (2 ^ n - 1) in
    let parts : 1 * (2 ^ n - 1) + N ≡ x = omega arith in
    let less : x % (2 ^ n - 1) ≡ N =
    ap (λ (m : ℕ). m % (2 ^ n - 1)) (sym parts) ∙ mod-mul-add 1 (2 ^ n - 1) N (omega arith) in
    let whole : 1 * 2 ^ n + N ≡ suc x = omega arith in
    ap (λ (m : ℕ). m + 1) less ∙ sym (brought_round_is n 1 N (suc x) whole (omega arith)))
    (cases_lt x (2 ^ n - 1))

-- for one more piece p, adding the carry now or once in the whole sum is the same
pub end_around_carry-more : (n t p : ℕ) → 2 ≤ 2 ^ n → p < 2 ^ n
    → end_around_carry n (t + p) ≡ brought_round n (end_around_carry n t + p)
end_around_carry-more n t p some small =
    let most : end_around_carry n t ≤ 2 ^ n - 1 = end_around_carry-most n t some in
    sym (end_around_carry-add n t p) ∙ end_around_carry-two n (end_around_carry n t + p) some (omega arith)

-- ---- multiples of 2^n

multiple_is : (x p M P s : ℕ) → P ≡ M + 1 → x + p ≡ suc s → x * P + p ≡ suc (s + x * M)
multiple_is x p M P s power sum = omega (arith, ap (λ (m : ℕ). x * m) power)

-- adding a multiple of 2^n - 1 changes nothing, unless the sum was 0
end_around_carry-multiple : (n x s : ℕ) → end_around_carry n (suc (s + x * (2 ^ n - 1))) ≡ end_around_carry n (suc s)
end_around_carry-multiple n x s = ap (λ (m : ℕ). m + 1) (add-mul-mod_self_right s x (2 ^ n - 1))

high : (n x p s : ℕ) → 2 ≤ 2 ^ n → x + p ≡ s → end_around_carry n (x * 2 ^ n + p) ≡ end_around_carry n (x + p)
high n x p zero some sum =
    let none : x ≡ 0 = omega arith in
    let e : x * 2 ^ n + p ≡ x + p = omega (arith, ap (λ (m : ℕ). m * 2 ^ n) none) in
    ap (end_around_carry n) e
high n x p (suc s) some sum =
    let power : 2 ^ n ≡ (2 ^ n - 1) + 1 = omega arith in
    ap (end_around_carry n) (multiple_is x p (2 ^ n - 1) (2 ^ n) s power sum) ∙ end_around_carry-multiple n x s
    ∙ ap (end_around_carry n) (sym sum)

-- 2^n counts as 1
pub end_around_carry-high : (n x p : ℕ) → 2 ≤ 2 ^ n → end_around_carry n (x * 2 ^ n + p) ≡ end_around_carry n (x + p)
end_around_carry-high n x p some = high n x p (x + p) some refl

pub end_around_carry-small : (n s : ℕ) → 2 ≤ 2 ^ n → s < 2 ^ n → end_around_carry n s ≡ s
end_around_carry-small n zero some below = refl
end_around_carry-small n (suc s) some below =
    let parts : 0 * (2 ^ n - 1) + s ≡ s = omega arith in
    let same : s % (2 ^ n - 1) ≡ s =
    ap (λ (m : ℕ). m % (2 ^ n - 1)) (sym parts) ∙ mod-mul-add 0 (2 ^ n - 1) s (omega arith) in
    omega (arith, same)

times_is : (t q r M f : ℕ) → 0 < f → q * M + r ≡ t → suc t * f ≡ suc ((r + 1) * f - 1 + q * f * M)
times_is t q r M f some split = omega (arith, ap (λ (m : ℕ). m * f) split)

-- multiplying by a factor
pub end_around_carry-times : (n t f : ℕ) → 0 < f
    → end_around_carry n (end_around_carry n t * f) ≡ end_around_carry n (t * f)
end_around_carry-times n zero f some = refl
end_around_carry-times n (suc t) f some =
    let M : ℕ = 2 ^ n - 1 in
    let q : ℕ = t / M in
    let r : ℕ = t % M in
    let s : ℕ = (r + 1) * f - 1 in
    let here : (r + 1) * f ≡ suc s = omega arith in
    let there : suc t * f ≡ suc (s + q * f * M) = times_is t q r M f some (div-add-mod' t M) in
    ap (end_around_carry n) here ∙ sym (end_around_carry-multiple n (q * f) s) ∙ ap (end_around_carry n) (sym there)

-- a step of Horner's rule
pub end_around_carry-step : (n t f c : ℕ) → 0 < f
    → end_around_carry n (end_around_carry n (end_around_carry n t * f) + c) ≡ end_around_carry n (t * f + c)
end_around_carry-step n t f c some =
    ap (λ (m : ℕ). end_around_carry n (m + c)) (end_around_carry-times n t f some) ∙ end_around_carry-add n (t * f) c
