-- The greatest common divisor and the least common multiple of n-fold's lengths.
use Rattle.std.proofs.Common.{◌≡◌, ℕ, zero, suc, ◌+◌, ◌*◌, ◌/◌, ◌%◌, ◌≤◌, ◌<◌, refl, ap, ◌∙◌, arith}
use Rattle.std.specs.Int.{IsGcd}
use Rattle.std.proofs.Math.Nat.{mod-zero}
use Rattle.std.proofs.lemmas.Nat.{div-mul-add, div-add-mod', mod_below}
use Rattle.std.proofs.lemmas.Nat.Gcd.{IsGcd-from_zero, IsGcd-from_mod, same_from_IsGcd, mod-eq-zero_of_dvd}
use Rattle.prf_kdf.specs.Fold.{gcd_within, gcd, lcm}

gcd_within_is : (steps a b : ℕ) → b ≤ steps → IsGcd a b (gcd_within steps a b)
unfolding gcd_within
gcd_within_is zero a b fuel = IsGcd-from_zero a b (omega arith)
gcd_within_is (suc steps) a zero fuel = IsGcd-from_zero a 0 refl
gcd_within_is (suc steps) a (suc b) fuel =
    IsGcd-from_mod a (suc b) _
    (gcd_within_is steps (suc b) (a % suc b) (omega (arith, mod_below a (suc b) (omega arith))))

-- the definition by Euclid's algorithm is the greatest common divisor
pub gcd_is : (a b : ℕ) → IsGcd a b (gcd a b)
gcd_is a b = gcd_within_is b a b (omega arith)

positive : (n g : ℕ) → 0 < n → n % g ≡ 0 → 0 < g
positive n zero some whole = absurd (omega (arith, mod-zero n))
positive n (suc g) some whole = omega arith

pub gcd_positive : (n m g : ℕ) → 0 < n → IsGcd n m g → 0 < g
gcd_positive n m g some is = positive n g some (mod-eq-zero_of_dvd g is.0)

-- how often two lengths fit in their least common multiple
pub record FitsLcm (n m g : ℕ) : Type 0 where
  pub pieces : lcm n m / m ≡ n / g
  pub copies : lcm n m / n ≡ m / g
  pub all : m * (n / g) ≡ n * (m / g)

pub fits_lcm : (n m g : ℕ) → 0 < n → 0 < m → IsGcd n m g → FitsLcm n m g
fits_lcm n m g some_n some_m is =
    let d : ℕ = n / g in
    let e : ℕ = m / g in
    let whole_n : n % g ≡ 0 = mod-eq-zero_of_dvd g is.0 in
    let whole_m : m % g ≡ 0 = mod-eq-zero_of_dvd g is.1 in
    let some_g : 0 < g = gcd_positive n m g some_n is in
    let n_is : n ≡ d * g = omega (arith, div-add-mod' n g) in
    let m_is : m ≡ e * g = omega (arith, div-add-mod' m g) in
    let product : n * m ≡ d * m * g + 0 = omega (arith, ap (λ k. k * m) n_is) in
    let same : m * d ≡ n * e = omega (arith, ap (λ k. k * d) m_is, ap (λ k. k * e) n_is) in
    let lcm_is : lcm n m ≡ d * m =
    ap (λ k. n * m / k) (same_from_IsGcd n m (gcd n m) g (gcd_is n m) is) ∙ ap (λ k. k / g) product
    ∙ div-mul-add (d * m) g 0 some_g in
    let by_m : d * m ≡ d * m + 0 = omega arith in
    let by_n : d * m ≡ e * n + 0 = omega arith in
    record {
      pieces = ap (λ k. k / m) (lcm_is ∙ by_m) ∙ div-mul-add d m 0 some_m;
      copies = ap (λ k. k / n) (lcm_is ∙ by_n) ∙ div-mul-add e n 0 some_n;
      all = same;
    }
