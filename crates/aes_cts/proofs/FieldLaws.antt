-- Products in the field: they are linear.
use Rattle.std.proofs.Common.{◌≡◌, ℕ, zero, suc, ◌*◌, ◌/◌, ◌%◌, ◌<◌, ◌==◌, true, refl, arith, bit_xor}
use Rattle.std.proofs.Math.Nat.{zero-mul, one-mul}
use Rattle.std.proofs.lemmas.Bool.{eqb-true}
use Rattle.std.proofs.lemmas.Nat.{xor_comm, xor_of_8}
use Rattle.std.specs.Int.Bits.{xor_assoc, xor_zero_r, xor_self}
use Rattle.aes_cts.specs.Field.{times_low, times, times_x}
use Rattle.aes_cts.proofs.Octets.{passes_below, passes_at}

-- (a + b) + (c + d) = (a + c) + (b + d)
pub xor_swap : (a b c d : ℕ) → bit_xor (bit_xor a b) (bit_xor c d) ≡ bit_xor (bit_xor a c) (bit_xor b d)
xor_swap a b c d =
    rw (xor_assoc a b (bit_xor c d), ← xor_assoc b c d, xor_comm b c, xor_assoc c b d, ← xor_assoc a c (bit_xor b d))
    refl

-- a term added twice cancels
pub xor_twice : (a b : ℕ) → bit_xor (bit_xor a b) b ≡ a
xor_twice a b = rw (xor_assoc a b b, xor_self b) (xor_zero_r a)

pairs : passes_below (λ a. passes_below (λ b. times_x (bit_xor a b) == bit_xor (times_x a) (times_x b)) 256) 256 ≡ true
unfolding passes_below
pairs = refl

pub times_x-xor : (a b : ℕ) → a < 256 → b < 256 → times_x (bit_xor a b) ≡ bit_xor (times_x a) (times_x b)
times_x-xor a b ha hb =
    eqb-true _ _
    (passes_at (λ b. times_x (bit_xor a b) == bit_xor (times_x a) (times_x b)) 256 b
    (passes_at (λ a. passes_below (λ b. times_x (bit_xor a b) == bit_xor (times_x a) (times_x b)) 256) 256 a pairs ha)
    hb)

pub times_x-lt : (a : ℕ) → a < 256 → times_x a < 256
times_x-lt a h = xor_of_8 (a * 2 % 256) (a / 128 * 27) (omega arith) (omega arith)

-- a bit times a sum
bit-xor : (c a b : ℕ) → c < 2 → c * bit_xor a b ≡ bit_xor (c * a) (c * b)
bit-xor zero a b h = rw (zero-mul (bit_xor a b), zero-mul a, zero-mul b) refl
bit-xor (suc zero) a b h = rw (one-mul (bit_xor a b), one-mul a, one-mul b) refl
bit-xor (suc (suc c)) a b h = absurd (omega arith)

times_low-xor : (n a b c : ℕ) → a < 256 → b < 256
    → times_low n (bit_xor a b) c ≡ bit_xor (times_low n a c) (times_low n b c)
unfolding times_low
times_low-xor zero a b c ha hb = refl
times_low-xor (suc n) a b c ha hb =
    let e = times_low-xor n (times_x a) (times_x b) (c / 2) (times_x-lt a ha) (times_x-lt b hb) in
    rw (times_x-xor a b ha hb, e, bit-xor (c % 2) a b (omega arith)) (xor_swap (c % 2 * a) (c % 2 * b) _ _)

pub times-xor : (a b c : ℕ) → a < 256 → b < 256 → times (bit_xor a b) c ≡ bit_xor (times a c) (times b c)
unfolding times
times-xor a b c ha hb = times_low-xor 8 a b c ha hb

bit-lt : (c a : ℕ) → c < 2 → a < 256 → c * a < 256
bit-lt zero a h ha = rw (zero-mul a) (omega arith)
bit-lt (suc zero) a h ha = rw (one-mul a) ha
bit-lt (suc (suc c)) a h ha = absurd (omega arith)

times_low-lt : (n a b : ℕ) → a < 256 → times_low n a b < 256
unfolding times_low
times_low-lt zero a b h = omega arith
times_low-lt (suc n) a b h =
    xor_of_8 (b % 2 * a) (times_low n (times_x a) (b / 2)) (bit-lt (b % 2) a (omega arith) h)
    (times_low-lt n (times_x a) (b / 2) (times_x-lt a h))

pub times-lt : (a b : ℕ) → a < 256 → times a b < 256
unfolding times
times-lt a b h = times_low-lt 8 a b h

-- a product with a sum of four
pub times-sum : (p q r s c : ℕ) → p < 256 → q < 256 → r < 256 → s < 256
    → times (bit_xor (bit_xor p q) (bit_xor r s)) c ≡ bit_xor (bit_xor (times p c) (times q c))
    (bit_xor (times r c) (times s c))
times-sum p q r s c hp hq hr hs =
    rw (
      times-xor (bit_xor p q) (bit_xor r s) c (xor_of_8 p q hp hq) (xor_of_8 r s hr hs),
      times-xor p q c hp hq,
      times-xor r s c hr hs,
    ) refl
