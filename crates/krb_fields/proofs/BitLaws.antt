-- One bit of flags, after this or another bit was set or cleared.
use Rattle.std.proofs.Common.{◌≡◌, ◌≢◌, ◌==◌, ◌||◌, ◌&&◌, not, ℕ, ◌-◌, ◌*◌, ◌%◌, ◌^◌, ◌<◌, Bool, true, false, bit_and, bit_or, w32, refl, ap, ◌∙◌, arith}
use Rattle.std.specs.Int.{bit_not}
use Rattle.std.proofs.lemmas.Bool.Decides.{nat_tests}
use Rattle.std.proofs.lemmas.Nat.Bits.{bit_at_set_same, bit_at_set_other, bit_at_clear_same, bit_at_clear_other}
use Rattle.krb_fields.specs.Flags.{has_bit}

same_number : (n b : ℕ) → (n == b) ≡ true → n ≡ b
same_number n b e = grind (arith, nat_tests)

other_place : (n b : ℕ) → n < 32 → b < 32 → (n == b) ≡ false → 31 - n ≢ 31 - b
other_place n b hn hb e = let other : n ≢ b = grind (arith, nat_tests) in λ same. other (omega (arith, same))

-- `flags | 1 << (31 - b)`
pub has_bit-set : (flags b n : ℕ) → b < 32 → n < 32 → has_bit (bit_or flags (1 * 2 ^ (31 - b) % 2 ^ 32)) n ≡ (n == b || has_bit flags n)
has_bit-set flags b n hb hn = by_cases (n == b) refl
  where
    by_cases : (s : Bool) → (n == b) ≡ s → has_bit (bit_or flags (1 * 2 ^ (31 - b) % 2 ^ 32)) n ≡ (s || has_bit flags n)
    by_cases true p = ap (λ m. has_bit (bit_or flags (1 * 2 ^ (31 - b) % 2 ^ 32)) m) (same_number n b p) ∙ ap (λ v. v == 1) (bit_at_set_same w32 flags (31 - b) (omega arith))
    by_cases false p = ap (λ v. v == 1) (bit_at_set_other w32 flags (31 - b) (omega arith) (31 - n) (other_place n b hn hb p))

-- `flags & !(1 << (31 - b))`
pub has_bit-clear : (flags b n : ℕ) → b < 32 → n < 32 → has_bit (bit_and flags (bit_not w32 (1 * 2 ^ (31 - b) % 2 ^ 32))) n ≡ (not (n == b) && has_bit flags n)
has_bit-clear flags b n hb hn = by_cases (n == b) refl
  where
    by_cases : (s : Bool) → (n == b) ≡ s → has_bit (bit_and flags (bit_not w32 (1 * 2 ^ (31 - b) % 2 ^ 32))) n ≡ (not s && has_bit flags n)
    by_cases true p = ap (λ m. has_bit (bit_and flags (bit_not w32 (1 * 2 ^ (31 - b) % 2 ^ 32))) m) (same_number n b p) ∙ ap (λ v. v == 1) (bit_at_clear_same w32 flags (31 - b) (omega arith))
    by_cases false p = ap (λ v. v == 1) (bit_at_clear_other w32 flags (31 - b) (omega arith) (31 - n) (omega arith) (other_place n b hn hb p))
