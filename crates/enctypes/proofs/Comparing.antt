-- Bytes are equal if no bit of them differs.
use Rattle.std.proofs.Common.{◌≡◌, ℕ, sym, ap, ◌∙◌, arith, bit_or, bit_xor}
use Rattle.std.specs.Int.Bits.{xor_assoc, xor_self, xor_zero_l, xor_zero_r}
use Rattle.std.proofs.lemmas.Nat.{le_or_l, le_or_r}

pub or-zero_left : (a b : ℕ) → bit_or a b ≡ 0 → a ≡ 0
or-zero_left a b h = omega (arith, le_or_l a b)

pub or-zero_right : (a b : ℕ) → bit_or a b ≡ 0 → b ≡ 0
or-zero_right a b h = omega (arith, le_or_r a b)

pub xor-zero : (a b : ℕ) → bit_xor a b ≡ 0 → a ≡ b
xor-zero a b h = sym (xor_zero_r a) ∙ ap (bit_xor a) (sym (xor_self b)) ∙ sym (xor_assoc a b b)
    ∙ ap (λ (n : ℕ). bit_xor n b) h ∙ xor_zero_l b
