-- Reading bits gives those that were written.
use Rattle.std.proofs.Common.{◌≡◌, ℕ, ◌^◌, ◌%◌, ◌<◌, ◌∷◌, true, eqb, refl, arith, eq-eqb}
use Rattle.std.specs.Int.{w32, to_be_bytes}
use Rattle.std.proofs.lemmas.Nat.{from_be_bytes-to_be_bytes_4}
use Rattle.krb_der.specs.Bits.{is_bits, is_padded, first_bits, bits_value, Bits, bits_spelling}

pub bits_spelled : (bits : ℕ) → bits < 2 ^ 32 → Bits (bits, 32) (bits_spelling bits)
unfolding is_bits is_padded bits_value first_bits
bits_spelled bits lt =
    let none : (n : ℕ) → eqb (n % 1) 0 ≡ true = λ n. eq-eqb (n % 1) 0 (omega arith) in (
      0 ∷ to_be_bytes w32 bits,
      omega arith,
      record {
        passes = none _;
        stands = (λ i. (from_be_bytes-to_be_bytes_4 bits lt i, 32));
      },
      refl,
    )
