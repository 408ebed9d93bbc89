-- CIPHER and INVCIPHER of FIPS 197 (5.1, 5.3).
use Rattle.std.specs.Prelude.{◌≡◌, ℕ, zero, suc, ◌-◌, ◌<◌, ◌≤◌, List, length, All}
use Rattle.aes_cts.specs.State.{sub_bytes, shift_rows, mix_columns, add_round_key}
use Rattle.aes_cts.specs.State.{inverse_sub_bytes, inverse_shift_rows, inverse_mix_columns}
use Rattle.aes_cts.specs.KeyExpansion.{nr_of, key_expansion, round_key}

-- the state after round n for a block s with the schedule w; round 0 is the first AddRoundKey
unfoldable pub rounds : List ℕ → List ℕ → ℕ → List ℕ
rounds w s zero = add_round_key s (round_key w 0)
rounds w s (suc n) = add_round_key (mix_columns (shift_rows (sub_bytes (rounds w s n)))) (round_key w (suc n))

-- CIPHER with nr rounds, the last without MixColumns (5.1)
unfoldable pub cipher : ℕ → List ℕ → List ℕ → List ℕ
cipher nr w s = add_round_key (shift_rows (sub_bytes (rounds w s (nr - 1)))) (round_key w nr)

-- the state of INVCIPHER after its first n rounds, from round nr - 1 downwards
unfoldable pub inverse_rounds : ℕ → List ℕ → List ℕ → ℕ → List ℕ
inverse_rounds nr w s zero = add_round_key s (round_key w nr)
inverse_rounds nr w s (suc n) =
    inverse_mix_columns
    (add_round_key (inverse_sub_bytes (inverse_shift_rows (inverse_rounds nr w s n))) (round_key w (nr - suc n)))

-- INVCIPHER with nr rounds (5.3)
unfoldable pub inverse_cipher : ℕ → List ℕ → List ℕ → List ℕ
inverse_cipher nr w s =
    add_round_key (inverse_sub_bytes (inverse_shift_rows (inverse_rounds nr w s (nr - 1)))) (round_key w 0)

-- the block, encrypted with the key
unfoldable pub aes : List ℕ → List ℕ → List ℕ
aes key block = cipher (nr_of key) (key_expansion key) block

-- the block, decrypted with the key
unfoldable pub aes_inverse : List ℕ → List ℕ → List ℕ
aes_inverse key block = inverse_cipher (nr_of key) (key_expansion key) block

-- a block: 16 bytes
pub record IsBlock (block : List ℕ) : Type 0 where
  pub size : length block ≡ 16
  pub octets : All (λ b. b < 256) block

-- with this key, the cipher maps blocks to blocks, its inverse does too, and each undoes the other
pub record PermutesBlocks (key : List ℕ) : Type 0 where
  pub enciphered : (block : List ℕ) → IsBlock block → IsBlock (aes key block)
  pub deciphered : (block : List ℕ) → IsBlock block → IsBlock (aes_inverse key block)
  pub taken_back : (block : List ℕ) → IsBlock block → aes_inverse key (aes key block) ≡ block
  pub given_back : (block : List ℕ) → IsBlock block → aes key (aes_inverse key block) ≡ block

-- ---- EQINVCIPHER (5.3.5), which computes the same as INVCIPHER, with the steps of a round in the order of CIPHER

-- dw is the schedule w with INVMIXCOLUMNS applied to the round keys 1 to nr - 1
pub record IsInverseSchedule (w dw : List ℕ) (nr : ℕ) : Type 0 where
  pub first : round_key dw 0 ≡ round_key w 0
  pub last : round_key dw nr ≡ round_key w nr
  pub middle : (r : ℕ) → 1 ≤ r → r < nr → round_key dw r ≡ inverse_mix_columns (round_key w r)

-- the state after its first n rounds, from round nr - 1 downwards
unfoldable pub equivalent_rounds : ℕ → List ℕ → List ℕ → ℕ → List ℕ
equivalent_rounds nr dw s zero = add_round_key s (round_key dw nr)
equivalent_rounds nr dw s (suc n) =
    add_round_key (inverse_mix_columns (inverse_sub_bytes (inverse_shift_rows (equivalent_rounds nr dw s n))))
    (round_key dw (nr - suc n))

unfoldable pub equivalent_inverse_cipher : ℕ → List ℕ → List ℕ → List ℕ
equivalent_inverse_cipher nr dw s =
    add_round_key (inverse_sub_bytes (inverse_shift_rows (equivalent_rounds nr dw s (nr - 1)))) (round_key dw 0)
