-- The equivalent inverse cipher computes the same as the inverse cipher, because InvMixColumns is linear.
use Rattle.std.proofs.Common.{◌≡◌, ℕ, zero, suc, ◌+◌, ◌-◌, ◌≤◌, ◌<◌, List, [], ◌∷◌}
use Rattle.std.proofs.Common.{◌++◌, refl, sym, ap, ◌∙◌, arith, take, get_or, bit_xor, add-one}
use Rattle.aes_cts.specs.State.{row_times, add_round_key, inverse_sub_bytes, inverse_shift_rows, inverse_mix_columns}
use Rattle.aes_cts.specs.KeyExpansion.{round_key}
use Rattle.aes_cts.specs.Field.{times}
use Rattle.aes_cts.specs.Cipher.{inverse_rounds, inverse_cipher, equivalent_rounds}
use Rattle.aes_cts.specs.Cipher.{equivalent_inverse_cipher, IsInverseSchedule}
use Rattle.aes_cts.proofs.FieldLaws.{times-xor}
use Rattle.aes_cts.proofs.States.{AreOctets, IsState, inverse_sub-is, inverse_shift-is}
use Rattle.aes_cts.proofs.Columns.{sum_4-xor}
use Rattle.aes_cts.proofs.Inverses.{key_octets, inverse_rounds-is}

pub equivalent_none : (nr : ℕ) (dw s : List ℕ) → equivalent_rounds nr dw s 0 ≡ add_round_key s (round_key dw nr)
unfolding equivalent_rounds
equivalent_none nr dw s = refl

pub equivalent_more : (nr : ℕ) (dw s : List ℕ) (n : ℕ)
    → equivalent_rounds nr dw s (n + 1) ≡ add_round_key
    (inverse_mix_columns (inverse_sub_bytes (inverse_shift_rows (equivalent_rounds nr dw s n))))
    (round_key dw (nr - (n + 1)))
unfolding equivalent_rounds
equivalent_more nr dw s n = rw add-one refl

pub equivalent_is : (nr : ℕ) (dw s : List ℕ)
    → equivalent_inverse_cipher nr dw s ≡ add_round_key
    (inverse_sub_bytes (inverse_shift_rows (equivalent_rounds nr dw s (nr - 1)))) (take 16 dw)
unfolding equivalent_inverse_cipher
equivalent_is nr dw s = refl

-- ---- a row and a column times a sum

row-xor : (p q r u a b c d e f g h : ℕ) → a < 256 → b < 256 → c < 256 → d < 256 → e < 256 → f < 256 → g < 256 → h < 256
    → row_times p q r u (bit_xor a e) (bit_xor b f) (bit_xor c g) (bit_xor d h) ≡ bit_xor (row_times p q r u a b c d)
    (row_times p q r u e f g h)
row-xor p q r u a b c d e f g h ha hb hc hd he hf hg hh =
    rw (times-xor a e p ha he, times-xor b f q hb hf, times-xor c g r hc hg, times-xor d h u hd hh)
    (sum_4-xor (times a p) (times b q) (times c r) (times d u) (times e p) (times f q) (times g r) (times h u))

join : (a b c d : List ℕ) → a ≡ c → b ≡ d → a ++ b ≡ c ++ d
join a b c d e f = cc

four : (a b c d e f g h : ℕ) → a ≡ e → b ≡ f → c ≡ g → d ≡ h → (a ∷ b ∷ c ∷ d ∷ []) ≡ (e ∷ f ∷ g ∷ h ∷ [])
four a b c d e f g h i j k l = cc

column-xor : (p q r u a b c d e f g h : ℕ) → a < 256 → b < 256 → c < 256 → d < 256 → e < 256 → f < 256 → g < 256
    → h < 256
    → row_times p q r u (bit_xor a e) (bit_xor b f) (bit_xor c g) (bit_xor d h) ∷ row_times p q r u (bit_xor b f)
    (bit_xor c g) (bit_xor d h) (bit_xor a e)
    ∷ row_times p q r u (bit_xor c g) (bit_xor d h) (bit_xor a e) (bit_xor b f) ∷ row_times p q r u (bit_xor d h)
    (bit_xor a e) (bit_xor b f) (bit_xor c g) ∷ []
    ≡ bit_xor (row_times p q r u a b c d) (row_times p q r u e f g h) ∷ bit_xor (row_times p q r u b c d a)
    (row_times p q r u f g h e)
    ∷ bit_xor (row_times p q r u c d a b) (row_times p q r u g h e f) ∷ bit_xor (row_times p q r u d a b c)
    (row_times p q r u h e f g) ∷ []
column-xor p q r u a b c d e f g h ha hb hc hd he hf hg hh =
    four _ _ _ _ _ _ _ _ (row-xor p q r u a b c d e f g h ha hb hc hd he hf hg hh)
    (row-xor p q r u b c d a f g h e hb hc hd ha hf hg hh he)
    (row-xor p q r u c d a b g h e f hc hd ha hb hg hh he hf) (row-xor p q r u d a b c h e f g hd ha hb hc hh he hf hg)

pub inverse_mix-add : (s k : List ℕ) → AreOctets s → AreOctets k
    → inverse_mix_columns (add_round_key s k) ≡ add_round_key (inverse_mix_columns s) (inverse_mix_columns k)
unfolding inverse_mix_columns add_round_key
inverse_mix-add s k hs hk =
    let a : ℕ → ℕ = λ (i : ℕ). get_or s i 0 in
    let b : ℕ → ℕ = λ (i : ℕ). get_or k i 0 in
    let x = hs.at in
    let y = hk.at in
    join _ _ _ _
    (column-xor 14 11 13 9 (a 0) (a 1) (a 2) (a 3) (b 0) (b 1) (b 2) (b 3) (x 0) (x 1) (x 2) (x 3) (y 0) (y 1) (y 2)
    (y 3))
    (join _ _ _ _ (column-xor 14 11 13 9 (a 4) (a 5) (a 6) (a 7) (b 4) (b 5) (b 6) (b 7) (x 4) (x 5) (x 6) (x 7) (y 4)
    (y 5) (y 6) (y 7))
    (join _ _ _ _ (column-xor 14 11 13 9 (a 8) (a 9) (a 10) (a 11) (b 8) (b 9) (b 10) (b 11) (x 8) (x 9) (x 10) (x 11)
    (y 8) (y 9) (y 10) (y 11))
    (column-xor 14 11 13 9 (a 12) (a 13) (a 14) (a 15) (b 12) (b 13) (b 14) (b 15) (x 12) (x 13) (x 14) (x 15) (y 12)
    (y 13) (y 14) (y 15))))

-- ---- the rounds

equivalent_rounds-is : (nr : ℕ) (w dw s : List ℕ) (n : ℕ) → n < nr → IsInverseSchedule w dw nr → AreOctets w → IsState s
    → equivalent_rounds nr dw s n ≡ inverse_rounds nr w s n
unfolding equivalent_rounds inverse_rounds
equivalent_rounds-is nr w dw s zero lt h hw is = ap (add_round_key s) h.last
equivalent_rounds-is nr w dw s (suc n) lt h hw is =
    let before : List ℕ = inverse_sub_bytes (inverse_shift_rows (inverse_rounds nr w s n)) in
    let state : IsState before = inverse_sub-is _ (inverse_shift-is _ (inverse_rounds-is nr w s n hw is)) in
    ap (λ (t : List ℕ). add_round_key (inverse_mix_columns (inverse_sub_bytes (inverse_shift_rows t)))
    (round_key dw (nr - suc n))) (equivalent_rounds-is nr w dw s n (omega arith) h hw is)
    ∙ ap (add_round_key (inverse_mix_columns before)) (h.middle (nr - suc n) (omega arith) (omega arith))
    ∙ sym (inverse_mix-add before (round_key w (nr - suc n)) state.octets (key_octets w (nr - suc n) hw))

pub equivalent_inverse_cipher-is : (nr : ℕ) (w dw s : List ℕ) → 1 ≤ nr → IsInverseSchedule w dw nr → AreOctets w
    → IsState s → equivalent_inverse_cipher nr dw s ≡ inverse_cipher nr w s
unfolding equivalent_inverse_cipher inverse_cipher
equivalent_inverse_cipher-is nr w dw s some h hw is =
    ap (λ (t : List ℕ). add_round_key (inverse_sub_bytes (inverse_shift_rows t)) (round_key dw 0))
    (equivalent_rounds-is nr w dw s (nr - 1) (omega arith) h hw is)
    ∙ ap (add_round_key (inverse_sub_bytes (inverse_shift_rows (inverse_rounds nr w s (nr - 1))))) h.first
