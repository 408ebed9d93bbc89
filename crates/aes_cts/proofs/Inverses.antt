-- The cipher and its inverse undo each other, if the schedule consists of bytes.
use Rattle.std.proofs.Common.{◌≡◌, ℕ, zero, suc, ◌+◌, ◌-◌, ◌*◌, ◌≤◌, List, ap, ◌∙◌, arith}
use Rattle.aes_cts.specs.State.{sub_bytes, shift_rows, mix_columns, add_round_key}
use Rattle.aes_cts.specs.State.{inverse_sub_bytes, inverse_shift_rows, inverse_mix_columns}
use Rattle.aes_cts.specs.KeyExpansion.{round_key}
use Rattle.aes_cts.specs.Cipher.{rounds, cipher, inverse_rounds, inverse_cipher}
use Rattle.aes_cts.proofs.States.{AreOctets, IsState, sub-is, shift-is, add-is, inverse_sub-is, inverse_shift-is}
use Rattle.aes_cts.proofs.States.{sub_shift_undone, inverse_sub_shift_undone, add_twice}
use Rattle.aes_cts.proofs.Columns.{mix-is, inverse_mix-is, inverse_mix-mix, mix-inverse_mix}
use Rattle.aes_cts.proofs.Lists.{octets-take, octets-drop}

pub key_octets : (w : List ℕ) (r : ℕ) → AreOctets w → AreOctets (round_key w r)
key_octets w r h = octets-take 16 _ (octets-drop (16 * r) w h)

-- ---- each state of the rounds consists of bytes

rounds-is : (w s : List ℕ) (n : ℕ) → AreOctets w → IsState s → IsState (rounds w s n)
unfolding rounds
rounds-is w s zero hw is = add-is s _ is (key_octets w 0 hw)
rounds-is w s (suc n) hw is =
    add-is _ _ (mix-is _ (shift-is _ (sub-is _ (rounds-is w s n hw is)))) (key_octets w (suc n) hw)

pub cipher-is : (nr : ℕ) (w s : List ℕ) → AreOctets w → IsState s → IsState (cipher nr w s)
unfolding cipher
cipher-is nr w s hw is = add-is _ _ (shift-is _ (sub-is _ (rounds-is w s (nr - 1) hw is))) (key_octets w nr hw)

pub inverse_rounds-is : (nr : ℕ) (w s : List ℕ) (n : ℕ) → AreOctets w → IsState s → IsState (inverse_rounds nr w s n)
unfolding inverse_rounds
inverse_rounds-is nr w s zero hw is = add-is s _ is (key_octets w nr hw)
inverse_rounds-is nr w s (suc n) hw is =
    inverse_mix-is _
    (add-is _ _ (inverse_sub-is _ (inverse_shift-is _ (inverse_rounds-is nr w s n hw is)))
    (key_octets w (nr - suc n) hw))

pub inverse_cipher-is : (nr : ℕ) (w s : List ℕ) → AreOctets w → IsState s → IsState (inverse_cipher nr w s)
unfolding inverse_cipher
inverse_cipher-is nr w s hw is =
    add-is _ _ (inverse_sub-is _ (inverse_shift-is _ (inverse_rounds-is nr w s (nr - 1) hw is))) (key_octets w 0 hw)

-- ---- the inverse cipher goes back through the states of the cipher

-- from the middle of round m to the middle of the round before
backwards : (w s : List ℕ) (m : ℕ) → AreOctets w → IsState s
    → inverse_mix_columns (add_round_key
    (inverse_sub_bytes (inverse_shift_rows (shift_rows (sub_bytes (rounds w s (suc m)))))) (round_key w (suc m)))
    ≡ shift_rows (sub_bytes (rounds w s m))
unfolding rounds
backwards w s m hw is =
    let middle : IsState (shift_rows (sub_bytes (rounds w s m))) = shift-is _ (sub-is _ (rounds-is w s m hw is)) in
    ap (λ (t : List ℕ). inverse_mix_columns (add_round_key t (round_key w (suc m))))
    (sub_shift_undone (rounds w s (suc m)) (rounds-is w s (suc m) hw is))
    ∙ ap inverse_mix_columns (add_twice (mix_columns (shift_rows (sub_bytes (rounds w s m)))) (round_key w (suc m))
    (mix-is _ middle).size)
    ∙ inverse_mix-mix _ middle

unwound : (nr : ℕ) (w s : List ℕ) → AreOctets w → IsState s → (n m : ℕ) → n + m + 1 ≡ nr
    → inverse_rounds nr w (cipher nr w s) n ≡ shift_rows (sub_bytes (rounds w s m))
unfolding inverse_rounds cipher
unwound nr w s hw is zero m h =
    let before : nr - 1 ≡ m = omega arith in
    add_twice (shift_rows (sub_bytes (rounds w s (nr - 1)))) (round_key w nr)
    (shift-is _ (sub-is _ (rounds-is w s (nr - 1) hw is))).size
    ∙ ap (λ (k : ℕ). shift_rows (sub_bytes (rounds w s k))) before
unwound nr w s hw is (suc n) m h =
    let back : nr - suc n ≡ suc m = omega arith in
    ap (λ (t : List ℕ). inverse_mix_columns
    (add_round_key (inverse_sub_bytes (inverse_shift_rows t)) (round_key w (nr - suc n))))
    (unwound nr w s hw is n (suc m) (omega arith))
    ∙ ap (λ (k : ℕ). inverse_mix_columns
    (add_round_key (inverse_sub_bytes (inverse_shift_rows (shift_rows (sub_bytes (rounds w s (suc m))))))
    (round_key w k))) back
    ∙ backwards w s m hw is

pub inverse_cipher-cipher : (nr : ℕ) (w s : List ℕ) → 1 ≤ nr → AreOctets w → IsState s
    → inverse_cipher nr w (cipher nr w s) ≡ s
unfolding inverse_cipher rounds
inverse_cipher-cipher nr w s some hw is =
    ap (λ (t : List ℕ). add_round_key (inverse_sub_bytes (inverse_shift_rows t)) (round_key w 0))
    (unwound nr w s hw is (nr - 1) 0 (omega arith))
    ∙ ap (λ (t : List ℕ). add_round_key t (round_key w 0)) (sub_shift_undone (rounds w s 0) (rounds-is w s 0 hw is))
    ∙ add_twice s (round_key w 0) is.size

-- ---- and the cipher through those of the inverse cipher

forwards : (nr : ℕ) (w s : List ℕ) (m n : ℕ) → nr - suc m ≡ n → AreOctets w → IsState s
    → add_round_key (mix_columns (shift_rows
    (sub_bytes (inverse_sub_bytes (inverse_shift_rows (inverse_rounds nr w s (suc m))))))) (round_key w n)
    ≡ inverse_sub_bytes (inverse_shift_rows (inverse_rounds nr w s m))
unfolding inverse_rounds
forwards nr w s m n h hw is =
    let start : List ℕ = inverse_sub_bytes (inverse_shift_rows (inverse_rounds nr w s m)) in
    let starts : IsState start = inverse_sub-is _ (inverse_shift-is _ (inverse_rounds-is nr w s m hw is)) in
    let keyed : IsState (add_round_key start (round_key w (nr - suc m))) =
    add-is _ _ starts (key_octets w (nr - suc m) hw) in
    ap (λ (t : List ℕ). add_round_key (mix_columns t) (round_key w n))
    (inverse_sub_shift_undone (inverse_rounds nr w s (suc m)) (inverse_rounds-is nr w s (suc m) hw is))
    ∙ ap (λ (t : List ℕ). add_round_key t (round_key w n))
    (mix-inverse_mix (add_round_key start (round_key w (nr - suc m))) keyed)
    ∙ ap (λ (k : ℕ). add_round_key (add_round_key start (round_key w k)) (round_key w n)) h
    ∙ add_twice start (round_key w n) starts.size

wound : (nr : ℕ) (w s : List ℕ) → AreOctets w → IsState s → (n m : ℕ) → n + m + 1 ≡ nr
    → rounds w (inverse_cipher nr w s) n ≡ inverse_sub_bytes (inverse_shift_rows (inverse_rounds nr w s m))
unfolding rounds inverse_cipher
wound nr w s hw is zero m h =
    let before : nr - 1 ≡ m = omega arith in
    add_twice (inverse_sub_bytes (inverse_shift_rows (inverse_rounds nr w s (nr - 1)))) (round_key w 0)
    (inverse_sub-is _ (inverse_shift-is _ (inverse_rounds-is nr w s (nr - 1) hw is))).size
    ∙ ap (λ (k : ℕ). inverse_sub_bytes (inverse_shift_rows (inverse_rounds nr w s k))) before
wound nr w s hw is (suc n) m h =
    ap (λ (t : List ℕ). add_round_key (mix_columns (shift_rows (sub_bytes t))) (round_key w (suc n)))
    (wound nr w s hw is n (suc m) (omega arith))
    ∙ forwards nr w s m (suc n) (omega arith) hw is

pub cipher-inverse_cipher : (nr : ℕ) (w s : List ℕ) → 1 ≤ nr → AreOctets w → IsState s
    → cipher nr w (inverse_cipher nr w s) ≡ s
unfolding cipher inverse_rounds
cipher-inverse_cipher nr w s some hw is =
    ap (λ (t : List ℕ). add_round_key (shift_rows (sub_bytes t)) (round_key w nr))
    (wound nr w s hw is (nr - 1) 0 (omega arith))
    ∙ ap (λ (t : List ℕ). add_round_key t (round_key w nr))
    (inverse_sub_shift_undone (inverse_rounds nr w s 0) (inverse_rounds-is nr w s 0 hw is))
    ∙ add_twice s (round_key w nr) is.size
