-- Adding numbers byte by byte, with carry.
use Rattle.std.proofs.Common.{◌≡◌, ℕ, zero, suc, ◌+◌, ◌*◌, ◌^◌, ◌≤◌, ◌<◌, List}
use Rattle.std.proofs.Common.{take, drop, length, get_or, set, refl, ap, arith, add-one}
use Rattle.std.proofs.lemmas.List.{drop-set-lt, get_or-set_same, length-set}
use Rattle.prf_kdf.specs.Fold.{number, pieces_sum}
use Rattle.prf_kdf.proofs.Numbers.{number-drop, next_power}

digit : (P N A B c t p x d : ℕ) → c * P + N ≡ A + B → c + t + p ≡ 256 * d + x
    → d * (256 * P) + (x * P + N) ≡ (t * P + A) + (p * P + B)
digit P N A B c t p x d sum here = omega (arith, ap (λ (n : ℕ). n * P) here)

-- one more byte, from the end: byte p and carry c are added to byte i of the total, which leaves x and the carry d
pub sum_more : (total old : List ℕ) (i j k c p x d B : ℕ) → length total ≡ length old → j ≡ i + 1 → k + j ≡ length old
    → get_or total i 0 ≡ get_or old i 0
    → c * 2 ^ (8 * k) + number (drop j total) ≡ number (drop j old) + B
    → c + get_or total i 0 + p ≡ 256 * d + x
    → d * 2 ^ (8 * (k + 1)) + number (drop i (set total i x)) ≡ number (drop i old) + (p * 2 ^ (8 * k) + B)
sum_more total old i j k c p x d B len after at same sum here =
    let len_set : length (set total i x) ≡ length total = length-set total i x in
    let inside : i < length total = omega arith in
    let kept : drop (i + 1) (set total i x) ≡ drop (i + 1) total = drop-set-lt (i + 1) total i x (omega arith) in
    let new : get_or (set total i x) i 0 ≡ x = get_or-set_same total i x 0 inside in
    let before : c * 2 ^ (8 * k) + number (drop (i + 1) total) ≡ number (drop (i + 1) old) + B = rw after at sum in
    rw (number-drop (set total i x) i k (omega arith), number-drop old i k (omega arith), kept, new, next_power k, ← same)
    (digit (2 ^ (8 * k)) (number (drop (i + 1) total)) (number (drop (i + 1) old)) B c (get_or total i 0) p x d before here)

-- a sum that fits has no carry
pub no_carry : (c P N S : ℕ) → c * P + N ≡ S → S < P → N ≡ S
no_carry zero P N S sum fits = omega arith
no_carry (suc c) P N S sum fits = absurd (omega arith)

-- the carry out of a sum of two numbers fits when it is added again
pub carry_fits : (c P N A B : ℕ) → c ≤ 1 → c * P + N ≡ A + B → A < P → B < P → N < P → N + c < P
carry_fits zero P N A B bound sum a b n = omega arith
carry_fits (suc zero) P N A B bound sum a b n = omega arith
carry_fits (suc (suc c)) P N A B bound sum a b n = absurd (omega arith)

pub pieces_sum_none : (n : ℕ) (bs : List ℕ) → pieces_sum n bs 0 ≡ 0
unfolding pieces_sum
pieces_sum_none n bs = refl

pub pieces_sum_more : (n : ℕ) (bs : List ℕ) (k : ℕ)
    → pieces_sum n bs (k + 1) ≡ pieces_sum n bs k + number (take n (drop (n * k) bs))
unfolding pieces_sum
pieces_sum_more n bs k = rw add-one refl
