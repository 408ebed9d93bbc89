-- The matrices of MixColumns and InvMixColumns undo each other.
use Rattle.std.proofs.Common.{◌≡◌, ℕ, ◌+◌, ◌*◌, ◌%◌, ◌<◌, ◌==◌, ◌&&◌, List, []}
use Rattle.std.proofs.Common.{◌∷◌, ◌++◌, Bool, true, refl, sym, ap, ◌∙◌, bit_xor, get_or}
use Rattle.std.proofs.lemmas.Bool.{eqb-true, and_parts}
use Rattle.std.proofs.lemmas.Nat.{xor_comm, xor_of_8}
use Rattle.std.specs.Int.Bits.{xor_zero_r}
use Rattle.aes_cts.specs.Field.{times_low, times}
use Rattle.aes_cts.specs.State.{row_times, entry, columns_times, mix_columns, inverse_mix_columns}
use Rattle.aes_cts.proofs.Octets.{passes_below, passes_at}
use Rattle.aes_cts.proofs.FieldLaws.{xor_swap, times-lt, times-sum}
use Rattle.aes_cts.proofs.States.{IsState, cells, is_state}

pub xor_turn : (x y z w : ℕ) → bit_xor (bit_xor x y) (bit_xor z w) ≡ bit_xor (bit_xor w x) (bit_xor y z)
xor_turn x y z w =
    xor_comm (bit_xor x y) (bit_xor z w) ∙ ap (λ (k : ℕ). bit_xor k (bit_xor x y)) (xor_comm z w)
    ∙ xor_swap w z x y ∙ ap (λ (k : ℕ). bit_xor (bit_xor w x) k) (xor_comm z y)

pub sum_4-xor : (a b c d p q r s : ℕ)
    → bit_xor (bit_xor (bit_xor a p) (bit_xor b q)) (bit_xor (bit_xor c r) (bit_xor d s))
    ≡ bit_xor (bit_xor (bit_xor a b) (bit_xor c d)) (bit_xor (bit_xor p q) (bit_xor r s))
sum_4-xor a b c d p q r s =
    ap (λ (k : ℕ). bit_xor k (bit_xor (bit_xor c r) (bit_xor d s))) (xor_swap a p b q)
    ∙ ap (λ (k : ℕ). bit_xor (bit_xor (bit_xor a b) (bit_xor p q)) k) (xor_swap c r d s)
    ∙ xor_swap (bit_xor a b) (bit_xor p q) (bit_xor c d) (bit_xor r s)

-- p q r s after t u v w gives each byte back
record Undoes (p q r s t u v w : ℕ) : Type 0 where
  pub here : (x : ℕ) → x < 256 → row_times p q r s (times x t) (times x w) (times x v) (times x u) ≡ x
  pub next : (x : ℕ) → x < 256 → row_times p q r s (times x u) (times x t) (times x w) (times x v) ≡ 0
  pub far : (x : ℕ) → x < 256 → row_times p q r s (times x v) (times x u) (times x t) (times x w) ≡ 0
  pub last : (x : ℕ) → x < 256 → row_times p q r s (times x w) (times x v) (times x u) (times x t) ≡ 0

row_undone : (p q r s t u v w : ℕ) → Undoes p q r s t u v w → (a b c d : ℕ) → a < 256 → b < 256 → c < 256 → d < 256
    → row_times p q r s (row_times t u v w a b c d) (row_times t u v w b c d a) (row_times t u v w c d a b)
    (row_times t u v w d a b c) ≡ a
row_undone p q r s t u v w h a b c d ha hb hc hd =
    let first =
    times-sum (times a t) (times b u) (times c v) (times d w) p (times-lt a t ha) (times-lt b u hb) (times-lt c v hc)
    (times-lt d w hd) in
    let turned_1 : row_times t u v w b c d a ≡ row_times w t u v a b c d =
    xor_turn (times b t) (times c u) (times d v) (times a w) in
    let turned_2 : row_times t u v w c d a b ≡ row_times v w t u a b c d =
    xor_turn (times c t) (times d u) (times a v) (times b w)
    ∙ xor_turn (times b w) (times c t) (times d u) (times a v) in
    let turned_3 : row_times t u v w d a b c ≡ row_times u v w t a b c d =
    sym (xor_turn (times a u) (times b v) (times c w) (times d t)) in
    let second =
    times-sum (times a w) (times b t) (times c u) (times d v) q (times-lt a w ha) (times-lt b t hb) (times-lt c u hc)
    (times-lt d v hd) in
    let third =
    times-sum (times a v) (times b w) (times c t) (times d u) r (times-lt a v ha) (times-lt b w hb) (times-lt c t hc)
    (times-lt d u hd) in
    let fourth =
    times-sum (times a u) (times b v) (times c w) (times d t) s (times-lt a u ha) (times-lt b v hb) (times-lt c w hc)
    (times-lt d t hd) in
    let ab : bit_xor (bit_xor (bit_xor (times (times a t) p) (times (times b u) p))
    (bit_xor (times (times a w) q) (times (times b t) q)))
    (bit_xor (bit_xor (times (times a v) r) (times (times b w) r))
    (bit_xor (times (times a u) s) (times (times b v) s))) ≡ a =
    sum_4-xor (times (times a t) p) (times (times a w) q) (times (times a v) r) (times (times a u) s)
    (times (times b u) p) (times (times b t) q) (times (times b w) r) (times (times b v) s)
    ∙ rw (h.here a ha, h.next b hb) (xor_zero_r a) in
    let cd : bit_xor (bit_xor (bit_xor (times (times c v) p) (times (times d w) p))
    (bit_xor (times (times c u) q) (times (times d v) q)))
    (bit_xor (bit_xor (times (times c t) r) (times (times d u) r))
    (bit_xor (times (times c w) s) (times (times d t) s))) ≡ 0 =
    sum_4-xor (times (times c v) p) (times (times c u) q) (times (times c t) r) (times (times c w) s)
    (times (times d w) p) (times (times d v) q) (times (times d u) r) (times (times d t) s)
    ∙ rw (h.far c hc, h.last d hd) refl in
    rw (turned_1, turned_2, turned_3, first, second, third, fourth)
    (sum_4-xor (bit_xor (times (times a t) p) (times (times b u) p))
    (bit_xor (times (times a w) q) (times (times b t) q)) (bit_xor (times (times a v) r) (times (times b w) r))
    (bit_xor (times (times a u) s) (times (times b v) s)) (bit_xor (times (times c v) p) (times (times d w) p))
    (bit_xor (times (times c u) q) (times (times d v) q)) (bit_xor (times (times c t) r) (times (times d u) r))
    (bit_xor (times (times c w) s) (times (times d t) s))
    ∙ rw (ab, cd) (xor_zero_r a))

abbrev undone : ℕ → ℕ → ℕ → ℕ → ℕ → ℕ → ℕ → ℕ → ℕ → Bool
undone p q r s t u v w a =
    row_times p q r s (times a t) (times a w) (times a v) (times a u) == a
    && (row_times p q r s (times a u) (times a t) (times a w) (times a v) == 0
    && (row_times p q r s (times a v) (times a u) (times a t) (times a w) == 0
    && row_times p q r s (times a w) (times a v) (times a u) (times a t) == 0))

undoes_from : (p q r s t u v w : ℕ) → passes_below (undone p q r s t u v w) 256 ≡ true → Undoes p q r s t u v w
undoes_from p q r s t u v w h =
    let at : (x : ℕ) → x < 256 → undone p q r s t u v w x ≡ true =
    λ x hx. passes_at (undone p q r s t u v w) 256 x h hx in
    let one = λ (x : ℕ) (hx : x < 256). and_parts _ _ (at x hx) in
    let two = λ (x : ℕ) (hx : x < 256). and_parts _ _ (one x hx).1 in
    let three = λ (x : ℕ) (hx : x < 256). and_parts _ _ (two x hx).1 in
    record {
      here = λ x hx. eqb-true _ _ (one x hx).0;
      next = λ x hx. eqb-true _ _ (two x hx).0;
      far = λ x hx. eqb-true _ _ (three x hx).0;
      last = λ x hx. eqb-true _ _ (three x hx).1;
    }

-- the matrices of the standard
undoes_mix : passes_below (undone 14 11 13 9 2 3 1 1) 256 ≡ true
unfolding passes_below times_low times
undoes_mix = refl

undoes_inverse_mix : passes_below (undone 2 3 1 1 14 11 13 9) 256 ≡ true
unfolding passes_below times_low times
undoes_inverse_mix = refl

join : (a b c d : List ℕ) → a ≡ c → b ≡ d → a ++ b ≡ c ++ d
join a b c d e f = cc

column : (p q r s t u v w : ℕ) → Undoes p q r s t u v w → (a b c d : ℕ) → a < 256 → b < 256 → c < 256 → d < 256
    → row_times p q r s (row_times t u v w a b c d) (row_times t u v w b c d a) (row_times t u v w c d a b)
    (row_times t u v w d a b c)
    ∷ row_times p q r s (row_times t u v w b c d a) (row_times t u v w c d a b) (row_times t u v w d a b c)
    (row_times t u v w a b c d)
    ∷ row_times p q r s (row_times t u v w c d a b) (row_times t u v w d a b c) (row_times t u v w a b c d)
    (row_times t u v w b c d a)
    ∷ row_times p q r s (row_times t u v w d a b c) (row_times t u v w a b c d) (row_times t u v w b c d a)
    (row_times t u v w c d a b) ∷ []
    ≡ a ∷ b ∷ c ∷ d ∷ []
column p q r s t u v w h a b c d ha hb hc hd =
    let e = row_undone p q r s t u v w h a b c d ha hb hc hd in
    let f = row_undone p q r s t u v w h b c d a hb hc hd ha in
    let g = row_undone p q r s t u v w h c d a b hc hd ha hb in
    let k = row_undone p q r s t u v w h d a b c hd ha hb hc in
    rw (e, f, g, k) refl

columns_undone : (p q r s t u v w : ℕ) → Undoes p q r s t u v w → (state : List ℕ) → IsState state
    → columns_times p q r s (columns_times t u v w state) ≡ state
columns_undone p q r s t u v w h state is =
    let at : ℕ → ℕ = λ (i : ℕ). get_or state i 0 in
    let b = is.octets.at in
    join _ _ _ _ (column p q r s t u v w h (at 0) (at 1) (at 2) (at 3) (b 0) (b 1) (b 2) (b 3))
    (join _ _ _ _ (column p q r s t u v w h (at 4) (at 5) (at 6) (at 7) (b 4) (b 5) (b 6) (b 7))
    (join _ _ _ _ (column p q r s t u v w h (at 8) (at 9) (at 10) (at 11) (b 8) (b 9) (b 10) (b 11))
    (column p q r s t u v w h (at 12) (at 13) (at 14) (at 15) (b 12) (b 13) (b 14) (b 15))))
    ∙ cells state is.size

pub inverse_mix-mix : (s : List ℕ) → IsState s → inverse_mix_columns (mix_columns s) ≡ s
unfolding mix_columns inverse_mix_columns
inverse_mix-mix = columns_undone 14 11 13 9 2 3 1 1 (undoes_from 14 11 13 9 2 3 1 1 undoes_mix)

pub mix-inverse_mix : (s : List ℕ) → IsState s → mix_columns (inverse_mix_columns s) ≡ s
unfolding mix_columns inverse_mix_columns
mix-inverse_mix = columns_undone 2 3 1 1 14 11 13 9 (undoes_from 2 3 1 1 14 11 13 9 undoes_inverse_mix)

row-lt : (p q r s a b c d : ℕ) → a < 256 → b < 256 → c < 256 → d < 256 → row_times p q r s a b c d < 256
row-lt p q r s a b c d ha hb hc hd =
    xor_of_8 _ _ (xor_of_8 _ _ (times-lt a p ha) (times-lt b q hb)) (xor_of_8 _ _ (times-lt c r hc) (times-lt d s hd))

columns-is : (p q r s : ℕ) (state : List ℕ) → IsState state → IsState (columns_times p q r s state)
columns-is p q r s state is =
    is_state (λ i c. row_times p q r s (entry state i c) (entry state ((i + 1) % 4) c) (entry state ((i + 2) % 4) c)
    (entry state ((i + 3) % 4) c))
    (λ i c. row-lt p q r s _ _ _ _ (is.octets.at (i + 4 * c)) (is.octets.at ((i + 1) % 4 + 4 * c))
    (is.octets.at ((i + 2) % 4 + 4 * c)) (is.octets.at ((i + 3) % 4 + 4 * c)))

pub mix-is : (s : List ℕ) → IsState s → IsState (mix_columns s)
unfolding mix_columns
mix-is = columns-is 2 3 1 1

pub inverse_mix-is : (s : List ℕ) → IsState s → IsState (inverse_mix_columns s)
unfolding inverse_mix_columns
inverse_mix-is = columns-is 14 11 13 9
