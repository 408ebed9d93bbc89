-- Words of four bytes: the tables compared with the field, and the product of a column with a matrix.
use Rattle.std.proofs.Common.{◌≡◌, ℕ, ◌+◌, ◌*◌, ◌/◌, ◌%◌, ◌^◌, ◌<◌, List, []}
use Rattle.std.proofs.Common.{◌∷◌, ◌++◌, ◌-◌, length, take, drop, zero, suc, map, refl}
use Rattle.std.proofs.Common.{sym, ap, ◌∙◌, arith, length-drop, get_or, bit_and, bit_xor, bit_or, nat_lt, if◌then◌else◌}
use Rattle.std.specs.List.{range_with_len}
use Rattle.std.specs.Int.{w32, rotate_right, to_be_bytes}
use Rattle.std.specs.Int.Bits.{xor_assoc, xor_zero_r}
use Rattle.std.proofs.Math.Seq.{take-nil, drop-nil}
use Rattle.std.proofs.lemmas.List.{take-append-drop, drop-drop}
use Rattle.std.proofs.lemmas.Nat.{and_mask, xor_block, or_comm, or_shifted, xor_of_8, xor_comm}
use Rattle.std.proofs.lemmas.List.FromFn.{get_or-map-range_with_len, fill_by_all}
use Rattle.aes_cts.specs.Field.{times_low, times, square, power_of_twos, inverse}
use Rattle.aes_cts.specs.SBox.{affine, inverse_affine, s_box, inverse_s_box}
use Rattle.aes_cts.specs.State.{row_times, sub_bytes, shift_rows, mix_columns}
use Rattle.aes_cts.specs.State.{add_round_key, inverse_sub_bytes, inverse_shift_rows, inverse_mix_columns}
use Rattle.aes_cts.specs.Words.{word, octets, turned_column, turned_by, mixed_cells}
use Rattle.aes_cts.specs.Words.{added_cells, mix_column, inverse_mix_column, unmixed_cells}
use Rattle.aes_cts.specs.declared.column_words.TheConstants.{COLUMNS, INVERSE_COLUMNS}
use Rattle.aes_cts.proofs.FieldLaws.{times-lt}
use Rattle.aes_cts.proofs.Tables.{inverse_s_box-s_box}
use Rattle.aes_cts.proofs.Columns.{xor_turn}
use Rattle.aes_cts.specs.KeyExpansion.{round_key}

-- ---- the tables

-- a word, twice
abbrev pub twice : ℕ → ℕ
twice w = w * 4294967296 + w

columns : map (λ j. twice (turned_column 2 3 1 1 (s_box j))) (range_with_len 0 256) ≡ COLUMNS
unfolding times_low times square power_of_twos inverse affine s_box word turned_column
columns = refl

inverse_columns : map (λ j. twice (turned_column 14 11 13 9 (inverse_s_box j))) (range_with_len 0 256) ≡ INVERSE_COLUMNS
unfolding times_low times square power_of_twos inverse inverse_affine inverse_s_box word turned_column
inverse_columns = refl

pub column_at : (j : ℕ) → j < 256 → get_or COLUMNS j 0 ≡ twice (turned_column 2 3 1 1 (s_box j))
column_at j h = ap (λ (l : List ℕ). get_or l j 0) (sym columns)
    ∙ get_or-map-range_with_len (λ j. twice (turned_column 2 3 1 1 (s_box j))) 0 256 j j 0 h (omega arith)

pub inverse_column_at : (j : ℕ) → j < 256 → get_or INVERSE_COLUMNS j 0 ≡ twice (turned_column 14 11 13 9 (inverse_s_box j))
inverse_column_at j h =
    ap (λ (l : List ℕ). get_or l j 0) (sym inverse_columns)
    ∙ get_or-map-range_with_len (λ j. twice (turned_column 14 11 13 9 (inverse_s_box j))) 0 256 j j 0 h (omega arith)

-- ---- words

word-xor : (a b c d e f g h : ℕ) → a < 256 → b < 256 → c < 256 → d < 256 → e < 256 → f < 256 → g < 256 → h < 256
    → bit_xor (word a b c d) (word e f g h) ≡ word (bit_xor a e) (bit_xor b f) (bit_xor c g) (bit_xor d h)
unfolding word
word-xor a b c d e f g h ha hb hc hd he hf hg hh =
    xor_block 8 ((a * 256 + b) * 256 + c) ((e * 256 + f) * 256 + g) d h hd hh
    ∙ ap (λ (n : ℕ). n * 256 + bit_xor d h) (xor_block 8 (a * 256 + b) (e * 256 + f) c g hc hg
    ∙ ap (λ (n : ℕ). n * 256 + bit_xor c g) (xor_block 8 a e b f hb hf))

-- the low part of a word above its high part
turned : (n high low k j : ℕ) → high < 2 ^ j → n / 2 ^ k ≡ high → n * 2 ^ j % 2 ^ 32 ≡ low * 2 ^ j
    → bit_or (n / 2 ^ k) (n * 2 ^ j % 2 ^ 32) ≡ low * 2 ^ j + high
turned n high low k j h e f = rw (e, f) (or_comm high (low * 2 ^ j) ∙ or_shifted low j high h)

-- a doubled word, shifted by whole bytes
twice_turned : (row w : ℕ) → row < 4 → w < 2 ^ 32 → twice w / 2 ^ (8 * row) % 2 ^ 32 ≡ turned_by row w
twice_turned zero w few below = omega arith
twice_turned (suc zero) w few below =
    let is : rotate_right w32 w 8 ≡ w % 256 * 2 ^ 24 + w / 256 =
    turned w (w / 256) (w % 256) 8 24 (omega arith) (omega arith) (omega arith) in
    omega (arith, is)
twice_turned (suc (suc zero)) w few below =
    let is : rotate_right w32 w 16 ≡ w % 65536 * 2 ^ 16 + w / 65536 =
    turned w (w / 65536) (w % 65536) 16 16 (omega arith) (omega arith) (omega arith) in
    omega (arith, is)
twice_turned (suc (suc (suc zero))) w few below =
    let is : rotate_right w32 w 24 ≡ w % 16777216 * 2 ^ 8 + w / 16777216 =
    turned w (w / 16777216) (w % 16777216) 24 8 (omega arith) (omega arith) (omega arith) in
    omega (arith, is)
twice_turned (suc (suc (suc (suc row)))) w few below = absurd (omega arith)

turned_column-lt : (p q r u a : ℕ) → a < 256 → turned_column p q r u a < 2 ^ 32
unfolding turned_column word
turned_column-lt p q r u a h = omega (arith, times-lt a p h, times-lt a u h, times-lt a r h, times-lt a q h)

-- a word of a table, shifted
pub shifted_is : (p q r u a row n : ℕ) → row < 4 → a < 256 → n ≡ twice (turned_column p q r u a)
    → bit_and (n / 2 ^ (8 * row)) 4294967295 ≡ turned_by row (turned_column p q r u a)
shifted_is p q r u a row n few small is =
    and_mask (n / 2 ^ (8 * row)) 32 ∙ ap (λ (m : ℕ). m / 2 ^ (8 * row) % 2 ^ 32) is
    ∙ twice_turned row (turned_column p q r u a) few (turned_column-lt p q r u a small)

pub word-turned : (a b c d : ℕ) → a < 256 → b < 256 → c < 256 → d < 256
    → rotate_right w32 (word a b c d) 8 ≡ word d a b c
unfolding word
word-turned a b c d ha hb hc hd =
    turned (((a * 256 + b) * 256 + c) * 256 + d) ((a * 256 + b) * 256 + c) d 8 24 (omega arith) (omega arith)
    (omega arith)
    ∙ omega arith

pub word-turned_2 : (a b c d : ℕ) → a < 256 → b < 256 → c < 256 → d < 256
    → rotate_right w32 (word a b c d) 16 ≡ word c d a b
unfolding word
word-turned_2 a b c d ha hb hc hd =
    turned (((a * 256 + b) * 256 + c) * 256 + d) (a * 256 + b) (c * 256 + d) 16 16 (omega arith) (omega arith)
    (omega arith)
    ∙ omega arith

pub word-turned_3 : (a b c d : ℕ) → a < 256 → b < 256 → c < 256 → d < 256
    → rotate_right w32 (word a b c d) 24 ≡ word b c d a
unfolding word
word-turned_3 a b c d ha hb hc hd =
    turned (((a * 256 + b) * 256 + c) * 256 + d) a ((b * 256 + c) * 256 + d) 24 8 (omega arith) (omega arith)
    (omega arith)
    ∙ omega arith

four : (a b c d e f g h : ℕ) → a ≡ e → b ≡ f → c ≡ g → d ≡ h → (a ∷ b ∷ c ∷ d ∷ []) ≡ (e ∷ f ∷ g ∷ h ∷ [])
four a b c d e f g h i j k l = cc

pub octets-word : (a b c d : ℕ) → a < 256 → b < 256 → c < 256 → d < 256
    → to_be_bytes w32 (word a b c d) ≡ a ∷ b ∷ c ∷ d ∷ []
unfolding word
octets-word a b c d ha hb hc hd = four _ _ _ _ a b c d (omega arith) (omega arith) (omega arith) (omega arith)

pub word_is : (a b c d : ℕ) → ((a * 256 + b) * 256 + c) * 256 + d ≡ word a b c d
unfolding word
word_is a b c d = refl

pub word-octets : (n : ℕ) → n < 2 ^ 32
    → n ≡ word (get_or (to_be_bytes w32 n) 0 0) (get_or (to_be_bytes w32 n) 1 0) (get_or (to_be_bytes w32 n) 2 0)
    (get_or (to_be_bytes w32 n) 3 0)
unfolding word
word-octets n h = omega arith

-- the sum of a word of bytes and another word
pub octets-xor : (a b c d n : ℕ) → a < 256 → b < 256 → c < 256 → d < 256 → n < 2 ^ 32
    → let key = to_be_bytes w32 n in
    to_be_bytes w32 (bit_xor (word a b c d) n) ≡ bit_xor a (get_or key 0 0) ∷ bit_xor b (get_or key 1 0) ∷ bit_xor c
    (get_or key 2 0) ∷ bit_xor d (get_or key 3 0) ∷ []
octets-xor a b c d n ha hb hc hd hn =
    let key : List ℕ = to_be_bytes w32 n in
    let k0 : get_or key 0 0 < 256 = omega arith in
    let k1 : get_or key 1 0 < 256 = omega arith in
    let k2 : get_or key 2 0 < 256 = omega arith in
    let k3 : get_or key 3 0 < 256 = omega arith in
    ap (λ (m : ℕ). to_be_bytes w32 (bit_xor (word a b c d) m)) (word-octets n hn)
    ∙ ap (to_be_bytes w32) (word-xor a b c d (get_or key 0 0) (get_or key 1 0) (get_or key 2 0) (get_or key 3 0)
    ha hb hc hd k0 k1 k2 k3)
    ∙ octets-word _ _ _ _ (xor_of_8 _ _ ha k0) (xor_of_8 _ _ hb k1) (xor_of_8 _ _ hc k2) (xor_of_8 _ _ hd k3)

-- ---- a column times the matrix

pub columns_sum : (p q r u a b c d : ℕ) → a < 256 → b < 256 → c < 256 → d < 256
    → bit_xor (bit_xor (turned_column p q r u a) (rotate_right w32 (turned_column p q r u b) 8))
    (bit_xor (rotate_right w32 (turned_column p q r u c) 16) (rotate_right w32 (turned_column p q r u d) 24))
    ≡ word (row_times p q r u a b c d) (row_times p q r u b c d a) (row_times p q r u c d a b)
    (row_times p q r u d a b c)
unfolding turned_column
columns_sum p q r u a b c d ha hb hc hd =
    let t = λ (x k : ℕ) (h : x < 256). times-lt x k h in
    rw (
      word-turned (times b p) (times b u) (times b r) (times b q) (t b p hb) (t b u hb) (t b r hb) (t b q hb),
      word-turned_2 (times c p) (times c u) (times c r) (times c q) (t c p hc) (t c u hc) (t c r hc) (t c q hc),
      word-turned_3 (times d p) (times d u) (times d r) (times d q) (t d p hd) (t d u hd) (t d r hd) (t d q hd),
      word-xor (times a p) (times a u) (times a r) (times a q) (times b q) (times b p) (times b u) (times b r)
          (t a p ha) (t a u ha) (t a r ha) (t a q ha) (t b q hb) (t b p hb) (t b u hb) (t b r hb),
      word-xor (times c r) (times c q) (times c p) (times c u) (times d u) (times d r) (times d q) (times d p)
          (t c r hc) (t c q hc) (t c p hc) (t c u hc) (t d u hd) (t d r hd) (t d q hd) (t d p hd),
      word-xor (bit_xor (times a p) (times b q)) (bit_xor (times a u) (times b p)) (bit_xor (times a r) (times b u))
          (bit_xor (times a q) (times b r))
          (bit_xor (times c r) (times d u)) (bit_xor (times c q) (times d r)) (bit_xor (times c p) (times d q))
          (bit_xor (times c u) (times d p))
          (xor_of_8 _ _ (t a p ha) (t b q hb)) (xor_of_8 _ _ (t a u ha) (t b p hb)) (xor_of_8 _ _ (t a r ha) (t b u hb))
          (xor_of_8 _ _ (t a q ha) (t b r hb))
          (xor_of_8 _ _ (t c r hc) (t d u hd)) (xor_of_8 _ _ (t c q hc) (t d r hd)) (xor_of_8 _ _ (t c p hc) (t d q hd))
          (xor_of_8 _ _ (t c u hc) (t d p hd)),
    )
    (rw (
      xor_turn (times b p) (times c q) (times d r) (times a u),
      xor_comm (bit_xor (times a r) (times b u))
          (bit_xor (times c p) (times d q)),
      xor_turn (times a q) (times b r) (times c u) (times d p),
    ) refl)

row-lt : (p q r u a b c d : ℕ) → a < 256 → b < 256 → c < 256 → d < 256 → row_times p q r u a b c d < 256
row-lt p q r u a b c d ha hb hc hd =
    xor_of_8 _ _ (xor_of_8 _ _ (times-lt a p ha) (times-lt b q hb)) (xor_of_8 _ _ (times-lt c r hc) (times-lt d u hd))

-- ((x + n) + y) + z = ((x + y) + z) + n
xor_late : (x n y z : ℕ) → bit_xor (bit_xor (bit_xor x n) y) z ≡ bit_xor (bit_xor (bit_xor x y) z) n
xor_late x n y z =
    ap (λ (k : ℕ). bit_xor k z) (xor_assoc x n y ∙ ap (bit_xor x) (xor_comm n y) ∙ sym (xor_assoc x y n))
    ∙ xor_assoc (bit_xor x y) n z ∙ ap (bit_xor (bit_xor x y)) (xor_comm n z) ∙ sym (xor_assoc (bit_xor x y) z n)

pub column_is : (p q r u n a b c d : ℕ) → n < 2 ^ 32 → a < 256 → b < 256 → c < 256 → d < 256
    → to_be_bytes w32 (bit_xor (bit_xor (bit_xor (turned_column p q r u a) n)
    (rotate_right w32 (turned_column p q r u b) 8))
    (bit_xor (rotate_right w32 (turned_column p q r u c) 16) (rotate_right w32 (turned_column p q r u d) 24)))
    ≡ mixed_cells p q r u (to_be_bytes w32 n) a b c d
column_is p q r u n a b c d hn ha hb hc hd =
    ap (to_be_bytes w32)
    (xor_late (turned_column p q r u a) n _ _ ∙ ap (λ (m : ℕ). bit_xor m n) (columns_sum p q r u a b c d ha hb hc hd))
    ∙ octets-xor _ _ _ _ n (row-lt p q r u a b c d ha hb hc hd) (row-lt p q r u b c d a hb hc hd ha)
    (row-lt p q r u c d a b hc hd ha hb) (row-lt p q r u d a b c hd ha hb hc) hn

-- ---- table_word

abbrev pub table_cells : ℕ → ℕ → ℕ → List ℕ
table_cells i a b = if nat_lt i 4 then mix_column i a else inverse_mix_column (i - 4) b

pub turned_none : (p q r u a : ℕ) → a < 256
    → to_be_bytes w32 (turned_column p q r u a) ≡ times a p ∷ times a u ∷ times a r ∷ times a q ∷ []
unfolding turned_column
turned_none p q r u a h = octets-word _ _ _ _ (times-lt a p h) (times-lt a u h) (times-lt a r h) (times-lt a q h)

pub turned_one : (p q r u a : ℕ) → a < 256
    → to_be_bytes w32 (rotate_right w32 (turned_column p q r u a) 8) ≡ times a q ∷ times a p ∷ times a u ∷ times a r
    ∷ []
unfolding turned_column
turned_one p q r u a h =
    ap (to_be_bytes w32) (word-turned _ _ _ _ (times-lt a p h) (times-lt a u h) (times-lt a r h) (times-lt a q h))
    ∙ octets-word _ _ _ _ (times-lt a q h) (times-lt a p h) (times-lt a u h) (times-lt a r h)

pub turned_two : (p q r u a : ℕ) → a < 256
    → to_be_bytes w32 (rotate_right w32 (turned_column p q r u a) 16) ≡ times a r ∷ times a q ∷ times a p ∷ times a u
    ∷ []
unfolding turned_column
turned_two p q r u a h =
    ap (to_be_bytes w32) (word-turned_2 _ _ _ _ (times-lt a p h) (times-lt a u h) (times-lt a r h) (times-lt a q h))
    ∙ octets-word _ _ _ _ (times-lt a r h) (times-lt a q h) (times-lt a p h) (times-lt a u h)

pub turned_three : (p q r u a : ℕ) → a < 256
    → to_be_bytes w32 (rotate_right w32 (turned_column p q r u a) 24) ≡ times a u ∷ times a r ∷ times a q ∷ times a p
    ∷ []
unfolding turned_column
turned_three p q r u a h =
    ap (to_be_bytes w32) (word-turned_3 _ _ _ _ (times-lt a p h) (times-lt a u h) (times-lt a r h) (times-lt a q h))
    ∙ octets-word _ _ _ _ (times-lt a u h) (times-lt a r h) (times-lt a q h) (times-lt a p h)

-- ---- rounds

-- byte i of word w
abbrev pub at : List ℕ → ℕ → ℕ → ℕ
at s w i = get_or (to_be_bytes w32 (get_or s w 0)) i 0

-- column i of a round, from the bytes that its rows bring there
abbrev pub round_column : ℕ → ℕ → ℕ → ℕ → (ℕ → ℕ) → ℕ → List ℕ → List ℕ → ℕ → List ℕ
round_column p q r u f step s k i =
    mixed_cells p q r u (to_be_bytes w32 (get_or k i 0)) (f (at s i 0)) (f (at s ((i + step) % 4) 1))
    (f (at s ((i + 2) % 4) 2)) (f (at s ((i + 4 - step) % 4) 3))

-- the same without the matrix
abbrev pub last_column : (ℕ → ℕ) → ℕ → List ℕ → List ℕ → ℕ → List ℕ
last_column f step s k i =
    added_cells (to_be_bytes w32 (get_or k i 0)) (f (at s i 0)) (f (at s ((i + step) % 4) 1)) (f (at s ((i + 2) % 4) 2))
    (f (at s ((i + 4 - step) % 4) 3))

pub four_cells : (s : List ℕ) → length s ≡ 4 → s ≡ get_or s 0 0 ∷ get_or s 1 0 ∷ get_or s 2 0 ∷ get_or s 3 0 ∷ []
four_cells s h = fill_by_all (λ (k : ℕ). get_or s k 0) s 4 0 h (λ k lt. refl)

-- what a function returns for two lists of four words, by their cells
on_cells : (g : List ℕ → List ℕ → List ℕ) (s k r : List ℕ) → length s ≡ 4 → length k ≡ 4
    → r ≡ g (get_or s 0 0 ∷ get_or s 1 0 ∷ get_or s 2 0 ∷ get_or s 3 0 ∷ [])
    (get_or k 0 0 ∷ get_or k 1 0 ∷ get_or k 2 0 ∷ get_or k 3 0 ∷ [])
    → r ≡ g s k
on_cells g s k r hs hk h =
    let key : List ℕ = get_or k 0 0 ∷ get_or k 1 0 ∷ get_or k 2 0 ∷ get_or k 3 0 ∷ [] in
    h ∙ ap (λ (l : List ℕ). g l key) (sym (four_cells s hs)) ∙ ap (g s) (sym (four_cells k hk))

join : (a b c d : List ℕ) → a ≡ c → b ≡ d → a ++ b ≡ c ++ d
join a b c d e f = cc

pub columns_join : (a b c d e f g h : List ℕ) → a ≡ e → b ≡ f → c ≡ g → d ≡ h
    → a ++ (b ++ (c ++ d)) ≡ e ++ (f ++ (g ++ h))
columns_join a b c d e f g h i j k l = join _ _ _ _ i (join _ _ _ _ j (join _ _ _ _ k l))

pub round_is : (s k : List ℕ) (a b c d : ℕ) → length s ≡ 4 → length k ≡ 4
    → to_be_bytes w32 a ≡ round_column 2 3 1 1 s_box 1 s k 0 → to_be_bytes w32 b ≡ round_column 2 3 1 1 s_box 1 s k 1
    → to_be_bytes w32 c ≡ round_column 2 3 1 1 s_box 1 s k 2 → to_be_bytes w32 d ≡ round_column 2 3 1 1 s_box 1 s k 3
    → octets (a ∷ b ∷ c ∷ d ∷ []) ≡ add_round_key (mix_columns (shift_rows (sub_bytes (octets s)))) (octets k)
unfolding sub_bytes shift_rows mix_columns add_round_key
round_is s k a b c d hs hk ea eb ec ed =
    on_cells (λ s k. add_round_key (mix_columns (shift_rows (sub_bytes (octets s)))) (octets k)) s k _ hs hk
    (columns_join _ _ _ _ _ _ _ _ ea eb ec ed)

pub last_round_is : (s k : List ℕ) (a b c d : ℕ) → length s ≡ 4 → length k ≡ 4
    → to_be_bytes w32 a ≡ last_column s_box 1 s k 0 → to_be_bytes w32 b ≡ last_column s_box 1 s k 1
    → to_be_bytes w32 c ≡ last_column s_box 1 s k 2 → to_be_bytes w32 d ≡ last_column s_box 1 s k 3
    → octets (a ∷ b ∷ c ∷ d ∷ []) ≡ add_round_key (shift_rows (sub_bytes (octets s))) (octets k)
unfolding sub_bytes shift_rows add_round_key
last_round_is s k a b c d hs hk ea eb ec ed =
    on_cells (λ s k. add_round_key (shift_rows (sub_bytes (octets s))) (octets k)) s k _ hs hk
    (columns_join _ _ _ _ _ _ _ _ ea eb ec ed)

pub inverse_round_is : (s k : List ℕ) (a b c d : ℕ) → length s ≡ 4 → length k ≡ 4
    → to_be_bytes w32 a ≡ round_column 14 11 13 9 inverse_s_box 3 s k 0 → to_be_bytes w32 b
    ≡ round_column 14 11 13 9 inverse_s_box 3 s k 1
    → to_be_bytes w32 c ≡ round_column 14 11 13 9 inverse_s_box 3 s k 2 → to_be_bytes w32 d
    ≡ round_column 14 11 13 9 inverse_s_box 3 s k 3
    → octets (a ∷ b ∷ c ∷ d ∷ []) ≡ add_round_key
    (inverse_mix_columns (inverse_sub_bytes (inverse_shift_rows (octets s)))) (octets k)
unfolding inverse_sub_bytes inverse_shift_rows inverse_mix_columns add_round_key
inverse_round_is s k a b c d hs hk ea eb ec ed =
    on_cells (λ s k. add_round_key (inverse_mix_columns (inverse_sub_bytes (inverse_shift_rows (octets s)))) (octets k))
    s k _ hs hk (columns_join _ _ _ _ _ _ _ _ ea eb ec ed)

pub last_inverse_round_is : (s k : List ℕ) (a b c d : ℕ) → length s ≡ 4 → length k ≡ 4
    → to_be_bytes w32 a ≡ last_column inverse_s_box 3 s k 0 → to_be_bytes w32 b ≡ last_column inverse_s_box 3 s k 1
    → to_be_bytes w32 c ≡ last_column inverse_s_box 3 s k 2 → to_be_bytes w32 d ≡ last_column inverse_s_box 3 s k 3
    → octets (a ∷ b ∷ c ∷ d ∷ []) ≡ add_round_key (inverse_sub_bytes (inverse_shift_rows (octets s))) (octets k)
unfolding inverse_sub_bytes inverse_shift_rows add_round_key
last_inverse_round_is s k a b c d hs hk ea eb ec ed =
    on_cells (λ s k. add_round_key (inverse_sub_bytes (inverse_shift_rows (octets s))) (octets k)) s k _ hs hk
    (columns_join _ _ _ _ _ _ _ _ ea eb ec ed)

-- ---- the sum of two words

pub added_words : (m n : ℕ) → m < 2 ^ 32 → n < 2 ^ 32
    → let x = to_be_bytes w32 m in
    to_be_bytes w32 (bit_xor m n) ≡ added_cells (to_be_bytes w32 n) (get_or x 0 0) (get_or x 1 0) (get_or x 2 0)
    (get_or x 3 0)
added_words m n hm hn =
    let x : List ℕ = to_be_bytes w32 m in
    ap (λ (k : ℕ). to_be_bytes w32 (bit_xor k n)) (word-octets m hm)
    ∙ octets-xor (get_or x 0 0) (get_or x 1 0) (get_or x 2 0) (get_or x 3 0) n (omega arith) (omega arith) (omega arith)
    (omega arith) hn

abbrev pub cells_of : List ℕ → List ℕ → ℕ → List ℕ
cells_of s k i = added_cells (to_be_bytes w32 (get_or k i 0)) (at s i 0) (at s i 1) (at s i 2) (at s i 3)

pub added_is : (s k : List ℕ) (a b c d : ℕ) → length s ≡ 4 → length k ≡ 4
    → to_be_bytes w32 a ≡ cells_of s k 0 → to_be_bytes w32 b ≡ cells_of s k 1 → to_be_bytes w32 c ≡ cells_of s k 2
    → to_be_bytes w32 d ≡ cells_of s k 3
    → octets (a ∷ b ∷ c ∷ d ∷ []) ≡ add_round_key (octets s) (octets k)
unfolding add_round_key
added_is s k a b c d hs hk ea eb ec ed =
    on_cells (λ s k. add_round_key (octets s) (octets k)) s k _ hs hk (columns_join _ _ _ _ _ _ _ _ ea eb ec ed)

-- ---- the bytes of parts of lists of words

pub octets-drop : (n : ℕ) (w : List ℕ) → drop (4 * n) (octets w) ≡ octets (drop n w)
octets-drop zero w = refl
octets-drop (suc n) [] = drop-nil (4 * suc n)
octets-drop (suc n) (x ∷ xs) =
    let e : 4 * suc n ≡ suc (suc (suc (suc (4 * n)))) = omega arith in
    rw e (octets-drop n xs)

pub octets-take : (n : ℕ) (w : List ℕ) → take (4 * n) (octets w) ≡ octets (take n w)
octets-take zero w = refl
octets-take (suc n) [] = take-nil (4 * suc n)
octets-take (suc n) (x ∷ xs) =
    let e : 4 * suc n ≡ suc (suc (suc (suc (4 * n)))) = omega arith in
    rw e (ap (λ (l : List ℕ). to_be_bytes w32 x ++ l) (octets-take n xs))

pub length-octets : (w : List ℕ) → length (octets w) ≡ 4 * length w
length-octets [] = refl
length-octets (x ∷ xs) = omega (arith, length-octets xs)

-- four words of a schedule are a round key
pub key_words_is : (w : List ℕ) (at end r : ℕ) → at ≡ 4 * r → end ≡ at + 4
    → octets (take (end - at) (drop at w)) ≡ round_key (octets w) r
key_words_is w at end r h e =
    let four : end - at ≡ 4 = omega arith in
    let place : 16 * r ≡ 4 * at = omega arith in
    ap (λ (n : ℕ). octets (take n (drop at w))) four ∙ sym (octets-take 4 (drop at w))
    ∙ ap (take 16) (sym (octets-drop at w))
    ∙ ap (λ (n : ℕ). take 16 (drop n (octets w))) (sym place)

-- ---- a word through InvMixColumns

pub unmixed_is : (t : List ℕ) → (get_or t 0 0 < 256) → (get_or t 1 0 < 256) → (get_or t 2 0 < 256)
    → (get_or t 3 0 < 256)
    → mixed_cells 14 11 13 9 (to_be_bytes w32 0) (inverse_s_box (s_box (get_or t 0 0)))
    (inverse_s_box (s_box (get_or t 1 0))) (inverse_s_box (s_box (get_or t 2 0))) (inverse_s_box (s_box (get_or t 3 0)))
    ≡ unmixed_cells t
unmixed_is t h0 h1 h2 h3 =
    rw (
      inverse_s_box-s_box (get_or t 0 0) h0,
      inverse_s_box-s_box (get_or t 1 0) h1,
      inverse_s_box-s_box (get_or t 2 0)
          h2,
      inverse_s_box-s_box (get_or t 3 0) h3,
    )
    (four _ _ _ _ _ _ _ _ (xor_zero_r _) (xor_zero_r _) (xor_zero_r _) (xor_zero_r _))

-- ---- a list of bytes, cut into words

none_left : (w : List ℕ) → length w ≡ 0 → w ≡ []
none_left [] h = refl
none_left (x ∷ xs) h = absurd (omega arith)

pub octets_is : (words w : List ℕ) → length w ≡ 4 * length words
    → ((k : ℕ) → k < length words → to_be_bytes w32 (get_or words k 0) ≡ take 4 (drop (4 * k) w)) → octets words ≡ w
octets_is [] w h each = sym (none_left w h)
octets_is (x ∷ xs) w h each =
    let rest : octets xs ≡ drop 4 w = octets_is xs (drop 4 w) (omega (arith, length-drop 4 w))
    (λ k lt.
    let place : 4 * suc k ≡ 4 + 4 * k = omega arith in
    each (suc k) (omega arith) ∙ ap (λ (n : ℕ). take 4 (drop n w)) place ∙ ap (take 4) (sym (drop-drop (4 * k) 4 w))) in
    join (to_be_bytes w32 x) (octets xs) (take 4 w) (drop 4 w) (each 0 (omega arith)) rest ∙ take-append-drop 4 w
