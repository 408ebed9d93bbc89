-- Words of four bytes, most significant first, and the columns of the matrices that the rounds on words look up.
use Rattle.std.specs.Prelude.{ℕ, zero, suc, ◌+◌, ◌-◌, ◌*◌, ◌%◌, List, [], ◌∷◌, map, bit_xor, slice_index}
use Rattle.std.specs.List.{range_with_len, flat_map}
use Rattle.std.specs.Int.{w32, to_be_bytes, rotate_right}
use Rattle.aes_cts.specs.Field.{times}
use Rattle.aes_cts.specs.State.{row_times}

-- the word of four bytes
unfoldable pub word : ℕ → ℕ → ℕ → ℕ → ℕ
word a b c d = ((a * 256 + b) * 256 + c) * 256 + d

-- the bytes of words, word by word
abbrev pub octets : List ℕ → List ℕ
octets words = flat_map (to_be_bytes w32) words

-- column c of the matrix whose row r is the given row rotated right by r places (4.3), each entry times a
abbrev pub column_times : List ℕ → ℕ → ℕ → List ℕ
column_times row c a = map (λ r. times a (slice_index row ((c + 4 - r) % 4))) (range_with_len 0 4)

-- column c of MIXCOLUMNS's matrix (5.1.3), and of INVMIXCOLUMNS's (5.3.3), times a
abbrev pub mix_column : ℕ → ℕ → List ℕ
mix_column c a = column_times (0x02 ∷ 0x03 ∷ 0x01 ∷ 0x01 ∷ []) c a

abbrev pub inverse_mix_column : ℕ → ℕ → List ℕ
inverse_mix_column c a = column_times (0x0e ∷ 0x0b ∷ 0x0d ∷ 0x09 ∷ []) c a

-- the word of the first column of the matrix whose first row is (p q r s), times a
unfoldable pub turned_column : ℕ → ℕ → ℕ → ℕ → ℕ → ℕ
turned_column p q r s a = word (times a p) (times a s) (times a r) (times a q)

-- a word rotated right by this many bytes
abbrev pub turned_by : ℕ → ℕ → ℕ
turned_by zero w = w
turned_by (suc k) w = rotate_right w32 w (8 * suc k)

-- the product of that matrix with the column (a b c d), added to the bytes of a key's word
abbrev pub mixed_cells : ℕ → ℕ → ℕ → ℕ → List ℕ → ℕ → ℕ → ℕ → ℕ → List ℕ
mixed_cells p q r s key a b c d =
    bit_xor (row_times p q r s a b c d) (slice_index key 0)
    ∷ bit_xor (row_times p q r s b c d a) (slice_index key 1)
    ∷ bit_xor (row_times p q r s c d a b) (slice_index key 2)
    ∷ bit_xor (row_times p q r s d a b c) (slice_index key 3) ∷ []

-- the column (a b c d), added to the bytes of a key's word
abbrev pub added_cells : List ℕ → ℕ → ℕ → ℕ → ℕ → List ℕ
added_cells key a b c d =
    bit_xor a (slice_index key 0) ∷ bit_xor b (slice_index key 1)
    ∷ bit_xor c (slice_index key 2) ∷ bit_xor d (slice_index key 3) ∷ []

-- the bytes of a word, as a column, added to those of a key's word
abbrev pub added_word : List ℕ → List ℕ → List ℕ
added_word key t = added_cells key (slice_index t 0) (slice_index t 1) (slice_index t 2) (slice_index t 3)

-- the bytes of a word, as a column, times the matrix of INVMIXCOLUMNS
abbrev pub unmixed_cells : List ℕ → List ℕ
unmixed_cells t =
    row_times 14 11 13 9 (slice_index t 0) (slice_index t 1) (slice_index t 2) (slice_index t 3)
    ∷ row_times 14 11 13 9 (slice_index t 1) (slice_index t 2) (slice_index t 3) (slice_index t 0)
    ∷ row_times 14 11 13 9 (slice_index t 2) (slice_index t 3) (slice_index t 0) (slice_index t 1)
    ∷ row_times 14 11 13 9 (slice_index t 3) (slice_index t 0) (slice_index t 1) (slice_index t 2) ∷ []
