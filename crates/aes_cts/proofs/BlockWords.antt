-- The words of a block, read and written, and the sum of two blocks by words.
use Rattle.std.proofs.Common.{◌≡◌, ℕ, ◌+◌, ◌*◌, ◌^◌, ◌<◌, List, [], ◌∷◌, ◌++◌, take, drop, length, zero, suc, get_or}
use Rattle.std.proofs.Common.{refl, sym, ap, ◌∙◌, arith}
use Rattle.std.proofs.Math.Seq.{take-add}
use Rattle.std.proofs.lemmas.List.{drop-drop}
use Rattle.std.proofs.lemmas.Nat.{be_bytes_8}
use Rattle.std.specs.Int.{w32, w64, to_be_bytes}
use Rattle.aes_cts.specs.State.{add_round_key}
use Rattle.aes_cts.specs.Cts.{xor_blocks}
use Rattle.aes_cts.specs.Cipher.{IsBlock}
use Rattle.aes_cts.specs.Words.{octets}
use Rattle.aes_cts.proofs.States.{AreOctets}
use Rattle.aes_cts.proofs.Lists.{octets-append, All-octets}
use Rattle.aes_cts.proofs.Keys.{octets-none}
use Rattle.aes_cts.proofs.WordLaws.{columns_join, length-octets}

-- AddRoundKey adds the round key as a block
pub sum_is : (a b : List ℕ) → add_round_key a b ≡ xor_blocks a b
unfolding add_round_key xor_blocks
sum_is a b = refl

-- the words of the sixteen bytes from an index
pub words_at_is : (xs : List ℕ) (at a b c d : ℕ) → to_be_bytes w32 a ≡ take 4 (drop at xs)
    → to_be_bytes w32 b ≡ take 4 (drop (at + 4) xs) → to_be_bytes w32 c ≡ take 4 (drop (at + 8) xs)
    → to_be_bytes w32 d ≡ take 4 (drop (at + 12) xs)
    → octets (a ∷ b ∷ c ∷ d ∷ []) ≡ take 16 (drop at xs)
words_at_is xs at a b c d ha hb hc hd =
    let ys : List ℕ = drop at xs in
    let last : take 8 (drop 8 ys) ≡ take 4 (drop 8 ys) ++ take 4 (drop 12 ys) =
    take-add 4 4 (drop 8 ys) ∙ ap (λ (l : List ℕ). take 4 (drop 8 ys) ++ take 4 l) (drop-drop 4 8 ys) in
    let later : take 12 (drop 4 ys) ≡ take 4 (drop 4 ys) ++ (take 4 (drop 8 ys) ++ take 4 (drop 12 ys)) =
    take-add 4 8 (drop 4 ys)
    ∙ ap (λ (l : List ℕ). take 4 (drop 4 ys) ++ take 8 l) (drop-drop 4 4 ys)
    ∙ ap (λ (l : List ℕ). take 4 (drop 4 ys) ++ l) last in
    let whole : take 16 ys ≡ take 4 ys ++ (take 4 (drop 4 ys) ++ (take 4 (drop 8 ys) ++ take 4 (drop 12 ys))) =
    take-add 4 12 ys ∙ ap (λ (l : List ℕ). take 4 ys ++ l) later in
    columns_join _ _ _ _ _ _ _ _ ha (hb ∙ ap (take 4) (sym (drop-drop 4 at xs)))
    (hc ∙ ap (take 4) (sym (drop-drop 8 at xs))) (hd ∙ ap (take 4) (sym (drop-drop 12 at xs)))
    ∙ sym whole

word_octet : (x i : ℕ) → get_or (to_be_bytes w32 x) i 0 < 256
word_octet x zero = omega arith
word_octet x (suc zero) = omega arith
word_octet x (suc (suc zero)) = omega arith
word_octet x (suc (suc (suc zero))) = omega arith
word_octet x (suc (suc (suc (suc i)))) = omega arith

word_octets : (x : ℕ) → AreOctets (to_be_bytes w32 x)
word_octets x = record { at = word_octet x }

-- two words, as one number
pub two_words : (a b : ℕ) → a < 2 ^ 32 → b < 2 ^ 32
    → to_be_bytes w64 (a * 4294967296 + b) ≡ to_be_bytes w32 a ++ to_be_bytes w32 b
two_words a b ha hb =
    be_bytes_8 (to_be_bytes w32 a ++ to_be_bytes w32 b) (a * 4294967296 + b) refl
    (octets-append (to_be_bytes w32 a) (to_be_bytes w32 b) (word_octets a) (word_octets b)).at (omega arith)

are_octets : (w : List ℕ) → AreOctets (octets w)
are_octets [] = octets-none
are_octets (x ∷ xs) = octets-append (to_be_bytes w32 x) (octets xs) (word_octets x) (are_octets xs)

-- four words are a block
pub block_of_words : (w : List ℕ) → length w ≡ 4 → IsBlock (octets w)
block_of_words w size = record {
  size = omega (arith, length-octets w);
  octets = All-octets (octets w) (are_octets w);
}
