-- The key expansion by words, compared with that by bytes.
use Rattle.std.proofs.Common.{◌≡◌, ℕ, zero, suc, ◌+◌, ◌*◌, ◌<◌, List, [], ◌∷◌, ◌++◌, take, length, set, get_or}
use Rattle.std.proofs.Common.{refl, sym, ap, ◌∙◌, arith}
use Rattle.std.specs.Int.{w32, to_be_bytes}
use Rattle.std.proofs.lemmas.List.{take_more_set, flat_map_more}
use Rattle.aes_cts.specs.KeyExpansion.{word_at}
use Rattle.aes_cts.specs.Words.{octets}
use Rattle.aes_cts.proofs.WordLaws.{octets-take}

-- word i of the bytes of words
pub word_at-octets : (w : List ℕ) (i : ℕ) → i < length w → word_at (octets w) i ≡ to_be_bytes w32 (get_or w i 0)
word_at-octets [] i inside = absurd (omega arith)
word_at-octets (x ∷ xs) zero inside = refl
word_at-octets (x ∷ xs) (suc i) inside =
    let first : 4 * suc i ≡ suc (suc (suc (suc (4 * i)))) = omega arith in
    let second : 4 * suc i + 1 ≡ suc (suc (suc (suc (4 * i + 1)))) = omega arith in
    let third : 4 * suc i + 2 ≡ suc (suc (suc (suc (4 * i + 2)))) = omega arith in
    let fourth : 4 * suc i + 3 ≡ suc (suc (suc (suc (4 * i + 3)))) = omega arith in
    rw (second, third, fourth, first) (word_at-octets xs i (omega arith))

-- one more word, written after those so far
pub octets-more : (w : List ℕ) (i x : ℕ) → i < length w
    → take (4 * (i + 1)) (octets (set w i x)) ≡ take (4 * i) (octets w) ++ to_be_bytes w32 x
octets-more w i x inside =
    octets-take (i + 1) (set w i x) ∙ ap octets (take_more_set w i x inside)
    ∙ sym (flat_map_more (to_be_bytes w32) [] (take i w) x)
    ∙ ap (λ (l : List ℕ). l ++ to_be_bytes w32 x) (sym (octets-take i w))
