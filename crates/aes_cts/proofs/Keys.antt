-- The schedule of a key of bytes consists of bytes, so the cipher with it permutes blocks.
use Rattle.std.proofs.Common.{◌≡◌, ℕ, zero, suc, ◌+◌, ◌-◌, ◌*◌, ◌/◌, ◌%◌, ◌≤◌, ◌<◌, ◌==◌, ◌&&◌, true, false, List, []}
use Rattle.std.proofs.Common.{◌∷◌, All, take, length, sym, ap, subst, ◌∙◌, arith, get_or, nat_lt, if◌then◌else◌}
use Rattle.std.proofs.lemmas.Nat.{xor_of_8}
use Rattle.std.proofs.lemmas.List.{length-take-le, take-take}
use Rattle.aes_cts.specs.Field.{power_of_x}
use Rattle.aes_cts.specs.KeyExpansion.{word_at, xor_words, rot_word, sub_word, round_constant, passed_on}
use Rattle.aes_cts.specs.KeyExpansion.{expanded, nk_of, nr_of, key_expansion, IsSchedule}
use Rattle.aes_cts.specs.Cipher.{cipher, aes, aes_inverse, IsBlock, PermutesBlocks}
use Rattle.aes_cts.proofs.FieldLaws.{times_x-lt}
use Rattle.aes_cts.proofs.Expansion.{take-key_expansion}
use Rattle.aes_cts.proofs.Tables.{s_box-lt}
use Rattle.aes_cts.proofs.States.{AreOctets, IsState}
use Rattle.aes_cts.proofs.Lists.{octets-append, octets-All, All-octets}
use Rattle.aes_cts.proofs.Inverses.{cipher-is, inverse_cipher-is, inverse_cipher-cipher, cipher-inverse_cipher}

pub power_of_x-lt : (n : ℕ) → power_of_x n < 256
unfolding power_of_x
power_of_x-lt zero = omega arith
power_of_x-lt (suc n) = times_x-lt (power_of_x n) (power_of_x-lt n)

octets-cons-at : (x : ℕ) (xs : List ℕ) → x < 256 → AreOctets xs → (i : ℕ) → get_or (x ∷ xs) i 0 < 256
octets-cons-at x xs hx h zero = hx
octets-cons-at x xs hx h (suc i) = h.at i

octets-cons : (x : ℕ) (xs : List ℕ) → x < 256 → AreOctets xs → AreOctets (x ∷ xs)
octets-cons x xs hx h = record { at = octets-cons-at x xs hx h }

pub octets-none : AreOctets []
octets-none = record { at = λ i. omega arith }

octets-four : (a b c d : ℕ) → a < 256 → b < 256 → c < 256 → d < 256 → AreOctets (a ∷ b ∷ c ∷ d ∷ [])
octets-four a b c d ha hb hc hd =
    octets-cons a _ ha (octets-cons b _ hb (octets-cons c _ hc (octets-cons d _ hd octets-none)))

octets-word_at : (w : List ℕ) (i : ℕ) → AreOctets w → AreOctets (word_at w i)
octets-word_at w i h = octets-four _ _ _ _ (h.at (4 * i)) (h.at (4 * i + 1)) (h.at (4 * i + 2)) (h.at (4 * i + 3))

octets-xor_words : (xs ys : List ℕ) → AreOctets xs → AreOctets ys → AreOctets (xor_words xs ys)
octets-xor_words [] ys hx hy = octets-none
octets-xor_words (x ∷ xs) [] hx hy = octets-none
octets-xor_words (x ∷ xs) (y ∷ ys) hx hy =
    octets-cons _ _ (xor_of_8 x y (hx.at 0) (hy.at 0))
    (octets-xor_words xs ys (record { at = λ i. hx.at (suc i) }) (record { at = λ i. hy.at (suc i) }))

octets-passed_on : (nk i a b c d : ℕ) → a < 256 → b < 256 → c < 256 → d < 256
    → AreOctets (passed_on nk i (a ∷ b ∷ c ∷ d ∷ []))
octets-passed_on nk i a b c d ha hb hc hd =
    let word : List ℕ = a ∷ b ∷ c ∷ d ∷ [] in
    elim (i % nk == 0) as
    (λ v. AreOctets (if v then xor_words (sub_word (rot_word word)) (round_constant (i / nk))
    else if nat_lt 6 nk && i % nk == 4 then sub_word word else word)) [
      | true ↦ octets-xor_words _ _
          (octets-four _ _ _ _ (s_box-lt b hb) (s_box-lt c hc) (s_box-lt d hd) (s_box-lt a ha))
          (octets-four _ _ _ _ (power_of_x-lt (i / nk - 1)) (omega arith) (omega arith) (omega arith))
      | false ↦ elim (nat_lt 6 nk && i % nk == 4) as (λ v. AreOctets (if v then sub_word word else word)) [
        | true ↦ octets-four _ _ _ _ (s_box-lt a ha) (s_box-lt b hb) (s_box-lt c hc) (s_box-lt d hd)
        | false ↦ octets-four a b c d ha hb hc hd
      ]
    ]

octets-expanded : (nk : ℕ) (key : List ℕ) (n : ℕ) → AreOctets key → AreOctets (expanded nk key n)
unfolding expanded
octets-expanded nk key zero h = h
octets-expanded nk key (suc n) h =
    let old : AreOctets (expanded nk key n) = octets-expanded nk key n h in
    octets-append (expanded nk key n) _ old
    (octets-xor_words (word_at (expanded nk key n) n) _ (octets-word_at (expanded nk key n) n old)
    (octets-passed_on nk (nk + n) _ _ _ _ (old.at (4 * (nk + n - 1))) (old.at (4 * (nk + n - 1) + 1))
    (old.at (4 * (nk + n - 1) + 2)) (old.at (4 * (nk + n - 1) + 3))))

pub schedule_octets : (key : List ℕ) → AreOctets key → AreOctets (key_expansion key)
unfolding key_expansion
schedule_octets key h = octets-expanded (nk_of key) key _ h

pub state_of_block : (block : List ℕ) → IsBlock block → IsState block
state_of_block block h = record { size = h.size; octets = octets-All block h.octets }

pub block_of_state : (s : List ℕ) → IsState s → IsBlock s
block_of_state s h = record { size = h.size; octets = All-octets s h.octets }

pub permutes_blocks : (key : List ℕ) → All (λ b. b < 256) key → PermutesBlocks key
unfolding aes aes_inverse
permutes_blocks key octets =
    let w : List ℕ = key_expansion key in
    let hw : AreOctets w = schedule_octets key (octets-All key octets) in
    record {
      enciphered = λ block h. block_of_state _ (cipher-is (nr_of key) w block hw (state_of_block block h));
      deciphered = λ block h. block_of_state _ (inverse_cipher-is (nr_of key) w block hw (state_of_block block h));
      taken_back = λ block h. inverse_cipher-cipher (nr_of key) w block (omega arith) hw (state_of_block block h);
      given_back = λ block h. cipher-inverse_cipher (nr_of key) w block (omega arith) hw (state_of_block block h);
    }

-- ---- a key with its schedule

pub key_words : (w key : List ℕ) (nk : ℕ) → length w ≡ 240 → IsSchedule w nk → take (4 * nk) w ≡ key → nr_of key ≡ nk + 6
key_words w key nk len h is = omega (arith, length-take-le (4 * nk) w (omega (arith, h.most)), ap length is)

pub aes_is : (w key : List ℕ) (nk : ℕ) → length w ≡ 240 → IsSchedule w nk → take (4 * nk) w ≡ key
    → (block : List ℕ) → cipher (nk + 6) (take (16 * (nk + 6 + 1)) w) block ≡ aes key block
unfolding aes
aes_is w key nk len h is block =
    ap (λ (n : ℕ). cipher n (take (16 * (nk + 6 + 1)) w) block) (sym (key_words w key nk len h is))
    ∙ ap (λ (l : List ℕ). cipher (nr_of key) l block) (h.expands ∙ ap key_expansion is)

pub view_is : (w key : List ℕ) → 16 ≤ length key → length key % 4 ≡ 0
    → take (16 * (nr_of key + 1)) w ≡ key_expansion key → take (4 * (length key / 4)) w ≡ key
view_is w key least whole h =
    let size : 4 * (length key / 4) ≡ length key = omega arith in
    ap (λ (n : ℕ). take n w) size ∙ sym (take-take (length key) (16 * (nr_of key + 1)) w (omega arith))
    ∙ ap (take (length key)) h ∙ take-key_expansion key

pub is_schedule : (w key : List ℕ) → 16 ≤ length key → length key ≤ 32 → length key % 16 ≡ 0 → AreOctets key
    → take (16 * (nr_of key + 1)) w ≡ key_expansion key → IsSchedule w (length key / 4)
is_schedule w key least most whole octets h =
    let view : take (4 * (length key / 4)) w ≡ key = view_is w key least (omega arith) h in
    record {
      least = omega arith;
      most = omega arith;
      even = omega arith;
      octets = subst (λ (l : List ℕ). All (λ b. b < 256) l) (sym view) (All-octets key octets);
      expands = h ∙ ap key_expansion (sym view);
    }

pub key_permutes : (w key : List ℕ) (nk : ℕ) → IsSchedule w nk → take (4 * nk) w ≡ key → PermutesBlocks key
key_permutes w key nk h view = permutes_blocks key (subst (λ (l : List ℕ). All (λ b. b < 256) l) view h.octets)
