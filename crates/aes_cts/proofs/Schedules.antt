-- Schedules of words: the decryption schedule, and the ciphers with the schedules of a key.
use Rattle.std.proofs.Common.{◌≡◌, ℕ, ◌+◌, ◌-◌, ◌*◌, ◌≤◌, ◌<◌, List, [], ◌∷◌, take}
use Rattle.std.proofs.Common.{drop, length, refl, sym, ap, subst, ◌∙◌, arith, get_or, length-take, length-drop}
use Rattle.std.specs.Int.{w32, to_be_bytes}
use Rattle.std.proofs.lemmas.List.{get_or-take, get_or-drop, drop-take, take-take}
use Rattle.aes_cts.specs.State.{inverse_mix_columns}
use Rattle.aes_cts.specs.KeyExpansion.{round_key, key_expansion, nr_of, IsSchedule}
use Rattle.aes_cts.specs.Cipher.{cipher, aes, aes_inverse, IsBlock, IsInverseSchedule, equivalent_inverse_cipher}
use Rattle.aes_cts.specs.Words.{octets, unmixed_cells}
use Rattle.aes_cts.proofs.States.{AreOctets}
use Rattle.aes_cts.proofs.Lists.{octets-All}
use Rattle.aes_cts.proofs.WordLaws.{octets-take, length-octets, key_words_is, four_cells, columns_join}
use Rattle.aes_cts.proofs.Equivalent.{equivalent_inverse_cipher-is}
use Rattle.aes_cts.proofs.Keys.{aes_is, key_words, schedule_octets, state_of_block}

four : (a b c d e f g h : ℕ) → a ≡ e → b ≡ f → c ≡ g → d ≡ h → (a ∷ b ∷ c ∷ d ∷ []) ≡ (e ∷ f ∷ g ∷ h ∷ [])
four a b c d e f g h i j k l = cc

word_is : (w : List ℕ) (at j : ℕ) → j < 4 → get_or (take 4 (drop at w)) j 0 ≡ get_or w (at + j) 0
word_is w at j h = get_or-take 4 (drop at w) j 0 h ∙ get_or-drop at w j 0

key_cells : (w : List ℕ) (r : ℕ) → 4 * r + 4 ≤ length w
    → round_key (octets w) r ≡ octets
    (get_or w (4 * r + 0) 0 ∷ get_or w (4 * r + 1) 0 ∷ get_or w (4 * r + 2) 0 ∷ get_or w (4 * r + 3) 0 ∷ [])
key_cells w r h =
    let q : List ℕ = take 4 (drop (4 * r) w) in
    let size : length q ≡ 4 = omega (arith, length-take 4 (drop (4 * r) w), length-drop (4 * r) w) in
    let cut : 4 * r + 4 - 4 * r ≡ 4 = omega arith in
    sym (ap (λ (n : ℕ). octets (take n (drop (4 * r) w))) (sym cut) ∙ key_words_is w (4 * r) (4 * r + 4) r refl refl)
    ∙ ap octets (four_cells q size ∙ four _ _ _ _ _ _ _ _ (word_is w (4 * r) 0 (omega arith))
    (word_is w (4 * r) 1 (omega arith)) (word_is w (4 * r) 2 (omega arith)) (word_is w (4 * r) 3 (omega arith)))

same_keys : (w v : List ℕ) (r : ℕ) → 4 * r + 4 ≤ length w → 4 * r + 4 ≤ length v
    → ((j : ℕ) → j < 4 → get_or v (4 * r + j) 0 ≡ get_or w (4 * r + j) 0)
    → round_key (octets v) r ≡ round_key (octets w) r
same_keys w v r hw hv h =
    key_cells v r hv
    ∙ ap octets (four _ _ _ _ _ _ _ _ (h 0 (omega arith)) (h 1 (omega arith)) (h 2 (omega arith)) (h 3 (omega arith)))
    ∙ sym (key_cells w r hw)

unmixed_columns : (a b c d e f g h : ℕ) → to_be_bytes w32 a ≡ unmixed_cells (to_be_bytes w32 e)
    → to_be_bytes w32 b ≡ unmixed_cells (to_be_bytes w32 f)
    → to_be_bytes w32 c ≡ unmixed_cells (to_be_bytes w32 g) → to_be_bytes w32 d ≡ unmixed_cells (to_be_bytes w32 h)
    → octets (a ∷ b ∷ c ∷ d ∷ []) ≡ inverse_mix_columns (octets (e ∷ f ∷ g ∷ h ∷ []))
unfolding inverse_mix_columns
unmixed_columns a b c d e f g h i j k l = columns_join _ _ _ _ _ _ _ _ i j k l

unmixed_keys : (w v : List ℕ) (r : ℕ) → 4 * r + 4 ≤ length w → 4 * r + 4 ≤ length v
    → ((j : ℕ) → j < 4 → to_be_bytes w32 (get_or v (4 * r + j) 0) ≡ unmixed_cells
    (to_be_bytes w32 (get_or w (4 * r + j) 0)))
    → round_key (octets v) r ≡ inverse_mix_columns (round_key (octets w) r)
unmixed_keys w v r hw hv h =
    let y : ℕ → ℕ = λ (j : ℕ). get_or v (4 * r + j) 0 in
    let x : ℕ → ℕ = λ (j : ℕ). get_or w (4 * r + j) 0 in
    key_cells v r hv
    ∙ unmixed_columns (y 0) (y 1) (y 2) (y 3) (x 0) (x 1) (x 2) (x 3) (h 0 (omega arith)) (h 1 (omega arith))
    (h 2 (omega arith)) (h 3 (omega arith))
    ∙ ap inverse_mix_columns (sym (key_cells w r hw))

pub inverse_schedule_is : (w v : List ℕ) (nr : ℕ) → length w ≡ 60 → length v ≡ 60 → 2 ≤ nr → nr < 15
    → ((k : ℕ) → k < 4 → get_or v k 0 ≡ get_or w k 0)
    → ((k : ℕ) → 4 ≤ k → k < 4 * nr → to_be_bytes w32 (get_or v k 0) ≡ unmixed_cells (to_be_bytes w32 (get_or w k 0)))
    → ((k : ℕ) → 4 * nr ≤ k → get_or v k 0 ≡ get_or w k 0)
    → IsInverseSchedule (octets w) (octets v) nr
inverse_schedule_is w v nr hw hv some few front done rest = record {
  first = same_keys w v 0 (omega arith) (omega arith) (λ j lt. front (4 * 0 + j) (omega arith));
  last = same_keys w v nr (omega arith) (omega arith) (λ j lt. rest (4 * nr + j) (omega arith));
  middle = λ r least most. unmixed_keys w v r (omega arith) (omega arith)
      (λ j lt. done (4 * r + j) (omega arith) (omega arith));
}

-- ---- only the round keys count

key-take : (w : List ℕ) (n r : ℕ) → r ≤ n → round_key (take (16 * (n + 1)) w) r ≡ round_key w r
key-take w n r h =
    let parts : 16 * (n + 1) ≡ 16 * r + (16 * (n + 1) - 16 * r) = omega arith in
    ap (λ (k : ℕ). take 16 (drop (16 * r) (take k w))) parts
    ∙ ap (take 16) (drop-take (16 * r) (16 * (n + 1) - 16 * r) w)
    ∙ take-take 16 (16 * (n + 1) - 16 * r) (drop (16 * r) w) (omega arith)

inverse_schedule-front : (w v : List ℕ) (nr : ℕ) → IsInverseSchedule w v nr
    → IsInverseSchedule (take (16 * (nr + 1)) w) v nr
inverse_schedule-front w v nr h = record {
  first = h.first ∙ sym (key-take w nr 0 (omega arith));
  last = h.last ∙ sym (key-take w nr nr (omega arith));
  middle = λ r least most. h.middle r least most ∙ ap inverse_mix_columns (sym (key-take w nr r (omega arith)));
}

inverse_schedule-back : (w v : List ℕ) (nr : ℕ) → IsInverseSchedule w v nr
    → IsInverseSchedule w (take (16 * (nr + 1)) v) nr
inverse_schedule-back w v nr h = record {
  first = key-take v nr 0 (omega arith) ∙ h.first;
  last = key-take v nr nr (omega arith) ∙ h.last;
  middle = λ r least most. key-take v nr r (omega arith) ∙ h.middle r least most;
}

-- ---- a key with its schedule

cut_words : (s : List ℕ) (n : ℕ) → octets (take (4 * n) s) ≡ take (16 * n) (octets s)
cut_words s n =
    let e : 4 * (4 * n) ≡ 16 * n = omega arith in
    sym (octets-take (4 * n) s) ∙ ap (λ (k : ℕ). take k (octets s)) e

pub encrypted_is : (s key : List ℕ) (nk : ℕ) → length s ≡ 60 → IsSchedule (octets s) nk → take (4 * nk) (octets s) ≡ key
    → (block : List ℕ) → cipher (nk + 6) (octets (take (4 * (nk + 6 + 1)) s)) block ≡ aes key block
encrypted_is s key nk size h is block =
    ap (λ (l : List ℕ). cipher (nk + 6) l block) (cut_words s (nk + 6 + 1))
    ∙ aes_is (octets s) key nk (omega (arith, length-octets s)) h is block

-- the decryption schedule, made from the schedule of the key
pub inverse_schedule_of : (s v key : List ℕ) (nk : ℕ) → length s ≡ 60 → IsSchedule (octets s) nk
    → take (4 * nk) (octets s) ≡ key → IsInverseSchedule (octets s) (octets v) (nk + 6)
    → IsInverseSchedule (key_expansion key) (octets v) (nr_of key)
inverse_schedule_of s v key nk size h is inverse =
    let rounds : nr_of key ≡ nk + 6 = key_words (octets s) key nk (omega (arith, length-octets s)) h is in
    let whole : take (16 * (nk + 6 + 1)) (octets s) ≡ key_expansion key = h.expands ∙ ap key_expansion is in
    subst (λ (n : ℕ). IsInverseSchedule (key_expansion key) (octets v) n) (sym rounds)
    (subst (λ (l : List ℕ). IsInverseSchedule l (octets v) (nk + 6)) whole
    (inverse_schedule-front (octets s) (octets v) (nk + 6) inverse))

pub decrypted_is : (s v key : List ℕ) (nk : ℕ) → length s ≡ 60 → IsSchedule (octets s) nk → take (4 * nk) (octets s) ≡ key
    → IsInverseSchedule (key_expansion key) (octets v) (nr_of key)
    → (block : List ℕ) → IsBlock block → equivalent_inverse_cipher (nk + 6) (octets (take (4 * (nk + 6 + 1)) v)) block
    ≡ aes_inverse key block
unfolding aes_inverse
decrypted_is s v key nk size h is inverse block hb =
    let rounds : nr_of key ≡ nk + 6 = key_words (octets s) key nk (omega (arith, length-octets s)) h is in
    let octets_of_key : AreOctets key = subst (λ (l : List ℕ). AreOctets l) is (octets-All _ h.octets) in
    ap (λ (n : ℕ). equivalent_inverse_cipher n (octets (take (4 * (n + 1)) v)) block) (sym rounds)
    ∙ ap (λ (l : List ℕ). equivalent_inverse_cipher (nr_of key) l block) (cut_words v (nr_of key + 1))
    ∙ equivalent_inverse_cipher-is (nr_of key) (key_expansion key) (take (16 * (nr_of key + 1)) (octets v)) block
    (omega arith) (inverse_schedule-back (key_expansion key) (octets v) (nr_of key) inverse)
    (schedule_octets key octets_of_key) (state_of_block block hb)
