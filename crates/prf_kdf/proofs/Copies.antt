-- The concatenated copies of n-fold, and the pieces into which they are cut.
use Rattle.std.proofs.Common.{◌≡◌, ℕ, zero, suc, ◌+◌, ◌-◌, ◌*◌, ◌/◌, ◌%◌, ◌^◌, ◌≤◌, ◌<◌, List, take, drop, length}
use Rattle.std.proofs.Common.{get_or, refl, ap, ◌∙◌, arith, ⊎_elim, length-append, length-take, length-drop}
use Rattle.std.proofs.lemmas.Bool.{cases_lt}
use Rattle.std.proofs.lemmas.List.{get_or_append_left, get_or-append_right, get_or-take, get_or-drop, get_or_past}
use Rattle.std.proofs.lemmas.List.FromFn.{fill_by_all, length-map-range_with_len, get_or-map-range_with_len}
use Rattle.std.proofs.lemmas.Nat.{div-mul-add, mod-mul-add, mod_below}
use Rattle.prf_kdf.specs.Fold.{number, octets_of, rotated_copy, rotated_copies, octet_of_copies, piece_of_copies}
use Rattle.prf_kdf.proofs.Numbers.{length-octets_of, number-lt}

pub length-rotated_copy : (bs : List ℕ) (i : ℕ) → length (rotated_copy bs i) ≡ length bs
length-rotated_copy bs i = length-octets_of (length bs) _

pub length-rotated_copies : (bs : List ℕ) (n : ℕ) → length (rotated_copies bs n) ≡ length bs * n
unfolding rotated_copies
length-rotated_copies bs zero = omega arith
length-rotated_copies bs (suc n) =
    omega (
      arith,
      length-append (rotated_copies bs n) (rotated_copy bs n),
      length-rotated_copies bs n,
      length-rotated_copy bs n,
    )

get_or-rotated_copies : (bs : List ℕ) (n at : ℕ) → at < length bs * n
    → get_or (rotated_copies bs n) at 0 ≡ octet_of_copies bs at
unfolding rotated_copies
get_or-rotated_copies bs zero at inside = absurd (omega arith)
get_or-rotated_copies bs (suc n) at inside = ⊎_elim
    (λ (before : at < length bs * n).
    let h : at < length (rotated_copies bs n) = omega (arith, length-rotated_copies bs n) in
    get_or_append_left (rotated_copies bs n) (rotated_copy bs n) 0 at h ∙ get_or-rotated_copies bs n at before)
    (λ (last : length bs * n ≤ at).
    let place : ℕ = at - length bs * n in
    let here : place < length bs = omega arith in
    let e : at ≡ n * length bs + place = omega arith in
    let copy_is : at / length bs ≡ n = ap (λ m. m / length bs) e ∙ div-mul-add n (length bs) place here in
    let place_is : at % length bs ≡ place = ap (λ m. m % length bs) e ∙ mod-mul-add n (length bs) place here in
    get_or-append_right (rotated_copies bs n) (rotated_copy bs n) (length bs * n) at 0 (length-rotated_copies bs n) last
    ∙ rw (copy_is, place_is) refl)
    (cases_lt at (length bs * n))

-- a piece cut out of the copies
pub piece_of_copies_is : (bs : List ℕ) (n start len : ℕ) → start + len ≤ length bs * n
    → take len (drop start (rotated_copies bs n)) ≡ piece_of_copies bs start len
unfolding piece_of_copies
piece_of_copies_is bs n start len inside =
    let cut : length (take len (drop start (rotated_copies bs n))) ≡ len =
    omega (
      arith,
      length-take len (drop start (rotated_copies bs n)),
      length-drop start (rotated_copies bs n),
      length-rotated_copies bs n,
    ) in
    fill_by_all (λ i. octet_of_copies bs (start + i)) (take len (drop start (rotated_copies bs n))) len 0 cut
    (λ k below. get_or-take len (drop start (rotated_copies bs n)) k 0 below ∙ get_or-drop start (rotated_copies bs n) k 0
    ∙ get_or-rotated_copies bs n (start + k) (omega arith))

pub length-piece_of_copies : (bs : List ℕ) (start len : ℕ) → length (piece_of_copies bs start len) ≡ len
unfolding piece_of_copies
length-piece_of_copies bs start len = length-map-range_with_len (λ i. octet_of_copies bs (start + i)) 0 len

pub get_or-piece_of_copies : (bs : List ℕ) (start len i : ℕ) → i < len
    → get_or (piece_of_copies bs start len) i 0 ≡ octet_of_copies bs (start + i)
unfolding piece_of_copies
get_or-piece_of_copies bs start len i inside =
    get_or-map-range_with_len (λ i. octet_of_copies bs (start + i)) 0 len i i 0 inside (omega arith)

octets_of-lt : (n x i : ℕ) → get_or (octets_of n x) i 0 < 256
unfolding octets_of
octets_of-lt zero x i = omega arith
octets_of-lt (suc n) x zero = mod_below (x / 2 ^ (8 * n)) 256 (omega arith)
octets_of-lt (suc n) x (suc i) = octets_of-lt n x i

piece_of_copies-lt : (bs : List ℕ) (start len i : ℕ) → get_or (piece_of_copies bs start len) i 0 < 256
piece_of_copies-lt bs start len i = ⊎_elim
    (λ (inside : i < len).
    rw (get_or-piece_of_copies bs start len i inside) (octets_of-lt (length bs) _ ((start + i) % length bs)))
    (λ (past : len ≤ i).
    let e : get_or (piece_of_copies bs start len) i 0 ≡ 0 =
    get_or_past (piece_of_copies bs start len) i 0 (omega (arith, length-piece_of_copies bs start len)) in
    omega arith)
    (cases_lt i len)

pub number-piece_of_copies-lt : (bs : List ℕ) (start len : ℕ) → number (piece_of_copies bs start len) < 2 ^ (8 * len)
number-piece_of_copies-lt bs start len =
    let below : number (piece_of_copies bs start len) < 2 ^ (8 * length (piece_of_copies bs start len)) =
    number-lt (piece_of_copies bs start len) (piece_of_copies-lt bs start len) in
    rw (length-piece_of_copies bs start len) at below
