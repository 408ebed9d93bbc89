-- Reading a number gives the one that was written, and a number has only one encoding.
use Rattle.std.proofs.Common.{◌≡◌, ℕ, ℤ, pos, negsuc, zero, suc, ◌-◌, ◌^◌, ◌<◌, ◌≤◌, true, leb, slice_index, List, []}
use Rattle.std.proofs.Common.{◌∷◌, ◌++◌, length, replicate, refl, sym, ap, ◌∙◌, arith, inl, inr, w64, FitsSigned}
use Rattle.std.specs.Int.{to_be_bytes, from_be_bytes, cast_signed, cast_unsigned}
use Rattle.std.proofs.lemmas.Int.{to_z-of_z, of_z-to_z}
use Rattle.std.proofs.lemmas.Bool.{and_from, le-leb, not-true, cases_lt, cases_Bool, or_cases, and_parts, eqb-true}
use Rattle.std.proofs.lemmas.Bool.{ltb-true, leb-true, lt-ltb, le-ltb}
use Rattle.std.proofs.lemmas.List.{length-append, length-replicate, append-nil}
use Rattle.std.proofs.lemmas.Nat.{from_be_bytes-to_be_bytes_8, be_bytes_8}
use Rattle.krb_der.specs.Spelling.{IsContents, tlv, IsBytes}
use Rattle.krb_der.specs.Laws.{contents_fit}
use Rattle.krb_der.specs.Int.{is_shortest, is_redundant, sign_octet, shortest, int_octets, int_spelling, int_value}
use Rattle.krb_der.specs.Int.{is_int, Int}
use Rattle.krb_der.specs.StepLaws.{IsBytes-append, IsBytes-replicate}

-- extended to eight bytes
abbrev extended : List ℕ → List ℕ
extended l = replicate (8 - length l) (sign_octet l) ++ l

pub shortest_is : (a : ℕ) (rest : List ℕ) → is_shortest (shortest (a ∷ rest)) ≡ true
unfolding shortest
shortest_is a [] = refl
shortest_is a (b ∷ rest) =
    elim (cases_Bool (is_redundant a b)) [
      | inl e ↦ rw e (shortest_is b rest)
      | inr e ↦ rw e (rw e refl)
    ]

shortest_no_longer : (a : ℕ) (rest : List ℕ) → length (shortest (a ∷ rest)) ≤ length (a ∷ rest)
unfolding shortest
shortest_no_longer a [] = omega arith
shortest_no_longer a (b ∷ rest) =
    elim (cases_Bool (is_redundant a b)) [
      | inl e ↦ rw e (omega (arith, shortest_no_longer b rest))
      | inr e ↦ rw e (omega arith)
    ]

-- a byte that is not needed is the sign of both numbers
signs : (a b : ℕ) (rest : List ℕ) → is_redundant a b ≡ true
    → (sign_octet (a ∷ b ∷ rest) ≡ a) × (sign_octet (b ∷ rest) ≡ a)
signs a b rest e =
    elim (or_cases _ _ e) [
      | inl p ↦ let q =
          and_parts _ _ p in let z = eqb-true a 0 q.0 in rw (z, lt-ltb b 128 (ltb-true b 128 q.1)) (refl, refl)
      | inr p ↦ let q =
          and_parts _ _ p in let z = eqb-true a 255 q.0 in rw (z, le-ltb b 128 (leb-true 128 b q.1)) (refl, refl)
    ]

one_more : (k a : ℕ) (l : List ℕ) → replicate (suc k) a ++ l ≡ replicate k a ++ a ∷ l
one_more zero a l = refl
one_more (suc k) a l = ap (λ (m : List ℕ). a ∷ m) (one_more k a l)

pub extended_shortest : (a : ℕ) (rest : List ℕ) → length (a ∷ rest) ≤ 8
    → extended (shortest (a ∷ rest)) ≡ extended (a ∷ rest)
unfolding shortest
extended_shortest a [] le = refl
extended_shortest a (b ∷ rest) le =
    elim (cases_Bool (is_redundant a b)) [
      | inl e ↦
          let s = signs a b rest e in
          let k : 8 - length (b ∷ rest) ≡ suc (8 - length (a ∷ b ∷ rest)) = omega arith in
          let step : extended (b ∷ rest) ≡ extended (a ∷ b ∷ rest) =
          rw (s.0, s.1, k) (one_more (8 - length (a ∷ b ∷ rest)) a (b ∷ rest)) in
          rw e (extended_shortest b rest (omega arith) ∙ step)
      | inr e ↦ rw e refl
    ]

pub short_stays : (l : List ℕ) → length l < 2 → shortest l ≡ l
unfolding shortest
short_stays [] h = refl
short_stays (a ∷ []) h = refl
short_stays (a ∷ b ∷ rest) h = absurd (omega arith)

-- the bytes that remain of the eight are the shortest form, and have the same value
written_from : (l : List ℕ) → length l ≡ 8 → (is_int (shortest l) ≡ true)
    × (int_value (shortest l) ≡ cast_signed w64 (from_be_bytes w64 l))
unfolding is_int int_value
written_from [] e = absurd (omega arith)
written_from (a ∷ rest) e =
    let few : leb (length (shortest (a ∷ rest))) 8 ≡ true = le-leb _ _ (omega (arith, shortest_no_longer a rest)) in
    let whole : extended (a ∷ rest) ≡ a ∷ rest = rw e refl in (
      and_from _ _ (shortest_is a rest) few,
      ap (λ (m : List ℕ). cast_signed w64 (from_be_bytes w64 m))
          (extended_shortest a rest (omega arith) ∙ whole),
    )

unsigned_fits : (z : ℤ) → FitsSigned w64 z → cast_unsigned w64 z < 2 ^ 64
unsigned_fits (pos n) fits = omega (arith, fits)
unsigned_fits (negsuc n) fits = omega (arith, fits)

pub int_written : (z : ℤ) → FitsSigned w64 z → IsContents is_int int_value z (int_octets z)
int_written z fits =
    let p = written_from (to_be_bytes w64 (cast_unsigned w64 z)) refl in
    record {
      passes = p.0;
      stands = p.1 ∙ ap (cast_signed w64) (from_be_bytes-to_be_bytes_8 (cast_unsigned w64 z) (unsigned_fits z fits)) ∙
          to_z-of_z w64 z fits;
    }

-- nothing can be removed from the shortest form
shortest_stays : (l : List ℕ) → is_shortest l ≡ true → shortest l ≡ l
unfolding shortest
shortest_stays [] h = refl
shortest_stays (a ∷ []) h = refl
shortest_stays (a ∷ b ∷ rest) h = rw (not-true (is_redundant a b) h) refl

before_sign : (a b : ℕ) (rest : List ℕ) → a ≡ sign_octet (b ∷ rest) → is_redundant a b ≡ true
before_sign a b rest e =
    elim (cases_lt b 128) [
      | inl h ↦ let z : a ≡ 0 = e ∙ rw (lt-ltb b 128 h) refl in rw (z, lt-ltb b 128 h) refl
      | inr h ↦ let z : a ≡ 255 = e ∙ rw (le-ltb b 128 h) refl in rw (z, le-leb 128 b h) refl
    ]

sign_of_more : (k : ℕ) (l : List ℕ) → sign_octet (replicate k (sign_octet l) ++ l) ≡ sign_octet l
sign_of_more zero l = refl
sign_of_more (suc k) l =
    elim (cases_lt (slice_index l 0) 128) [
      | inl h ↦ rw (lt-ltb (slice_index l 0) 128 h) refl
      | inr h ↦ rw (le-ltb (slice_index l 0) 128 h) refl
    ]

-- removing the added signs gives the shortest form again
drops_sign : (k : ℕ) (a : ℕ) (rest : List ℕ) → is_shortest (a ∷ rest) ≡ true
    → shortest (replicate k (sign_octet (a ∷ rest)) ++ a ∷ rest) ≡ a ∷ rest
unfolding shortest
drops_sign zero a rest h = shortest_stays (a ∷ rest) h
drops_sign (suc zero) a rest h = rw (before_sign (sign_octet (a ∷ rest)) a rest refl) (shortest_stays (a ∷ rest) h)
drops_sign (suc (suc k)) a rest h =
    let s = sign_octet (a ∷ rest) in
    let e : is_redundant s s ≡ true =
    before_sign s s (replicate k s ++ a ∷ rest) (sym (sign_of_more (suc k) (a ∷ rest))) in
    rw e (drops_sign (suc k) a rest h)

-- the bytes of a number are those that are written
pub int_one_spelling : (z : ℤ) (octets : List ℕ) → IsBytes (extended octets) → IsContents is_int int_value z octets
    → octets ≡ int_octets z
unfolding is_int int_value
int_one_spelling z [] bytes is = absurd cc
int_one_spelling z (a ∷ rest) bytes is =
    let p = and_parts (is_shortest (a ∷ rest)) (leb (length (a ∷ rest)) 8) is.passes in
    let few : length (a ∷ rest) ≤ 8 = leb-true _ _ p.1 in
    let e = extended (a ∷ rest) in
    let len : length e ≡ 8 =
    omega (
      arith,
      length-append (replicate (8 - length (a ∷ rest)) (sign_octet (a ∷ rest))) (a ∷ rest),
      length-replicate (8 - length (a ∷ rest)) (sign_octet (a ∷ rest)),
    ) in
    let back : to_be_bytes w64 (from_be_bytes w64 e) ≡ e = be_bytes_8 e _ len bytes refl in
    let below : from_be_bytes w64 e < 2 ^ 64 =
    omega (arith, bytes 0, bytes 1, bytes 2, bytes 3, bytes 4, bytes 5, bytes 6, bytes 7) in
    let n : cast_unsigned w64 z ≡ from_be_bytes w64 e =
    ap (cast_unsigned w64) (sym is.stands) ∙ of_z-to_z w64 (from_be_bytes w64 e) below in
    sym (ap (λ (m : ℕ). shortest (to_be_bytes w64 m)) n ∙ ap shortest back ∙ drops_sign
    (8 - length (a ∷ rest)) a rest p.0)

-- at most eight bytes are written
pub int_short : (z : ℤ) → length (int_octets z) ≤ 8
int_short z = shortest_short (to_be_bytes w64 (cast_unsigned w64 z)) refl
  where
    shortest_short : (l : List ℕ) → length l ≡ 8 → length (shortest l) ≤ 8
    shortest_short [] e = absurd (omega arith)
    shortest_short (a ∷ rest) e = omega (arith, shortest_no_longer a rest)

pub int_spelled : (z : ℤ) → FitsSigned w64 z → Int z (int_spelling z)
int_spelled z fits = (int_octets z, omega (arith, int_short z), int_written z fits, refl)

extended_fits : (l : List ℕ) → IsBytes l → IsBytes (extended l)
extended_fits l fits =
    IsBytes-append (replicate (8 - length l) (sign_octet l)) l
    (IsBytes-replicate (8 - length l) (sign_octet l) sign) fits
  where
    sign : sign_octet l < 256
    sign = elim (cases_lt (slice_index l 0) 128) [
      | inl h ↦ rw (lt-ltb (slice_index l 0) 128 h) (omega arith)
      | inr h ↦ rw (le-ltb (slice_index l 0) 128 h) (omega arith)
    ]

-- no number has two encodings
pub int_unique : (z : ℤ) (bytes : List ℕ) → IsBytes bytes → Int z bytes → bytes ≡ int_spelling z
unfolding tlv
int_unique z bytes fits s =
    s.3 ∙ ap (tlv 2) (int_one_spelling z s.0 (extended_fits s.0
    (contents_fit 2 bytes s.0 [] fits (s.3 ∙ sym (append-nil (tlv 2 s.0))))) s.2)
