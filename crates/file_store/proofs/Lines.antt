-- The lines of a text, one after another.
use Rattle.std.proofs.Common.{◌≡◌, ◌∙◌, ◌<◌, ◌+◌, ℕ, Bool, true, false, cond, eqb, not, suc, List, [], ◌∷◌, arith, ap, drop, length, subst, sym, take, refl}
use Rattle.std.specs.List.{after_first, position_or_len}
use Rattle.file_store.specs.Input.{IsFirstLong, lines_of, with_octet}
use Rattle.file_store.specs.Inputs.{first_line}

past_first : (n octet : ℕ) (rest : List ℕ) → (take (1 + n) (octet ∷ rest) ≡ octet ∷ take n rest) × (drop (1 + n + 1) (octet ∷ rest) ≡ drop (n + 1) rest)
past_first n octet rest =
    let one : 1 + n ≡ suc n = omega arith in
    let two : 1 + n + 1 ≡ suc (suc n) = omega arith in
    let behind : suc n ≡ n + 1 = omega arith in
    (ap (λ m. take m (octet ∷ rest)) one, ap (λ m. drop m (octet ∷ rest)) two ∙ ap (λ m. drop m rest) behind)

-- the first line of a text, and those behind it
pub first_is : (octets : List ℕ) → 0 < length octets → lines_of octets ≡ first_line octets ∷ lines_of (after_first (λ b. eqb b 10) octets)
first_is [] some = absurd (omega (arith, some))
first_is (octet ∷ []) some = at (eqb octet 10)
  where
    at : (b : Bool) → cond b ([] ∷ []) ((octet ∷ []) ∷ [])
        ≡ take (cond (not b) 1 0) (octet ∷ []) ∷ lines_of (drop (cond (not b) 1 0 + 1) (octet ∷ []))
    at true = refl
    at false = refl
first_is (octet ∷ next ∷ octets) some = step (eqb octet 10) (first_is (next ∷ octets) (omega arith))
  where
    place : ℕ
    place = position_or_len (λ b. eqb b 10) (next ∷ octets)

    step : (b : Bool) → lines_of (next ∷ octets) ≡ first_line (next ∷ octets) ∷ lines_of (after_first (λ b. eqb b 10) (next ∷ octets))
        → cond b ([] ∷ lines_of (next ∷ octets)) (with_octet octet (lines_of (next ∷ octets)))
        ≡ take (cond (not b) (1 + place) 0) (octet ∷ next ∷ octets) ∷ lines_of (drop (cond (not b) (1 + place) 0 + 1) (octet ∷ next ∷ octets))
    step true e = refl
    step false e =
        let past = past_first place octet (next ∷ octets) in
        ap (with_octet octet) e ∙ ap (λ front. front ∷ lines_of (drop (place + 1) (next ∷ octets))) (sym past.0)
        ∙ ap (λ back. take (1 + place) (octet ∷ next ∷ octets) ∷ lines_of back) (sym past.1)

-- the first line is too long
pub first_long : (octets line : List ℕ) (most : ℕ) → 0 < length octets → line ≡ first_line octets → most < length line
    → IsFirstLong (lines_of octets) most
first_long octets line most some is long =
    (first_line octets, lines_of (after_first (λ b. eqb b 10) octets), first_is octets some, subst (λ first. most < length first) is long)
