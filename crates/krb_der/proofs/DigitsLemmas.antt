-- The bytes of a time are digits in pairs, and a `Z`.
use Rattle.std.proofs.Common.{◌≡◌, ℕ, zero, suc, ◌+◌, ◌*◌, ◌/◌, ◌%◌, ◌<◌, ◌≤◌, ◌&&◌, Bool, true, IsTrue, List, [], ◌∷◌, ◌++◌, length, take, drop, get_or, refl, arith, inl, inr}
use Rattle.std.specs.Char.{is_ascii_digit}
use Rattle.std.specs.List.{list_all}
use Rattle.std.proofs.lemmas.Bool.{and_parts, and_from, eqb-true, cases_Bool}
use Rattle.std.proofs.lemmas.Bool.Decides.{nat_tests}
use Rattle.std.proofs.lemmas.List.{get_or-take, length-take}
use Rattle.std.proofs.lemmas.List.Folds.{list_all_at}
use Rattle.krb_der.specs.Digits.{is_spelled, number, two_digits}

-- what the test of the bytes says
pub record IsSpelled (octets : List ℕ) : Type 0 where
  pub length_is : length octets ≡ 15
  pub last_is : get_or octets 14 0 ≡ 90
  pub digits : list_all is_ascii_digit (take 14 octets) ≡ true

pub spelled_parts : (octets : List ℕ) → is_spelled octets ≡ true → IsSpelled octets
unfolding is_spelled
spelled_parts octets e =
    let digits = and_parts _ _ e in
    let last = and_parts _ _ digits.0 in
    record {
      length_is = eqb-true _ _ last.0;
      last_is = eqb-true _ _ last.1;
      digits = digits.1;
    }

pub spelled_length : (octets : List ℕ) → IsTrue (is_spelled octets) → length octets ≡ 15
spelled_length octets e = (spelled_parts octets e).length_is

is_digit_at : (octets : List ℕ) (k : ℕ) → is_spelled octets ≡ true → k < 14 → is_ascii_digit (get_or octets k 0) ≡ true
is_digit_at octets k e h =
    let is = spelled_parts octets e in
    let long = is.length_is in
    elim (cases_Bool (is_ascii_digit (get_or octets k 0))) [
      | inl passes ↦ passes
      | inr fails ↦
          let some : k < length (take 14 octets) = omega (arith, length-take 14 octets) in
          let none = list_all_at is_ascii_digit (take 14 octets) k 0 some (rw (get_or-take 14 octets k 0 h) fails) in
          absurd (cc (none, is.digits))
    ]

pub digit_low : (octets : List ℕ) (k : ℕ) → IsTrue (is_spelled octets) → k < 14 → 48 ≤ get_or octets k 0
digit_low octets k e h = let is = is_digit_at octets k e h in grind arith

pub digit_high : (octets : List ℕ) (k : ℕ) → IsTrue (is_spelled octets) → k < 14 → get_or octets k 0 < 58
digit_high octets k e h = let is = is_digit_at octets k e h in grind arith

-- two adjacent bytes
pub take_two : (octets : List ℕ) (k : ℕ) → k + 1 < length octets → take 2 (drop k octets) ≡ get_or octets k 0 ∷ get_or octets (k + 1) 0 ∷ []
take_two [] k h = absurd (omega arith)
take_two (a ∷ []) zero h = absurd (omega arith)
take_two (a ∷ b ∷ rest) zero h = refl
take_two (a ∷ rest) (suc k) h = let next : suc k + 1 ≡ suc (k + 1) = omega arith in rw next (take_two rest k (omega arith))

pub take_four : (octets : List ℕ) → 3 < length octets → take 4 octets ≡ get_or octets 0 0 ∷ get_or octets 1 0 ∷ get_or octets 2 0 ∷ get_or octets 3 0 ∷ []
take_four [] h = absurd (omega arith)
take_four (a ∷ []) h = absurd (omega arith)
take_four (a ∷ b ∷ []) h = absurd (omega arith)
take_four (a ∷ b ∷ c ∷ []) h = absurd (omega arith)
take_four (a ∷ b ∷ c ∷ d ∷ rest) h = refl

-- a year of four digits, by two numbers of two digits
pub number_of_four : (octets : List ℕ) → IsTrue (is_spelled octets) → number (take 4 octets) ≡ number (take 2 (drop 0 octets)) * 100 + number (take 2 (drop 2 octets))
number_of_four octets e =
    let long = spelled_length octets e in
    rw (take_four octets (omega arith), take_two octets 0 (omega arith), take_two octets 2 (omega arith)) (omega arith)

-- the digits of the number that digits spell
two_digits-number : (a b : ℕ) → 48 ≤ a → a < 58 → 48 ≤ b → b < 58 → two_digits (number (a ∷ b ∷ [])) ≡ a ∷ b ∷ []
two_digits-number a b la ha lb hb =
    let n = number (a ∷ b ∷ []) in
    let tens : 48 + n / 10 ≡ a = omega arith in
    let ones : 48 + n % 10 ≡ b = omega arith in
    rw (tens, ones) refl

pub two_digits-at : (octets : List ℕ) (k : ℕ) → IsTrue (is_spelled octets) → k < 13 → two_digits (number (take 2 (drop k octets))) ≡ take 2 (drop k octets)
two_digits-at octets k e h =
    let long = spelled_length octets e in
    rw (take_two octets k (omega arith)) (two_digits-number (get_or octets k 0) (get_or octets (k + 1) 0) (digit_low octets k e (omega arith)) (digit_high octets k e (omega arith)) (digit_low octets (k + 1) e (omega arith)) (digit_high octets (k + 1) e (omega arith)))

-- the number of two digits is below 100
pub number_below : (octets : List ℕ) (k : ℕ) → IsTrue (is_spelled octets) → k < 13 → number (take 2 (drop k octets)) < 100
number_below octets k e h =
    let long = spelled_length octets e in
    let tens = digit_high octets k e (omega arith) in
    let ones = digit_high octets (k + 1) e (omega arith) in
    rw (take_two octets k (omega arith)) (omega arith)

is_digit-48 : (n : ℕ) → n < 10 → is_ascii_digit (48 + n) ≡ true
is_digit-48 n h = grind (arith, nat_tests)

-- the digits of a number below 100 are digits
pub two_are_digits : (n : ℕ) (b : Bool) → n < 100 → b ≡ true → (is_ascii_digit (48 + n / 10) && (is_ascii_digit (48 + n % 10) && b)) ≡ true
two_are_digits n b h rest = and_from _ _ (is_digit-48 (n / 10) (omega arith)) (and_from _ _ (is_digit-48 (n % 10) (omega arith)) rest)

-- seven parts and the `Z`, one by one
pub joined : {a b c d e f g a' b' c' d' e' f' g' : List ℕ} → a ≡ a' → b ≡ b' → c ≡ c' → d ≡ d' → e ≡ e' → f ≡ f' → g ≡ g'
    → a ++ (b ++ (c ++ (d ++ (e ++ (f ++ (g ++ 90 ∷ [])))))) ≡ a' ++ (b' ++ (c' ++ (d' ++ (e' ++ (f' ++ (g' ++ 90 ∷ []))))))
joined a b c d e f g = rw (a, b, c, d, e, f, g) refl

-- what the code needs to know of two adjacent bytes
pub ruleset digit_facts = (spelled_length, digit_low, digit_high, take_two)
