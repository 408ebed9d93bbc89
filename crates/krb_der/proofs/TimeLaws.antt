-- Reading undoes writing, and a time has only one encoding.
use Rattle.std.proofs.Common.{◌≡◌, ℕ, ◌+◌, ◌/◌, ◌%◌, ◌<◌, true, List, [], ◌∷◌, ◌++◌, length, take, drop, get_or, drop-cons, Some, None, if◌then◌else◌, inl, inr, refl, sym, ap, ◌∙◌, arith, ℤ, pos}
use Rattle.std.proofs.lemmas.Bool.{and_parts, and_from, cases_lt}
use Rattle.std.proofs.lemmas.Option.{cond_some}
use Rattle.std.proofs.lemmas.List.{take-append-drop, drop-drop, nil_from_length, length-drop, get_or_past}
use Rattle.krb_der.specs.declared.civil.CivilTime.{CivilTime}
use Rattle.krb_der.specs.Civil.{is_civil, civil_second, civil_at, IsCivilSecond, FitsDigits}
use Rattle.krb_der.specs.Digits.{is_spelled, spelled, spelling, number, two_digits}
use Rattle.krb_der.specs.Time.{is_time, time_value, time_octets}
use Rattle.krb_der.proofs.CivilLemmas.{IsCivil, civil_parts, is_civil_from, same_civil, civil_at_is, civil_at_unique, civil_second_range}
use Rattle.krb_der.proofs.DigitsLemmas.{digit_high, two_digits-at, two_are_digits, number_of_four, number_below, joined, spelled_parts}
use Rattle.jiff_core.proofs.CalendarLemmas.{days_in_month_bounds}

-- the parts of a date and a time of day fit in their digits
fits_digits : (t : CivilTime) → IsCivil t → FitsDigits t
fits_digits t h = omega (arith, days_in_month_bounds (pos t.year) t.month)

spelling-is_spelled : (t : CivilTime) → FitsDigits t → is_spelled (spelling t) ≡ true
unfolding is_spelled spelling
spelling-is_spelled t h =
    two_are_digits (t.year / 100) _ (omega arith) (two_are_digits (t.year % 100) _ (omega arith)
    (two_are_digits t.month _ (omega arith) (two_are_digits t.day _ (omega arith)
    (two_are_digits t.hour _ (omega arith) (two_are_digits t.minute _ (omega arith)
    (two_are_digits t.second _ (omega arith) refl))))))

spelled-spelling : (t : CivilTime) → FitsDigits t → spelled (spelling t) ≡ t
unfolding spelled spelling
spelled-spelling t h =
    same_civil _ t (omega arith) (omega arith) (omega arith) (omega arith) (omega arith) (omega arith)

-- a pair of bytes before the rest
pair_before : (octets : List ℕ) (k : ℕ) {rest : List ℕ} → rest ≡ drop (k + 2) octets → take 2 (drop k octets) ++ rest ≡ drop k octets
pair_before octets k e = rw (e, ← drop-drop 2 k octets) (take-append-drop 2 (drop k octets))

z_last : (octets : List ℕ) → is_spelled octets ≡ true → 90 ∷ [] ≡ drop 14 octets
z_last octets e =
    let is = spelled_parts octets e in
    let long = is.length_is in
    let none : drop 15 octets ≡ [] = nil_from_length _ (omega (arith, length-drop 15 octets)) in
    sym (drop-cons octets 14 0 (omega arith) ∙ ap (λ (z : ℕ). z ∷ drop 15 octets) is.last_is ∙ ap (λ (l : List ℕ). 90 ∷ l) none)

-- the seven pairs of digits and the `Z`
pairs_of_digits : (octets : List ℕ) → is_spelled octets ≡ true → spelling (spelled octets) ≡ take 2 (drop 0 octets) ++ (take 2 (drop 2 octets) ++ (take 2 (drop 4 octets) ++ (take 2 (drop 6 octets) ++ (take 2 (drop 8 octets) ++ (take 2 (drop 10 octets) ++ (take 2 (drop 12 octets) ++ 90 ∷ []))))))
unfolding spelled spelling
pairs_of_digits octets e =
    let four = number_of_four octets e in
    let century = number_below octets 0 e (omega arith) in
    let year = number_below octets 2 e (omega arith) in
    let front : number (take 4 octets) / 100 ≡ number (take 2 (drop 0 octets)) = omega arith in
    let back : number (take 4 octets) % 100 ≡ number (take 2 (drop 2 octets)) = omega arith in
    joined (ap two_digits front ∙ two_digits-at octets 0 e (omega arith)) (ap two_digits back ∙ two_digits-at octets 2 e (omega arith))
    (two_digits-at octets 4 e (omega arith)) (two_digits-at octets 6 e (omega arith)) (two_digits-at octets 8 e (omega arith)) (two_digits-at octets 10 e (omega arith)) (two_digits-at octets 12 e (omega arith))

spelling-spelled : (octets : List ℕ) → is_spelled octets ≡ true → spelling (spelled octets) ≡ octets
spelling-spelled octets e =
    pairs_of_digits octets e ∙ pair_before octets 0 (pair_before octets 2 (pair_before octets 4 (pair_before octets 6 (pair_before octets 8 (pair_before octets 10 (pair_before octets 12 (z_last octets e)))))))

-- what is written is a time, and it is this time
pub time_again : (z : ℤ) → IsCivilSecond z → (is_time (time_octets z) ≡ true) × (time_value (time_octets z) ≡ z)
unfolding is_time time_value time_octets
time_again z h =
    let at = civil_at_is z h in
    let fits = fits_digits (civil_at z) at.0 in
    let back = spelled-spelling (civil_at z) fits in
    (and_from _ _ (spelling-is_spelled (civil_at z) fits) (rw back (is_civil_from (civil_at z) at.0)), rw back at.1)

-- a time is in the years 0000 to 9999
pub time_value_range : (octets : List ℕ) → is_time octets ≡ true → IsCivilSecond (time_value octets)
unfolding is_time time_value
time_value_range octets e =
    let parts = and_parts _ _ e in civil_second_range (spelled octets) (civil_parts (spelled octets) parts.1)

-- the bytes of a time are those that are written
pub time_one_spelling : (octets : List ℕ) → is_time octets ≡ true → time_octets (time_value octets) ≡ octets
unfolding is_time time_value time_octets
time_one_spelling octets e =
    let parts = and_parts _ _ e in
    let civil = civil_parts (spelled octets) parts.1 in
    let same = civil_at_unique (spelled octets) (civil_second (spelled octets)) civil refl in
    rw (← same) (spelling-spelled octets parts.0)

pub length-time_octets : (z : ℤ) → length (time_octets z) ≡ 15
unfolding time_octets spelling
length-time_octets z = refl

-- bytes whose digits are a date and a time of day are a time
pub time_from : (octets : List ℕ) (seconds : ℤ) → is_spelled octets ≡ true → (if is_civil (spelled octets) then Some (civil_second (spelled octets)) else None) ≡ Some seconds
    → IsCivilSecond seconds × (octets ≡ time_octets seconds)
unfolding is_time time_value
time_from octets seconds e gives =
    let parts = cond_some (is_civil (spelled octets)) _ _ gives in
    let is : is_time octets ≡ true = and_from _ _ e parts.0 in
    let value : time_value octets ≡ seconds = parts.1 in
    rw (← value) (time_value_range octets is, sym (time_one_spelling octets is))

-- they are bytes
pub time_octets-bytes : (z : ℤ) → IsCivilSecond z → (i : ℕ) → get_or (time_octets z) i 0 < 256
unfolding is_time
time_octets-bytes z h i =
    let again = time_again z h in
    let is = and_parts _ _ again.0 in
    let spelled = spelled_parts (time_octets z) is.0 in
    let long = length-time_octets z in
    elim (cases_lt i 14) [
      | inl digit ↦ omega (arith, digit_high (time_octets z) i is.0 digit)
      | inr last ↦
          elim (cases_lt i 15) [
            | inl within ↦ let at : i ≡ 14 = omega arith in rw (at, spelled.last_is) (omega arith)
            | inr past ↦ rw (get_or_past (time_octets z) i 0 (omega arith)) (omega arith)
          ]
    ]
