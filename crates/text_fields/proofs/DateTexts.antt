-- The texts of dates, written and read.
use Rattle.std.proofs.Common.{◌≡◌, ◌++◌, ◌+◌, ◌∙◌, ℕ, ℤ, Bool, true, false, List, [], ◌∷◌, length, length-append, slice_index, codes, arith, refl, sym, ap, subst, inl, inr, if◌then◌else◌, Option, Some, None, IfNone}
use Rattle.std.specs.Option.{SomeIff}
use Rattle.jiff_core.proofs.SignedLemmas.{signed_arith}
use Rattle.krb_der.specs.Civil.{IsCivilSecond}
use Rattle.krb_der.specs.Digits.{spelling}
use Rattle.krb_der.specs.Time.{is_time, time_octets, time_value}
use Rattle.krb_der.proofs.TimeLaws.{time_again}
use Rattle.krb_fields.specs.Moment.{IsSecond}
use Rattle.text_fields.specs.Dates.{IsDateText, IsMomentText, unmarked}

-- a second's digits with the punctuation between them
abbrev pub with_marks : List ℕ → List ℕ
with_marks o =
    slice_index o 0 ∷ slice_index o 1 ∷ slice_index o 2 ∷ slice_index o 3 ∷ 0x2D ∷ slice_index o 4 ∷ slice_index o 5 ∷ 0x2D
    ∷ slice_index o 6 ∷ slice_index o 7 ∷ 0x54 ∷ slice_index o 8 ∷ slice_index o 9 ∷ 0x3A ∷ slice_index o 10 ∷ slice_index o 11
    ∷ 0x3A ∷ slice_index o 12 ∷ slice_index o 13 ∷ slice_index o 14 ∷ []

pub of_octets : (z : ℤ) → IsSecond z → IsMomentText z (with_marks (time_octets z))
unfolding time_octets spelling
of_octets z fits = record { fits = fits; len = refl; marked = refl; digits = refl }

pub is_moment_text : (z : ℤ) (o : List ℕ) → IsSecond z → o ≡ time_octets z → IsMomentText z (with_marks o)
is_moment_text z o fits is = subst (λ octets. IsMomentText z (with_marks octets)) (sym is) (of_octets z fits)

-- a second since 1970 is in the years 0000 to 9999
pub is_civil_second : (z : ℤ) → IsSecond z → IsCivilSecond z
is_civil_second z fits = let low = fits.0 in (omega (arith, signed_arith), fits.1)

-- a property of no value holds if there is none
pub if_none : {A P : Type 0} (r : Option A) → P → IfNone r P
if_none None p = p
if_none (Some x) p = tt

pub if_none-weaker : {A P Q : Type 0} (r : Option A) → (P → Q) → IfNone r P → IfNone r Q
if_none-weaker None f p = f p
if_none-weaker (Some x) f p = tt

pub not_none : (b : Bool) (found : Option ℤ) (z : ℤ) → b ≡ true → found ≡ (if b then Some z else None) → found ≡ None → ⊥
not_none b found z holds is none =
    let some : found ≡ Some z = is ∙ ap (λ t. if t then Some z else None) holds in
    subst (λ o. IfNone o ⊥) (sym some ∙ none) tt

-- bytes that are not a time are not the date of any second
pub no_moment : (text u : List ℕ) (found : Option ℤ) → u ≡ unmarked text → found ≡ (if is_time u then Some (time_value u) else None) → found ≡ None
    → (second : ℤ) → IsMomentText second text → ⊥
no_moment text u found eu is none second m =
    let octets : u ≡ time_octets second = eu ∙ m.digits in
    let again = time_again second (is_civil_second second m.fits) in
    not_none (is_time u) found (time_value u) (ap is_time octets ∙ again.0) is none

-- a time that is not a second since 1970 is not the date of any second
pub no_second : (r : Option ℤ) (value : ℤ) (text u : List ℕ) → SomeIff r (IsSecond value) value → u ≡ unmarked text → u ≡ time_octets value
    → IsCivilSecond value → IfNone r ((second : ℤ) → IsMomentText second text → ⊥)
no_second (Some x) value text u new eu is range = tt
no_second None value text u new eu is range = λ second m.
    let octets : time_octets value ≡ time_octets second = sym is ∙ eu ∙ m.digits in
    let same : value ≡ second = sym (time_again value range).1 ∙ ap time_value octets ∙ (time_again second (is_civil_second second m.fits)).1 in
    new (subst IsSecond (sym same) m.fits)

-- twenty bytes are a date with its time of day, or none
pub no_date : (text : List ℕ) → length text ≡ 20 → ((second : ℤ) → IsMomentText second text → ⊥) → (second : ℤ) → IsDateText second text → ⊥
no_date text len none second (inl m) = none second m
no_date text len none second (inr m) =
    let longer : length (text ++ codes "T00:00:00Z") ≡ length text + 10 = length-append _ _ in
    let bad : 30 ≡ 20 = sym (longer ∙ ap (λ n. n + 10) len) ∙ m.len in
    absurd (omega arith)
