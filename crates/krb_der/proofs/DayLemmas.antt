-- Each day of the years 0000 to 9999 has one date.
use Rattle.std.proofs.Common.{◌≡◌, ℕ, zero, suc, ◌+◌, ◌<◌, ◌≤◌, inl, inr, refl, sym, ◌∙◌, arith, ℤ, pos, neg_ℤ, ◌+ℤ◌, ◌-ℤ◌, ◌<ℤ◌, ◌≤ℤ◌, unsigned_abs}
use Rattle.std.specs.Prelude.{int_le}
use Rattle.std.proofs.lemmas.Bool.{cases_Bool, cases_lt}
use Rattle.jiff_core.specs.declared.civil.date.Date.{Date}
use Rattle.jiff_core.specs.Calendar.{days_from_civil, days_in_month, IsBetween}
use Rattle.jiff_core.proofs.SignedLemmas.{signed_arith, one_part}
use Rattle.jiff_core.proofs.MarchLemmas.{day_count-early}
use Rattle.jiff_core.proofs.CalendarLemmas.{days_from_civil-day_count, day_count-day, day_count-next_month, day_count-next_year, day_count-last_of_year, day_count-later_year, day_count-day_of_year, day_count-end}
use Rattle.jiff_core.proofs.DateLemmas.{epoch_day_injective, epoch_day_range, days_from_civil-day}
use Rattle.krb_der.specs.Civil.{last_begun, year_of, month_of, day_of_month}

-- it is at most n
last_begun-at_most : (f : ℕ → ℤ) (n : ℕ) (day : ℤ) → last_begun f n day ≤ n
unfolding last_begun
last_begun-at_most f zero day = omega arith
last_begun-at_most f (suc n) day =
    elim (cases_Bool (int_le (f (suc n)) day)) [
      | inl e ↦ rw e (omega arith)
      | inr e ↦ rw e (omega (arith, last_begun-at_most f n day))
    ]

-- it has begun, unless it is 0, for which that isn't checked
last_begun-begun : (f : ℕ → ℤ) (n : ℕ) (day : ℤ) → 1 ≤ last_begun f n day → f (last_begun f n day) ≤ℤ day
unfolding last_begun
last_begun-begun f zero day some = absurd (omega arith)
last_begun-begun f (suc n) day some =
    elim (cases_Bool (int_le (f (suc n)) day)) [
      | inl e ↦ rw e (omega (arith, signed_arith))
      | inr e ↦ rw e (last_begun-begun f n day (rw e at some))
    ]

-- and no later one has begun
last_begun-later : (f : ℕ → ℤ) (n : ℕ) (day : ℤ) (k : ℕ) → last_begun f n day < k → k ≤ n → day <ℤ f k
unfolding last_begun
last_begun-later f zero day k above within = absurd (omega arith)
last_begun-later f (suc n) day k above within =
    elim (cases_Bool (int_le (f (suc n)) day)) [
      | inl e ↦ let is = rw e at above in absurd (omega arith)
      | inr e ↦
          elim (cases_lt k (suc n)) [
            | inl below ↦ last_begun-later f n day k (rw e at above) (omega arith)
            | inr last ↦ let same : k ≡ suc n = omega arith in rw same (omega (arith, signed_arith))
          ]
    ]

-- it is not 0 if a later one has begun
last_begun-positive : (f : ℕ → ℤ) (n : ℕ) (day : ℤ) → 1 ≤ n → f 1 ≤ℤ day → 1 ≤ last_begun f n day
last_begun-positive f n day some first =
    elim (cases_lt (last_begun f n day) 1) [
      | inl below ↦ let later = last_begun-later f n day 1 below some in absurd (omega (arith, signed_arith))
      | inr is ↦ is
    ]

-- 1 January of the year 0000, in days from 1970-01-01
pub days_from_civil-zero : days_from_civil (pos 0) 1 1 ≡ neg_ℤ (pos 719_528)
days_from_civil-zero =
    omega (arith, signed_arith, days_from_civil-day_count, day_count-early (pos 0) 9999 1 1 refl (omega arith) (omega arith) (omega arith))

-- the day has this date
pub record IsDateOf (day : ℤ) (y m d : ℕ) : Type 0 where
  pub year_in : y ≤ 9999
  pub month_low : 1 ≤ m
  pub month_high : m ≤ 12
  pub day_low : 1 ≤ d
  pub day_high : d ≤ days_in_month (pos y) m
  pub is : days_from_civil (pos y) m d ≡ day

-- a day of the years 0000 to 9999
abbrev pub IsDay : ℤ → Type 0
IsDay day = IsBetween (neg_ℤ (pos 719_528)) (pos 2_932_896) day

-- the year has begun and not ended
year_of-range : (day : ℤ) → IsDay day → (year_of day ≤ 9999) × (days_from_civil (pos (year_of day)) 1 1 ≤ℤ day) × (day <ℤ days_from_civil (pos (year_of day + 1)) 1 1)
unfolding year_of
year_of-range day h =
    let first = λ (y : ℕ). days_from_civil (pos y) 1 1 in
    let within = last_begun-at_most first 9999 day in
    let begun : days_from_civil (pos (last_begun first 9999 day)) 1 1 ≤ℤ day =
    elim (cases_lt 0 (last_begun first 9999 day)) [
      | inl some ↦ last_begun-begun first 9999 day some
      | inr none ↦ let zeroth : last_begun first 9999 day ≡ 0 = omega arith in rw zeroth (rw days_from_civil-zero h.0)
    ] in (
      within,
      begun,
      elim (cases_lt (last_begun first 9999 day) 9999) [
        | inl below ↦ last_begun-later first 9999 day _ (omega arith) (omega arith)
        | inr last ↦
            let e : last_begun first 9999 day + 1 ≡ 10_000 = omega arith in
            rw e (omega (arith, signed_arith, days_from_civil-day_count, day_count-end))
      ],
    )

-- the first of the next month, also after December, by the first of this one
first_of_next : (y m : ℕ) → 1 ≤ m → days_from_civil (pos y) (m + 1) 1 ≡ days_from_civil (pos y) m 1 +ℤ pos (days_in_month (pos y) m)
first_of_next y m low = omega (arith, signed_arith, days_from_civil-day_count, day_count-next_month (pos y) m low)

-- December ends with the year
december_last : (y : ℕ) → days_from_civil (pos (y + 1)) 1 1 ≡ days_from_civil (pos y) 12 1 +ℤ pos 31
december_last y =
    omega (arith, signed_arith, days_from_civil-day_count, day_count-next_year (pos y) (pos (y + 1)) (omega (arith, signed_arith)) (omega (arith, signed_arith)), day_count-last_of_year (pos y), day_count-day (pos y) 12 31 1 (omega arith) (omega arith))

-- the month of a year has begun and not ended
month_within : (y : ℕ) (day : ℤ) → days_from_civil (pos y) 1 1 ≤ℤ day → day <ℤ days_from_civil (pos (y + 1)) 1 1
    → (m : ℕ) → m ≡ last_begun (λ n. days_from_civil (pos y) n 1) 12 day → (1 ≤ m) × (m ≤ 12) × (days_from_civil (pos y) m 1 ≤ℤ day) × (day <ℤ (days_from_civil (pos y) m 1 +ℤ pos (days_in_month (pos y) m)))
month_within y day low high m is =
    let first = λ (n : ℕ). days_from_civil (pos y) n 1 in
    let some : 1 ≤ m = rw is (last_begun-positive first 12 day (omega arith) low) in
    let begun : days_from_civil (pos y) m 1 ≤ℤ day = rw is (last_begun-begun first 12 day (rw is at some)) in
    let few : m ≤ 12 = rw is (last_begun-at_most first 12 day) in (
      some,
      few,
      begun,
      elim (cases_lt m 12) [
        | inl below ↦
            let later : day <ℤ days_from_civil (pos y) (m + 1) 1 = last_begun-later first 12 day (m + 1) (omega arith) (omega arith) in
            rw (first_of_next y m some) at later
        | inr last ↦
            let e : m ≡ 12 = omega arith in
            rw e (omega (arith, signed_arith, december_last y))
      ],
    )

-- each day has the date that is written for it
pub date_of_day : (day : ℤ) → IsDay day → IsDateOf day (year_of day) (month_of day) (day_of_month day)
unfolding month_of day_of_month
date_of_day day h =
    let year = year_of-range day h in
    let month = month_within (year_of day) day year.1 year.2 (month_of day) refl in
    let y = year_of day in
    let m = month_of day in
    let first = days_from_civil (pos y) m 1 in
    let d = unsigned_abs (day -ℤ first) + 1 in
    let since : pos d +ℤ first ≡ day +ℤ pos 1 = omega (arith, signed_arith, one_part (day -ℤ first)) in
    let long = days_in_month (pos y) m in
    let short : d ≤ long = omega (arith, signed_arith) in
    let same : days_from_civil (pos y) m d ≡ day = omega (arith, signed_arith, days_from_civil-day (pos y) m 1 d (omega arith) (omega arith)) in
    record {
      year_in = year.0;
      month_low = month.0;
      month_high = month.1;
      day_low = omega arith;
      day_high = short;
      is = same;
    }

-- a date as the calendar library represents it
date_from : (day : ℤ) (y m d : ℕ) → IsDateOf day y m d → Date
date_from day y m d h = record {
  year = pos y;
  month = m;
  day = d;
  year_in = let low = h.year_in in (omega (arith, signed_arith), omega (arith, signed_arith));
  month_in = (h.month_low, h.month_high);
  day_in = (h.day_low, h.day_high);
}

-- a day has one date
pub date_of_day_unique : (day : ℤ) (y m d y₂ m₂ d₂ : ℕ) → IsDateOf day y m d → IsDateOf day y₂ m₂ d₂ → (y ≡ y₂) × (m ≡ m₂) × (d ≡ d₂)
unfolding date_from
date_of_day_unique day y m d y₂ m₂ d₂ h k =
    let same = epoch_day_injective (date_from day y m d h) (date_from day y₂ m₂ d₂ k) (h.is ∙ sym k.is) in
    let years : pos y ≡ pos y₂ = same.0 in
    (cc, same.1, same.2)

-- no year from 0000 on begins before the year 0000
year_low : (y : ℕ) → days_from_civil (pos 0) 1 1 ≤ℤ days_from_civil (pos y) 1 1
year_low zero = omega (arith, signed_arith)
year_low (suc y) =
    omega (arith, signed_arith, days_from_civil-day_count, day_count-later_year (pos 0) (pos (suc y)) (omega (arith, signed_arith)) (omega (arith, signed_arith)))

-- and it is a day of the years 0000 to 9999
pub day_range : (day : ℤ) (y m d : ℕ) → IsDateOf day y m d → IsDay day
unfolding date_from
day_range day y m d h =
    let most = epoch_day_range (date_from day y m d h) in
    let is : days_from_civil (pos y) m d ≡ day = h.is in
    let zeroth = days_from_civil-zero in
    let low = year_low y in
    omega (arith, signed_arith, days_from_civil-day_count, day_count-day_of_year (pos y) m d h.day_low)
