-- The library's dates and times of day, as the parts that are read and written.
use Rattle.std.proofs.Common.{◌≡◌, ◌≤◌, inl, true, refl, sym, subst, ◌∙◌, arith, rules, ℤ, pos, negsuc, ◌*ℤ◌, ◌<ℤ◌, ◌≤ℤ◌, unsigned_abs}
use Rattle.std.proofs.lemmas.Int.{by_lt_z}
use Rattle.jiff_core.specs.declared.civil.date.Date.{Date}
use Rattle.jiff_core.specs.declared.civil.datetime.DateTime.{DateTime}
use Rattle.jiff_core.specs.Calendar.{days_in_month}
use Rattle.jiff_core.specs.Date.{epoch_day}
use Rattle.jiff_core.specs.DateTime.{civil_nanos, civil_seconds}
use Rattle.jiff_core.proofs.SignedLemmas.{signed_arith}
use Rattle.jiff_core.proofs.DateLemmas.{epoch_day-lt}
use Rattle.jiff_core.proofs.DateTimeLemmas.{civil_nanos-civil_seconds}
use Rattle.krb_der.specs.declared.civil.CivilTime.{CivilTime}
use Rattle.krb_der.specs.Civil.{is_civil, civil_second, civil_at, IsCivilSecond}
use Rattle.krb_der.proofs.DayLemmas.{days_from_civil-zero}
use Rattle.krb_der.proofs.CivilLemmas.{IsCivil, is_civil_from, civil_at_unique}

-- its parts, if the year is not negative
abbrev pub parts_of : DateTime → CivilTime
parts_of t = record {
  year = unsigned_abs t.date.year;
  month = t.date.month;
  day = t.date.day;
  hour = t.time.hour;
  minute = t.time.minute;
  second = t.time.second;
}

first_date : Date
first_date = record { year = pos 0; month = 1; day = 1; year_in = search rules; month_in = search rules; day_in = search rules }

year_from : (y : ℤ) → pos 0 ≤ℤ y → pos (unsigned_abs y) ≡ y
year_from (pos n) h = refl
year_from (negsuc n) h = absurd (omega (arith, signed_arith))

pub civil-parts_of : (t : DateTime) → pos 0 ≤ℤ t.date.year → IsCivil (parts_of t)
civil-parts_of t h =
    let year = year_from t.date.year h in
    let most = t.date.year_in.1 in
    record {
      date = record {
        year_in = omega (arith, signed_arith);
        month_low = t.date.month_in.0;
        month_high = t.date.month_in.1;
        day_low = t.date.day_in.0;
        day_high = subst (λ (y : ℤ). t.date.day ≤ days_in_month y t.date.month) (sym year) t.date.day_in.1;
        is = refl;
      };
      hour_in = t.time.hour_in;
      minute_in = t.time.minute_in;
      second_in = t.time.second_in;
    }

pub civil_second-parts_of : (t : DateTime) → pos 0 ≤ℤ t.date.year → civil_second (parts_of t) ≡ civil_seconds t
unfolding civil_second civil_seconds
civil_second-parts_of t h = rw (year_from t.date.year h) refl

-- a second in or after the year 0000 has no earlier year
pub year-civil_second : (t : DateTime) (z : ℤ) → IsCivilSecond z → civil_seconds t ≡ z → pos 0 ≤ℤ t.date.year
unfolding civil_seconds first_date
year-civil_second t z h e =
    by_lt_z t.date.year (pos 0)
    (λ below.
    let before : epoch_day t.date <ℤ epoch_day first_date = epoch_day-lt t.date first_date (inl below) in
    let zeroth : epoch_day first_date ≡ negsuc 719_527 = days_from_civil-zero in
    let hour = t.time.hour_in in
    let minute = t.time.minute_in in
    let second = t.time.second_in in
    absurd (omega (arith, signed_arith)))
    (λ is. is)

-- whole seconds as nanoseconds
pub civil_seconds_from_nanos : (t : DateTime) (z : ℤ) → civil_nanos t ≡ z *ℤ pos 1_000_000_000 → civil_seconds t ≡ z
civil_seconds_from_nanos t z e =
    let below = t.time.subsec_in in
    omega (arith, signed_arith, civil_nanos-civil_seconds t)

-- the parts of that second are those of its only date and time of day
pub parts_of-civil_at : (t : DateTime) (z : ℤ) → IsCivilSecond z → civil_nanos t ≡ z *ℤ pos 1_000_000_000 → (pos 0 ≤ℤ t.date.year) × (parts_of t ≡ civil_at z)
parts_of-civil_at t z h e =
    let second = civil_seconds_from_nanos t z e in
    let year = year-civil_second t z h second in
    (year, civil_at_unique (parts_of t) z (civil-parts_of t year) (civil_second-parts_of t year ∙ second))

-- parts from the library are a date and a time of day, and have its second
pub civil_second_from_parts_of : (t : DateTime) (p : CivilTime) → pos 0 ≤ℤ t.date.year → parts_of t ≡ p → (is_civil p ≡ true) × (civil_second p ≡ civil_seconds t)
civil_second_from_parts_of t p h e =
    (rw (← e) (is_civil_from (parts_of t) (civil-parts_of t h)), rw (← e) (civil_second-parts_of t h))
