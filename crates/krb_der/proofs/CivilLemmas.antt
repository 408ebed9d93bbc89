-- Each second of the years 0000 to 9999 has one date and time of day.
use Rattle.std.proofs.Common.{◌≡◌, ℕ, ◌+◌, ◌*◌, ◌<◌, refl, sym, ◌∙◌, arith, ℤ, pos, ◌+ℤ◌, ◌*ℤ◌, unsigned_abs, true}
use Rattle.std.specs.Int.{int_div_euclid, int_rem_euclid}
use Rattle.std.proofs.lemmas.Bool.{and_parts, and_from, leb-true, ltb-true, le-leb, lt-ltb}
use Rattle.jiff_core.specs.Calendar.{days_from_civil}
use Rattle.jiff_core.proofs.SignedLemmas.{signed_arith}
use Rattle.krb_der.specs.declared.civil.CivilTime.{CivilTime}
use Rattle.krb_der.specs.Civil.{is_civil, civil_second, civil_at, IsCivilSecond}
use Rattle.krb_der.proofs.DayLemmas.{IsDateOf, IsDay, date_of_day, date_of_day_unique, day_range}

-- its day, and the seconds of that day before it
abbrev pub day_of : CivilTime → ℤ
day_of t = days_from_civil (pos t.year) t.month t.day

abbrev pub clock_of : CivilTime → ℕ
clock_of t = t.hour * 3600 + t.minute * 60 + t.second

-- the parts are a date and a time of day
pub record IsCivil (t : CivilTime) : Type 0 where
  pub date : IsDateOf (day_of t) t.year t.month t.day
  pub hour_in : t.hour < 24
  pub minute_in : t.minute < 60
  pub second_in : t.second < 60

pub civil_parts : (t : CivilTime) → is_civil t ≡ true → IsCivil t
unfolding is_civil
civil_parts t e =
    let seconds = and_parts _ _ e in
    let minutes = and_parts _ _ seconds.0 in
    let hours = and_parts _ _ minutes.0 in
    let days = and_parts _ _ hours.0 in
    let months = and_parts _ _ days.0 in
    let month = and_parts _ _ months.1 in
    let day = and_parts _ _ days.1 in
    record {
      date = record {
        year_in = leb-true _ _ months.0;
        month_low = leb-true _ _ month.0;
        month_high = leb-true _ _ month.1;
        day_low = leb-true _ _ day.0;
        day_high = leb-true _ _ day.1;
        is = refl;
      };
      hour_in = ltb-true _ _ hours.1;
      minute_in = ltb-true _ _ minutes.1;
      second_in = ltb-true _ _ seconds.1;
    }

pub is_civil_from : (t : CivilTime) → IsCivil t → is_civil t ≡ true
unfolding is_civil
is_civil_from t h =
    let month = and_from _ _ (le-leb _ _ h.date.month_low) (le-leb _ _ h.date.month_high) in
    let day = and_from _ _ (le-leb _ _ h.date.day_low) (le-leb _ _ h.date.day_high) in
    let dates = and_from _ _ (and_from _ _ (le-leb _ _ h.date.year_in) month) day in
    let hours = and_from _ _ dates (lt-ltb _ _ h.hour_in) in
    let minutes = and_from _ _ hours (lt-ltb _ _ h.minute_in) in
    and_from _ _ minutes (lt-ltb _ _ h.second_in)

pub civil_second-parts : (t : CivilTime) → civil_second t ≡ day_of t *ℤ pos 86_400 +ℤ pos (clock_of t)
unfolding civil_second
civil_second-parts t = refl

pub civil_second_range : (t : CivilTime) → IsCivil t → IsCivilSecond (civil_second t)
civil_second_range t h =
    omega (arith, signed_arith, civil_second-parts t, day_range (day_of t) t.year t.month t.day h.date)

-- a second has a date and time of day
pub civil_at_is : (z : ℤ) → IsCivilSecond z → IsCivil (civil_at z) × (civil_second (civil_at z) ≡ z)
unfolding civil_at civil_second
civil_at_is z h =
    let day = int_div_euclid z (pos 86_400) in
    let clock = unsigned_abs (int_rem_euclid z (pos 86_400)) in
    let low : IsDay day = omega (arith, signed_arith) in
    let date = date_of_day day low in
    let day_is : day_of (civil_at z) ≡ day = date.is in
    let civil : IsCivil (civil_at z) = record {
      date = rw day_is date;
      hour_in = omega (arith, signed_arith);
      minute_in = omega arith;
      second_in = omega arith;
    } in
    (civil, rw day_is (omega (arith, signed_arith)))

pub same_civil : (a b : CivilTime) → a.year ≡ b.year → a.month ≡ b.month → a.day ≡ b.day → a.hour ≡ b.hour → a.minute ≡ b.minute → a.second ≡ b.second → a ≡ b
same_civil a b year month day hour minute second =
    let same : ◌≡◌ {A = CivilTime} (record { year = a.year; month = a.month; day = a.day; hour = a.hour; minute = a.minute; second = a.second }) (record { year = b.year; month = b.month; day = b.day; hour = b.hour; minute = b.minute; second = b.second }) =
    rw (year, month, day, hour, minute, second) refl in
    same

-- and only one
pub same_second : (a b : CivilTime) → IsCivil a → IsCivil b → civil_second a ≡ civil_second b → a ≡ b
same_second a b h k e =
    let days : day_of a ≡ day_of b = omega (arith, signed_arith, civil_second-parts a, civil_second-parts b) in
    let clocks : clock_of a ≡ clock_of b = omega (arith, signed_arith, civil_second-parts a, civil_second-parts b) in
    let date = date_of_day_unique (day_of b) a.year a.month a.day b.year b.month b.day (rw days at h.date) k.date in
    same_civil a b date.0 date.1 date.2 (omega arith) (omega arith) (omega arith)

pub civil_at_unique : (t : CivilTime) (z : ℤ) → IsCivil t → civil_second t ≡ z → t ≡ civil_at z
civil_at_unique t z h e =
    let is = civil_at_is z (rw e at (civil_second_range t h)) in
    same_second t (civil_at z) h is.0 (e ∙ sym is.1)
