-- Dates of the civil calendar with a time of day, in the years 0000 to 9999. No minute has a leap second.
use Rattle.std.specs.Prelude.{ℕ, zero, suc, ◌+◌, ◌*◌, ◌<◌, ◌/◌, ◌%◌, Bool, ◌&&◌, nat_lt, nat_le, int_le, if◌then◌else◌}
use Rattle.std.specs.Prelude.{ℤ, pos, neg_ℤ, ◌+ℤ◌, ◌-ℤ◌, ◌*ℤ◌, unsigned_abs}
use Rattle.std.specs.Int.{int_div_euclid, int_rem_euclid}
use Rattle.jiff_core.specs.Calendar.{days_from_civil, days_in_month, IsBetween}
use Rattle.krb_der.specs.declared.civil.CivilTime.{CivilTime}

-- the calendar has the date, and a clock shows the time of day
unfoldable pub is_civil : CivilTime → Bool
is_civil t =
    nat_le t.year 9999
    && (nat_le 1 t.month && nat_le t.month 12)
    && (nat_le 1 t.day && nat_le t.day (days_in_month (pos t.year) t.month))
    && nat_lt t.hour 24 && nat_lt t.minute 60 && nat_lt t.second 60

-- each part has as many digits as its place: four for the year, two for the others
abbrev pub FitsDigits : CivilTime → Type 0
FitsDigits t =
    (t.year < 10_000) × (t.month < 100) × (t.day < 100)
    × (t.hour < 100) × (t.minute < 100) × (t.second < 100)

-- the seconds from 1970-01-01T00:00:00, negative before that
unfoldable pub civil_second : CivilTime → ℤ
civil_second t =
    days_from_civil (pos t.year) t.month t.day *ℤ pos 86_400
    +ℤ pos (t.hour * 3600 + t.minute * 60 + t.second)

-- a second from 0000-01-01T00:00:00 to 9999-12-31T23:59:59
abbrev pub IsCivilSecond : ℤ → Type 0
IsCivilSecond z = IsBetween (neg_ℤ (pos 62_167_219_200)) (pos 253_402_300_799) z

-- the last year or month, at most n, that has begun by this day; `first_day` says on which day each begins
unfoldable pub last_begun : (ℕ → ℤ) → ℕ → ℤ → ℕ
last_begun first_day zero day = zero
last_begun first_day (suc n) day =
    if int_le (first_day (suc n)) day then suc n else last_begun first_day n day

-- the year, the month and the day of the month of a day, counted from 1970-01-01
unfoldable pub year_of : ℤ → ℕ
year_of day = last_begun (λ y. days_from_civil (pos y) 1 1) 9999 day

unfoldable pub month_of : ℤ → ℕ
month_of day = last_begun (λ m. days_from_civil (pos (year_of day)) m 1) 12 day

unfoldable pub day_of_month : ℤ → ℕ
day_of_month day = unsigned_abs (day -ℤ days_from_civil (pos (year_of day)) (month_of day) 1) + 1

-- the date and time of day of this second
unfoldable pub civil_at : ℤ → CivilTime
civil_at z =
    let day = int_div_euclid z (pos 86_400) in
    let clock = unsigned_abs (int_rem_euclid z (pos 86_400)) in
    record {
      year = year_of day;
      month = month_of day;
      day = day_of_month day;
      hour = clock / 3600;
      minute = clock / 60 % 60;
      second = clock % 60;
    }
