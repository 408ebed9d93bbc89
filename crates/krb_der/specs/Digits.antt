-- The fifteen bytes YYYYMMDDHHMMSSZ of a date and time of day.
use Rattle.std.specs.Prelude.{ℕ, ◌+◌, ◌-◌, ◌*◌, ◌/◌, ◌%◌, Bool, ◌&&◌, ◌==◌, List, [], ◌∷◌, ◌++◌, length, take, drop}
use Rattle.std.specs.Prelude.{slice_index}
use Rattle.std.specs.Char.{is_ascii_digit}
use Rattle.std.specs.List.{fold, list_all}
use Rattle.krb_der.specs.declared.civil.CivilTime.{CivilTime}

-- fourteen digits, followed by 90, which is `Z`
unfoldable pub is_spelled : List ℕ → Bool
is_spelled octets =
    length octets == 15 && slice_index octets 14 == 90 && list_all is_ascii_digit (take 14 octets)

-- the number that decimal digits spell, where 48 is `0`
abbrev pub number : List ℕ → ℕ
number digits = fold (λ n digit. 10 * n + (digit - 48)) 0 digits

-- the numbers that the digits spell, even if the calendar has no such date
unfoldable pub spelled : List ℕ → CivilTime
spelled octets = record {
  year = number (take 4 octets);
  month = number (take 2 (drop 4 octets));
  day = number (take 2 (drop 6 octets));
  hour = number (take 2 (drop 8 octets));
  minute = number (take 2 (drop 10 octets));
  second = number (take 2 (drop 12 octets));
}

-- the two digits of a number below 100
abbrev pub two_digits : ℕ → List ℕ
two_digits n = (48 + n / 10) ∷ (48 + n % 10) ∷ []

-- the bytes of a date and time of day
unfoldable pub spelling : CivilTime → List ℕ
spelling t =
    two_digits (t.year / 100) ++ two_digits (t.year % 100)
    ++ two_digits t.month ++ two_digits t.day
    ++ two_digits t.hour ++ two_digits t.minute ++ two_digits t.second
    ++ 90 ∷ []
