-- How the log writes times and lifetimes.
use Rattle.std.specs.Prelude.{ℕ, ℤ, ◌+◌, ◌/◌, ◌%◌, ◌-ℤ◌, ◌==◌, unsigned_abs, List, [], ◌∷◌, ◌++◌, codes, decimal}
use Rattle.std.specs.Prelude.{get_or, nat_lt}
use Rattle.std.specs.Prelude.{if◌then◌else◌}
use Rattle.krb_der.specs.Time.{time_octets}
use Rattle.ticket_times.specs.declared.times.Times.{Times}

-- the bytes of a KerberosTime with the punctuation of RFC 3339: `2026-11-23T22:46:18Z`
abbrev pub marked : List ℕ → List ℕ
marked o =
    get_or o 0 0 ∷ get_or o 1 0 ∷ get_or o 2 0 ∷ get_or o 3 0 ∷ 45 ∷ get_or o 4 0 ∷ get_or o 5 0 ∷ 45 ∷ get_or o 6 0
    ∷ get_or o 7 0 ∷ 84 ∷ get_or o 8 0 ∷ get_or o 9 0 ∷ 58 ∷ get_or o 10 0 ∷ get_or o 11 0 ∷ 58 ∷ get_or o 12 0 ∷
    get_or o 13 0 ∷ get_or o 14 0 ∷ []

-- a second as a date and time in UTC
abbrev pub date_text : ℤ → List ℕ
date_text sec = marked (time_octets sec)

-- hours and minutes
abbrev pub hours_text : ℕ → ℕ → List ℕ
hours_text hours minutes =
    if minutes == 0 then decimal hours ++ codes "h" else decimal hours ++ codes "h" ++ decimal minutes ++ codes "m"

-- seconds to the nearest minute
abbrev pub minutes_of : ℕ → ℕ
minutes_of seconds = if nat_lt (seconds % 60) 30 then seconds / 60 else seconds / 60 + 1

-- as `10h`, `7h30m` or `5m`; less than half a minute is in seconds
abbrev pub life_text : ℕ → List ℕ
life_text seconds =
    if minutes_of seconds == 0 then decimal seconds ++ codes "s"
    else if minutes_of seconds / 60 == 0 then decimal (minutes_of seconds % 60) ++ codes "m"
    else hours_text (minutes_of seconds / 60) (minutes_of seconds % 60)

-- the ticket's lifetime in seconds
abbrev pub valid_seconds : Times → ℕ
valid_seconds times = unsigned_abs (times.end -ℤ times.start)
