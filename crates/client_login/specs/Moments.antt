-- The moments of a client's requests.
use Rattle.std.specs.Prelude.{◌≡◌, ◌≤◌, ℕ, zero, suc, ℤ, pos, ◌+◌, ◌+ℤ◌, nat_lt, int_lt, if◌then◌else◌}
use Rattle.krb_fields.specs.declared.moment.Moment.{Moment}

-- A microsecond later, in seconds and microseconds. The last moment of the year 9999 stays.

abbrev pub next_second : Moment → ℤ
next_second at =
    if nat_lt at.usec 999999 then at.sec
    else if int_lt at.sec (pos 253402300799) then at.sec +ℤ pos 1
    else at.sec

abbrev pub next_microsecond : Moment → ℕ
next_microsecond at =
    if nat_lt at.usec 999999 then at.usec + 1
    else if int_lt at.sec (pos 253402300799) then 0
    else at.usec

pub record IsNext (at next : Moment) : Type 0 where
  pub second : next.sec ≡ next_second at
  pub microsecond : next.usec ≡ next_microsecond at

-- this many moments later
abbrev pub IsLater : ℕ → Moment → Moment → Type 0
IsLater zero at later = later ≡ at
IsLater (suc n) at later = (next : Moment) × IsNext at next × IsLater n next later

-- The client's moment after a call: it was taken at most twice, for two requests.
pub record IsMoved (at after : Moment) : Type 0 where
  pub taken : ℕ
  pub few : taken ≤ 2
  pub later : IsLater taken at after
