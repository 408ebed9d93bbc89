-- What two of a server's numbers are.
use Rattle.std.specs.Prelude.{ℕ, ℤ, pos, int_lt, unsigned_abs, if◌then◌else◌, Option, Some, None}
use Rattle.server_notices.specs.declared.clock_watch.Refused.{Refused}
use Rattle.server_notices.specs.declared.clock_watch.Refused.TheVariants.{All, ServedLater}

-- a second since 1970, or 0 for one before
abbrev pub second_of : ℤ → ℕ
second_of second = if int_lt second (pos 0) then 0 else unsigned_abs second

-- until when all TGS-REQs are refused after the start, or 0
abbrev pub refused_until : Option Refused → ℕ
refused_until (Some (All until)) = second_of until
refused_until (Some (ServedLater until)) = 0
refused_until None = 0
