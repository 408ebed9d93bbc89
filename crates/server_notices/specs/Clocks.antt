-- Which TGS-REQs are refused because the clock shows an earlier time than before, until when, and how often that is
-- said.
use Rattle.std.specs.Prelude.{◌+◌, ◌*◌, ℤ, pos, ◌+ℤ◌, ◌-ℤ◌, Bool, true, false, int_lt, Option, Some, None, is_some}
use Rattle.std.specs.Prelude.{if◌then◌else◌}
use Rattle.krb_fields.specs.Skew.{skew}
use Rattle.krb_fields.specs.declared.moment.Moment.{Moment}
use Rattle.replay.specs.Tidied.{day}
use Rattle.kdc_hub.specs.Timer.{due_at}
use Rattle.kdc_hub.specs.declared.wires.WireCall.{WireCall}
use Rattle.kdc_hub.specs.declared.wires.WireCall.TheVariants.{Polled, Waited, Missed, Acted, Failed}
use Rattle.server_notices.specs.declared.clock_watch.ClockWatch.{ClockWatch}
use Rattle.server_notices.specs.declared.clock_watch.Refused.{Refused}
use Rattle.server_notices.specs.declared.clock_watch.Refused.TheVariants.{All, ServedLater}

-- what is refused right after a start: an authenticator below its floor may be a replay
abbrev pub refused_at_start : ℤ → ℤ → Option Refused
refused_at_start floor now = if int_lt now floor then Some (All floor) else None

-- The second until which all are refused after a start, if the clock shows an earlier time than the skew before it. Its
-- floor is then one second after the skew behind it, or earlier.
abbrev pub until_start : ℤ → ℤ → Option ℤ
until_start floor now = if int_lt (now +ℤ pos (2 * skew + 1)) floor then Some floor else None

-- the second up to which a tidying at the latest moment drops, if the clock shows an earlier one
abbrev pub until_tidied : Option Moment → ℤ → Option ℤ
until_tidied None now = None
until_tidied (Some latest) now =
    if int_lt now (latest.sec -ℤ pos day) then Some (latest.sec -ℤ pos day) else None

-- the floor of a client that was served at the latest moment, if the clock shows an earlier second
abbrev pub until_served : Option Moment → ℤ → Option ℤ
until_served None now = None
until_served (Some latest) now =
    if int_lt now (latest.sec -ℤ pos skew) then Some (latest.sec -ℤ pos skew) else None

-- the first of these that there is
abbrev pub first_refused : Option ℤ → Option ℤ → Option ℤ → Option Refused
first_refused (Some until) tidied served = Some (All until)
first_refused None (Some until) served = Some (All until)
first_refused None None (Some until) = Some (ServedLater until)
first_refused None None None = None

abbrev pub refused_at : ClockWatch → ℤ → Option Refused
refused_at w now =
    first_refused (until_start w.floor now) (until_tidied w.latest now) (until_served w.latest now)

-- it is said at once, and again after a minute; also where the clock went back behind the last time
abbrev pub is_due : Option Moment → Moment → Bool
is_due said now = is_some (due_at (pos 60) said (Some now))

abbrev pub if_due : Bool → Option Refused → Option Refused
if_due true refused = refused
if_due false refused = None

-- what is said at a moment
abbrev pub said_at : ClockWatch → Moment → Option Refused
said_at w now = if_due (is_due w.said now) (refused_at w now.sec)

abbrev pub later : Option Moment → Moment → Moment
later None now = now
later (Some latest) now = if int_lt latest.sec now.sec then now else latest

-- when it was said last; nothing was while nothing is refused
abbrev pub said_after : Option Moment → Option Refused → Moment → Option Moment
said_after said None now = None
said_after said (Some refused) now = if is_due said now then Some now else said

abbrev pub watched : ClockWatch → Moment → ClockWatch
watched w now = record {
  floor = w.floor;
  latest = Some (later w.latest now);
  said = said_after w.said (refused_at w now.sec) now;
}

-- the watch after something that a Wire did
abbrev pub clock_after : ClockWatch → WireCall → ClockWatch
clock_after w (Polled at event) = watched w at
clock_after w (Waited at) = watched w at
clock_after w Missed = w
clock_after w (Acted action) = w
clock_after w (Failed action) = w
