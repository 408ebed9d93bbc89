-- How many requests were left unanswered because memory ran out, and how often that is said.
use Rattle.std.specs.Prelude.{ℕ, ◌+◌, ◌-◌, ◌^◌, Bool, true, false, ◌&&◌, nat_lt, Option, Some, None, min}
use Rattle.std.specs.Prelude.{if◌then◌else◌}
use Rattle.krb_fields.specs.declared.moment.Moment.{Moment}
use Rattle.kdc_hub.specs.declared.event.Action.{Action}
use Rattle.kdc_hub.specs.declared.event.Action.TheVariants.{SendTo, Pass, Write, Close}
use Rattle.kdc_hub.specs.declared.event.CloseReason.{CloseReason}
use Rattle.kdc_hub.specs.declared.event.CloseReason.TheVariants.{NoRequest, BadLength, Full, OutOfMemory}
use Rattle.kdc_hub.specs.declared.event.Event.{Event}
use Rattle.kdc_hub.specs.declared.event.Event.TheVariants.{Datagram, Opened, Bytes, Closed}
use Rattle.kdc_hub.specs.declared.wires.WireCall.{WireCall}
use Rattle.kdc_hub.specs.declared.wires.WireCall.TheVariants.{Polled, Waited, Missed, Acted, Failed}
use Rattle.server_notices.specs.Clocks.{is_due}
use Rattle.server_notices.specs.declared.unanswered.MemoryWatch.{MemoryWatch}

-- each datagram has one action, unless memory ran out
abbrev pub awaits_action : Event → Bool
awaits_action (Datagram peer request) = true
awaits_action (Opened conn) = false
awaits_action (Bytes conn piece) = false
awaits_action (Closed conn) = false

-- a sum, up to the greatest number
abbrev pub plus : ℕ → ℕ → ℕ
plus count more = min (count + more) (2 ^ 64 - 1)

-- the last event has had its actions, and this is known of the next one
abbrev pub settled : MemoryWatch → Bool → MemoryWatch
settled w awaits = record {
  awaits = awaits;
  count = if w.awaits then plus w.count 1 else w.count;
  reported = w.reported;
  said = w.said;
}

-- all that were left unanswered so far, with those that were lost before they were read
abbrev pub total : MemoryWatch → ℕ → ℕ
total w lost = plus (if w.awaits then plus w.count 1 else w.count) lost

-- there are more than were said: that is said at once, and then a minute after that
abbrev pub is_said : MemoryWatch → ℕ → Moment → Bool
is_said w lost at = nat_lt w.reported (total w lost) && is_due w.said at

abbrev pub said_at : MemoryWatch → ℕ → Moment → Option ℕ
said_at w lost at = if is_said w lost at then Some (total w lost - w.reported) else None

abbrev pub after_poll : MemoryWatch → ℕ → Moment → Bool → MemoryWatch
after_poll w lost at awaits = record {
  awaits = awaits;
  count = if w.awaits then plus w.count 1 else w.count;
  reported = if is_said w lost at then total w lost else w.reported;
  said = if is_said w lost at then Some at else w.said;
}

-- the end of a connection, for which memory ran out
abbrev pub after_close : MemoryWatch → CloseReason → MemoryWatch
after_close w NoRequest = w
after_close w BadLength = w
after_close w Full = w
after_close w OutOfMemory = record { awaits = w.awaits; count = plus w.count 1; reported = w.reported; said = w.said }

abbrev pub after_act : MemoryWatch → Action → MemoryWatch
after_act w (SendTo peer reply) = record { awaits = false; count = w.count; reported = w.reported; said = w.said }
after_act w (Pass peer) = record { awaits = false; count = w.count; reported = w.reported; said = w.said }
after_act w (Write conn reply) = w
after_act w (Close conn reason) = after_close w reason

-- The watch after something that a Wire did. This many requests were lost before they were read.
abbrev pub memory_after : ℕ → MemoryWatch → WireCall → MemoryWatch
memory_after lost w (Polled at event) = after_poll w lost at (awaits_action event)
memory_after lost w (Waited at) = after_poll w lost at false
memory_after lost w Missed = settled w false
memory_after lost w (Acted action) = after_act w action
memory_after lost w (Failed action) = after_act w action
