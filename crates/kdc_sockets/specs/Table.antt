-- The table of connections, as its entries, and the events of their ends.
use Rattle.std.specs.Prelude.{◌≡◌, ◌≤◌, ◌<◌, ◌*◌, ◌-◌, ◌/◌, ◌++◌, ◌↔◌, ◌&&◌, ⊤, ℕ, nat_le, Bool, true, false, not}
use Rattle.std.specs.Prelude.{List, [], All, count_by, length, Option, Some, None, IsSomeAnd}
use Rattle.std.specs.Ordering.{nat_cmp}
use Rattle.std.specs.Map.{lookup, values_of}
use Rattle.std.specs.BTreeMap.{is_at}
use Rattle.std.specs.Time.{instant_nanos}
use Rattle.std.specs.declared.time.Instant.{Instant}
use Rattle.framing.specs.Stream.{framed}
use Rattle.kdc_hub.specs.Hub.{most_connections}
use Rattle.kdc_hub.specs.declared.event.Action.{Action}
use Rattle.kdc_hub.specs.declared.event.Action.TheVariants.{SendTo, Pass, Write, Close}
use Rattle.kdc_hub.specs.declared.event.Event.{Event}
use Rattle.kdc_hub.specs.declared.event.Event.TheVariants.{Datagram, Opened, Bytes, Closed}
use Rattle.kdc_sockets.specs.declared.connection.Connection.{Connection}
use Rattle.kdc_sockets.specs.declared.given.Given.{Given}
use Rattle.kdc_sockets.specs.Given.{given_more, is_all_given, nothing_given}
use Rattle.kdc_sockets.specs.Unsent.{IsLeftOf}

abbrev pub Table : Type 0
Table = List (ℕ × Connection)

-- the connection with a number, if it is held
abbrev pub held_at : Table → ℕ → Option Connection
held_at table conn = lookup (is_at (nat_cmp conn)) table

-- no connection has this number, or one above it
abbrev pub AreUnused : Table → ℕ → Type 0
AreUnused table next = (conn : ℕ) → next ≤ conn → held_at table conn ≡ None

abbrev pub opens : Option Connection → Bool
opens (Some connection) = not connection.is_closing
opens None = false

-- whether it is open: its end was not reported yet
abbrev pub is_open : Table → ℕ → Bool
is_open table conn = opens (held_at table conn)

-- how many connections are open
unfoldable pub open_count : Table → ℕ
open_count table = count_by (λ connection. not connection.is_closing) (values_of table)

-- one if it is true
abbrev pub count_if : Bool → ℕ
count_if true = 1
count_if false = 0

-- the hub has a place for each that is open
abbrev pub FitsHub : Table → Type 0
FitsHub table = open_count table ≤ most_connections

-- with the closing ones there are at most twice as many
abbrev pub AreFew : Table → Type 0
AreFew table = length table ≤ 2 * most_connections

-- each of them is closing, or each is open
abbrev pub AreAll : Bool → Table → Type 0
AreAll is_closing table = All (λ connection. connection.is_closing ≡ is_closing) (values_of table)

-- the moment since which it is idle, in nanoseconds of the clock
abbrev pub idle_since : Connection → ℕ
idle_since connection = instant_nanos connection.idle_since

-- Of the closing connections, or of the open ones, none has been idle for longer than this one. Of those that became
-- idle at the same moment it has the lowest number, so it was accepted first.
pub record IsLongestIdle (is_closing : Bool) (table : Table) (conn : ℕ) : Type 0 where
  pub connection : Connection
  pub held : held_at table conn ≡ Some connection
  pub closing : connection.is_closing ≡ is_closing
  pub longest : (other : ℕ) (rival : Connection) → held_at table other ≡ Some rival → rival.is_closing ≡ is_closing →
      idle_since connection ≤ idle_since rival
  pub first : (other : ℕ) (rival : Connection) → held_at table other ≡ Some rival → rival.is_closing ≡ is_closing →
      rival.idle_since ≡ connection.idle_since → conn ≤ other

-- whether it has been idle for 30 seconds, at a moment
abbrev pub has_waited : Instant → Connection → Bool
has_waited at connection = nat_le 30 ((instant_nanos at - idle_since connection) / 1_000_000_000)

-- this connection is closing, or open, and has been idle for 30 seconds
pub record Waits (is_closing : Bool) (at : Instant) (table : Table) (conn : ℕ) : Type 0 where
  pub connection : Connection
  pub held : held_at table conn ≡ Some connection
  pub closing : connection.is_closing ≡ is_closing
  pub waited : has_waited at connection ≡ true

-- none that is closing, or open, has been idle for 30 seconds
abbrev pub NoneWaits : Bool → Instant → Table → Type 0
NoneWaits is_closing at table =
    (conn : ℕ) (connection : Connection) → held_at table conn ≡ Some connection → connection.is_closing ≡ is_closing →
    has_waited at connection ≡ false

-- whether it is open, and was given all that a connection is given
abbrev pub is_spent : Connection → Bool
is_spent connection = not connection.is_closing && is_all_given connection.given

-- this connection is spent
pub record IsSpent (table : Table) (conn : ℕ) : Type 0 where
  pub connection : Connection
  pub held : held_at table conn ≡ Some connection
  pub spent : is_spent connection ≡ true

-- none is spent
abbrev pub NoneSpent : Table → Type 0
NoneSpent table =
    (conn : ℕ) (connection : Connection) → held_at table conn ≡ Some connection → is_spent connection ≡ false

-- An open connection that may be read: it was given less than what a connection is given, and its socket has taken all
-- of that.
pub record MayBeRead (table : Table) (conn : ℕ) : Type 0 where
  pub connection : Connection
  pub held : held_at table conn ≡ Some connection
  pub live : connection.is_closing ≡ false
  pub given : is_all_given connection.given ≡ false
  pub sent : connection.unsent.items ≡ []

-- a piece that is polled was read from a connection that may be read
abbrev pub IsReadFrom : Table → Option Event → Type 0
IsReadFrom table None = ⊤
IsReadFrom table (Some (Datagram peer request)) = ⊤
IsReadFrom table (Some (Opened conn)) = ⊤
IsReadFrom table (Some (Bytes conn piece)) = MayBeRead table conn
IsReadFrom table (Some (Closed conn)) = ⊤

-- the end of a connection is reported if it was open
abbrev pub closed_if : Bool → ℕ → Option Event
closed_if true conn = Some (Closed conn)
closed_if false conn = None

-- no other connection has changed
abbrev pub KeepsOthers : Table → ℕ → Table → Type 0
KeepsOthers old conn new = (other : ℕ) → (other ≡ conn → ⊥) → held_at new other ≡ held_at old other

-- no connection is added
abbrev pub AddsNone : Table → Table → Type 0
AddsNone old new = (conn : ℕ) → held_at old conn ≡ None → held_at new conn ≡ None

-- what an end leaves: the connection is open no longer
pub record HasEnded (old : Table) (conn : ℕ) (new : Table) : Type 0 where
  pub ended : is_open new conn ≡ false
  pub others : KeepsOthers old conn new

-- the same connections are open
abbrev pub OpensAlike : Table → Table → Type 0
OpensAlike old new = (conn : ℕ) → is_open new conn ≡ is_open old conn

-- under this number the same connection is open, as it was, or none
abbrev pub KeepsOpenAt : Table → ℕ → Table → Type 0
KeepsOpenAt old conn new =
    (connection : Connection) → connection.is_closing ≡ false →
    (held_at new conn ≡ Some connection) ↔ (held_at old conn ≡ Some connection)

-- the same connections are open, each as it was
abbrev pub KeepsOpen : Table → Table → Type 0
KeepsOpen old new = (conn : ℕ) → KeepsOpenAt old conn new

-- An accepted connection for which there is a place: all others that are open stay as they were.
pub record Joins (old : Table) (conn : ℕ) (new : Table) : Type 0 where
  pub had_place : open_count old < most_connections
  pub others : (other : ℕ) → (other ≡ conn → ⊥) → KeepsOpenAt old other new

-- An accepted connection for which there is none: the open one that has been idle longest ends, and all others that are
-- open stay as they were.
pub record Replaces (old : Table) (conn : ℕ) (event : Event) (new : Table) : Type 0 where
  pub was_full : open_count old ≡ most_connections
  pub gone : ℕ
  pub event_is : event ≡ Closed gone
  pub longest : IsLongestIdle false old gone
  pub ended : is_open new gone ≡ false
  pub others : (other : ℕ) → (other ≡ conn → ⊥) → (other ≡ gone → ⊥) → KeepsOpenAt old other new

-- what an accepted connection leaves, and the end that it reports
abbrev pub TakesIn : Table → ℕ → Option Event → Table → Type 0
TakesIn old conn None new = Joins old conn new
TakesIn old conn (Some event) new = Replaces old conn event new

-- an end that is reported: of a connection that was open, and of no other
pub record EndsOne (old : Table) (event : Event) (new : Table) : Type 0 where
  pub conn : ℕ
  pub event_is : event ≡ Closed conn
  pub was_open : is_open old conn ≡ true
  pub ended : is_open new conn ≡ false

-- the end is of an open connection that had been idle for 30 seconds
pub record EndsWaiting (at : Instant) (old : Table) (event : Event) : Type 0 where
  pub conn : ℕ
  pub event_is : event ≡ Closed conn
  pub waits : Waits false at old conn

-- The end is of a spent connection, and no other has changed.
pub record EndsSpent (old : Table) (event : Event) (new : Table) : Type 0 where
  pub conn : ℕ
  pub event_is : event ≡ Closed conn
  pub spent : IsSpent old conn
  pub ended : is_open new conn ≡ false
  pub others : KeepsOthers old conn new

-- While a connection is spent, nothing is polled but the end of one that is.
abbrev pub EndsSpentFirst : Table → Option Event → Table → Type 0
EndsSpentFirst old event new = (conn : ℕ) → IsSpent old conn → IsSomeAnd event (λ event. EndsSpent old event new)

-- the same connections are spent
abbrev pub SpentAlike : Table → Table → Type 0
SpentAlike old new = (conn : ℕ) → (IsSpent old conn → IsSpent new conn) × (IsSpent new conn → IsSpent old conn)

-- The end is of a spent connection, and all others are open as before. What these have still to send may have gone to
-- their sockets meanwhile.
pub record ReportsSpent (old : Table) (event : Event) (new : Table) : Type 0 where
  pub conn : ℕ
  pub event_is : event ≡ Closed conn
  pub spent : IsSpent old conn
  pub ended : is_open new conn ≡ false
  pub others : (other : ℕ) → (other ≡ conn → ⊥) → is_open new other ≡ is_open old other

-- While a connection is spent, nothing is polled but the end of one that is.
abbrev pub ReportsSpentFirst : Table → Option Event → Table → Type 0
ReportsSpentFirst old event new = (conn : ℕ) → IsSpent old conn → IsSomeAnd event (λ event. ReportsSpent old event new)

-- it was given this so far, if it is held
abbrev pub IsGiven : Table → ℕ → Given → Type 0
IsGiven table conn given =
    (connection : Connection) → held_at table conn ≡ Some connection → connection.given ≡ given

abbrev pub IsGivenNothing : Table → ℕ → Type 0
IsGivenNothing table conn = IsGiven table conn nothing_given

-- it is idle since a moment, if it is held
abbrev pub IsIdleSince : Table → ℕ → Instant → Type 0
IsIdleSince table conn at =
    (connection : Connection) → held_at table conn ≡ Some connection → connection.idle_since ≡ at

-- What a write leaves of a connection. What was unsent, and then the message after its length, went to its socket from
-- the front on, and what the socket has not taken is kept. The reply is counted. It is idle since then.
pub record IsWritten (old : Table) (conn : ℕ) (message : List ℕ) (at : Instant) (new : Table) : Type 0 where
  pub before : Connection
  pub after : Connection
  pub was_held : held_at old conn ≡ Some before
  pub is_held : held_at new conn ≡ Some after
  pub left : IsLeftOf (before.unsent.items ++ framed message) after.unsent.items
  pub given : after.given ≡ given_more before.given message
  pub idle : after.idle_since ≡ at

-- what an action leaves of its own connection
abbrev pub IsDone : Action → Instant → Table → Table → Type 0
IsDone (SendTo peer reply) at old new = ⊤
IsDone (Pass peer) at old new = ⊤
IsDone (Write conn reply) at old new = IsWritten old conn reply.message at new
IsDone (Close conn reason) at old new = is_open new conn ≡ false

-- if it fails, its connection is dropped
abbrev pub IsLost : Option ℕ → Table → Type 0
IsLost None new = ⊤
IsLost (Some conn) new = held_at new conn ≡ None

-- an action changes its own connection and no other
abbrev pub KeepsOtherConnections : Option ℕ → Table → Table → Type 0
KeepsOtherConnections None old new = new ≡ old
KeepsOtherConnections (Some conn) old new = KeepsOthers old conn new
