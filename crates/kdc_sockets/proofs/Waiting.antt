-- Which connection has waited for too long.
use Rattle.std.proofs.Common.{◌≡◌, ℕ, Bool, true, false, ◌&&◌, Option, Some, None, IfSome, refl, ap, ◌∙◌, sym}
use Rattle.std.specs.Bool.{beq}
use Rattle.std.specs.BTreeMap.{BTreeMap, IsOrdered, is_at}
use Rattle.std.specs.List.{find}
use Rattle.std.specs.Map.Iter.{deref_pair}
use Rattle.std.specs.Option.{option_map}
use Rattle.std.specs.Ordering.{nat_cmp}
use Rattle.std.specs.declared.time.Instant.{Instant}
use Rattle.std.proofs.lemmas.Cmp.{nat_cmp_total}
use Rattle.std.proofs.lemmas.Map.Entries.{place_from_lookup, btree_map_get_place}
use Rattle.kdc_hub.specs.declared.event.Event.{Event}
use Rattle.kdc_sockets.specs.declared.connection.Connection.{Connection}
use Rattle.kdc_sockets.specs.Table.{EndsWaiting, KeepsOpen, NoneWaits, Table, Waits, has_waited}
use Rattle.kdc_sockets.proofs.Idle.{Item, beq_itself, same_bool}
use Rattle.kdc_sockets.proofs.Places.{fails_from_find, place_from_find}

-- whether an entry is among the closing ones, or the open ones, and has waited
abbrev pub is_waiting : Bool → Instant → ℕ × Connection → Bool
is_waiting closing at entry = beq entry.1.is_closing closing && has_waited at entry.1

both : (a b : Bool) → (a && b) ≡ true → (a ≡ true) × (b ≡ true)
both true b h = (refl, h)
both false b h = absurd (cc)

second : (a b : Bool) → (a && b) ≡ false → a ≡ true → b ≡ false
second true b h is = h
second false b h is = absurd (cc)

-- What a search finds waits.
pub found_waits : (closing : Bool) (at : Instant) (m : BTreeMap ℕ Connection) → IsOrdered nat_cmp m → (found : Option Item) (y : Item) → found ≡ Some y → option_map deref_pair found ≡ find (is_waiting closing at) m.entries → Waits closing at m.entries y.0.now
found_waits closing at m ordered found y is searched =
    let place = place_from_find (is_waiting closing at) m.entries (deref_pair y) (sym searched ∙ ap (option_map deref_pair) is) in
    let passed = both (beq y.1.now.is_closing closing) (has_waited at y.1.now) place.1 in
    record {
      connection = y.1.now;
      held = btree_map_get_place nat_cmp_total m place.0.0 y.0.now y.1.now ordered place.0.1;
      closing = same_bool y.1.now.is_closing closing passed.0;
      waited = passed.1;
    }

-- If it finds none, none waits.
pub none_waits : (closing : Bool) (at : Instant) (table : Table) (found : Option Item) → found ≡ None → option_map deref_pair found ≡ find (is_waiting closing at) table → NoneWaits closing at table
none_waits closing at table found is searched = λ conn connection held among.
    let stands = place_from_lookup (is_at (nat_cmp conn)) table connection held in
    let failed = fails_from_find (is_waiting closing at) table (sym searched ∙ ap (option_map deref_pair) is) stands.0 (stands.1, connection) stands.2 in
    second (beq connection.is_closing closing) (has_waited at connection) failed (beq_itself connection.is_closing closing among)

-- It waited before others were dropped that were closing.
pub waits_before : (at : Instant) (old mid : Table) (conn : ℕ) → KeepsOpen old mid → Waits false at mid conn → Waits false at old conn
waits_before at old mid conn kept waits = record {
  connection = waits.connection;
  held = (kept conn waits.connection waits.closing).0 waits.held;
  closing = waits.closing;
  waited = waits.waited;
}

pub ended_before : (at : Instant) (old mid : Table) (found : Option Event) → KeepsOpen old mid → IfSome found (EndsWaiting at mid) → IfSome found (EndsWaiting at old)
ended_before at old mid None kept ends = tt
ended_before at old mid (Some event) kept ends = record { conn = ends.conn; event_is = ends.event_is; waits = waits_before at old mid ends.conn kept ends.waits }

-- What is kept twice is kept.
pub keeps_later : (old mid new : Table) → KeepsOpen old mid → KeepsOpen mid new → KeepsOpen old new
keeps_later old mid new before after = λ conn connection live.
    (λ held. (before conn connection live).0 ((after conn connection live).0 held), λ held. (after conn connection live).1 ((before conn connection live).1 held))
