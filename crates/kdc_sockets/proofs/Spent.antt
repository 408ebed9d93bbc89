-- None is spent: after one is written, dropped or added, and if a search finds none.
use Rattle.std.proofs.Common.{◌≡◌, ℕ, Bool, true, false, not, ◌&&◌, ◌||◌, cond, [], Option, Some, None, IfSome, refl, ap, ◌∙◌, sym, subst}
use Rattle.std.specs.Prelude.{IsSomeAnd}
use Rattle.std.specs.BTreeMap.{BTreeMap, IsOrdered, UpdatesBy, WritesThrough, is_at}
use Rattle.std.specs.List.{find}
use Rattle.std.specs.Map.Iter.{deref_pair}
use Rattle.std.specs.Option.{IsSome, option_map}
use Rattle.std.specs.Ordering.{nat_cmp}
use Rattle.std.proofs.lemmas.Cmp.{nat_cmp_total}
use Rattle.std.proofs.lemmas.Map.Entries.{place_from_lookup, btree_map_get_place}
use Rattle.kdc_hub.specs.declared.event.Event.{Event}
use Rattle.kdc_sockets.specs.declared.connection.Connection.{Connection}
use Rattle.kdc_sockets.specs.Given.{is_all_given, nothing_given}
use Rattle.kdc_sockets.specs.Table.{EndsSpent, EndsSpentFirst, IsSpent, MayBeRead, NoneSpent, Table, held_at, is_spent}
use Rattle.kdc_sockets.proofs.Idle.{Item}
use Rattle.kdc_sockets.proofs.Places.{fails_from_find, place_from_find}

by_place : (at : Bool) (w other : Option Connection) (connection : Connection) → cond at w other ≡ Some connection
    → IfSome w (λ v. is_spent v ≡ false) → (other ≡ Some connection → is_spent connection ≡ false)
    → is_spent connection ≡ false
by_place true None other connection held own calm = absurd (cc)
by_place true (Some v) other connection held own calm = let same : v ≡ connection = cc in subst (λ v. is_spent v ≡ false) same own
by_place false w other connection held own calm = calm held

-- One is written that is not spent, or dropped.
pub calm_updated : (m n : BTreeMap ℕ Connection) (conn : ℕ) (w : Option Connection)
    → UpdatesBy nat_cmp (nat_cmp conn) m n w → IfSome w (λ v. is_spent v ≡ false) → NoneSpent m.entries
    → NoneSpent n.entries
calm_updated m n conn w updates own calm = λ other connection held.
    by_place (is_at (nat_cmp conn) other) w (held_at m.entries other) connection (sym (updates.0 other) ∙ held) own (calm other connection)

-- The same, of one that is lent.
pub calm_lent : (m n : BTreeMap ℕ Connection) (conn : ℕ) (v w : Connection) → held_at m.entries conn ≡ Some v
    → WritesThrough nat_cmp (nat_cmp conn) m w n → is_spent w ≡ false → NoneSpent m.entries → NoneSpent n.entries
calm_lent m n conn v w held lent own calm =
    let had : IsSome (held_at m.entries conn) = subst (λ o. IsSome o) (sym held) refl in
    calm_updated m n conn (Some w) (lent.3 had) own calm

-- One that is closing is not spent,
pub closing_calm : (w : Connection) → w.is_closing ≡ true → is_spent w ≡ false
closing_calm w closing = ap (λ b. not b && is_all_given w.given) closing

-- and a new one is not,
pub new_calm : (w : Connection) → w.is_closing ≡ false → w.given ≡ nothing_given → is_spent w ≡ false
new_calm w live given = ap (λ b. not b && is_all_given w.given) live ∙ ap is_all_given given

-- and one that was given no more.
pub same_calm : (v w : Connection) → w.is_closing ≡ v.is_closing → w.given ≡ v.given → is_spent v ≡ false
    → is_spent w ≡ false
same_calm v w closing given calm =
    ap (λ b. not b && is_all_given w.given) closing ∙ ap (λ g. not v.is_closing && is_all_given g) given ∙ calm

pub neither : (a b : Bool) → (a || b) ≡ false → (a ≡ false) × (b ≡ false)
neither true b h = absurd (cc)
neither false b h = (refl, h)

abbrev pub is_spent_entry : ℕ × Connection → Bool
is_spent_entry entry = is_spent entry.1

-- What a search finds is spent.
pub found_spent : (m : BTreeMap ℕ Connection) → IsOrdered nat_cmp m → (found : Option Item) (y : Item)
    → found ≡ Some y → option_map deref_pair found ≡ find is_spent_entry m.entries → IsSpent m.entries y.0.now
found_spent m ordered found y is searched =
    let place = place_from_find is_spent_entry m.entries (deref_pair y) (sym searched ∙ ap (option_map deref_pair) is) in
    record {
      connection = y.1.now;
      held = btree_map_get_place nat_cmp_total m place.0.0 y.0.now y.1.now ordered place.0.1;
      spent = place.1;
    }

-- If it finds none, none is spent.
pub none_spent : (table : Table) (found : Option Item) → found ≡ None
    → option_map deref_pair found ≡ find is_spent_entry table → NoneSpent table
none_spent table found is searched = λ conn connection held.
    let stands = place_from_lookup (is_at (nat_cmp conn)) table connection held in
    fails_from_find is_spent_entry table (sym searched ∙ ap (option_map deref_pair) is) stands.0 (stands.1, connection) stands.2

-- If nothing came first, none was spent, and any event may come.
pub none_then : (old mid new : Table) (first : Option Event) (event : Event) → first ≡ None
    → EndsSpentFirst old first mid → EndsSpentFirst old (Some event) new
none_then old mid new first event none ends = λ conn spent.
    absurd (subst (λ f. IsSomeAnd f (λ e. EndsSpent old e mid)) none (ends conn spent))

second : (a b : Bool) → (not a && b) ≡ false → a ≡ false → b ≡ false
second true b h is = absurd (cc)
second false b h is = h

-- An open one that is not spent, and whose bytes are sent, may be read.
pub may_be_read : (table : Table) (conn : ℕ) (connection : Connection) → NoneSpent table
    → held_at table conn ≡ Some connection → connection.is_closing ≡ false → connection.unsent.items ≡ []
    → MayBeRead table conn
may_be_read table conn connection calm held live sent = record {
  connection = connection;
  held = held;
  live = live;
  given = second connection.is_closing (is_all_given connection.given) (calm conn connection held) live;
  sent = sent;
}
