-- A connection that is closing goes first: what the accepted one then leaves is the same as without that.
use Rattle.std.proofs.Common.{◌≡◌, ℕ, ◌<◌, false, Option, Some, None, ◌∙◌, sym, subst}
use Rattle.kdc_hub.specs.Hub.{most_connections}
use Rattle.kdc_hub.specs.declared.event.Event.{Event}
use Rattle.kdc_sockets.specs.Table.{IsLongestIdle, KeepsOpen, KeepsOpenAt, Table, TakesIn, open_count}

-- The longest idle of the open ones was so before.
longest_before : (old mid : Table) (conn : ℕ) → KeepsOpen old mid → IsLongestIdle false mid conn → IsLongestIdle false old conn
longest_before old mid conn kept longest = record {
  connection = longest.connection;
  held = (kept conn longest.connection longest.closing).0 longest.held;
  closing = longest.closing;
  longest = λ other rival held live. longest.longest other rival ((kept other rival live).1 held) live;
  first = λ other rival held live. longest.first other rival ((kept other rival live).1 held) live;
}

keeps_at : (old mid new : Table) (conn : ℕ) → KeepsOpenAt old conn mid → KeepsOpenAt mid conn new → KeepsOpenAt old conn new
keeps_at old mid new conn before after = λ connection live.
    (λ held. (before connection live).0 ((after connection live).0 held), λ held. (after connection live).1 ((before connection live).1 held))

pub takes_in_after : (old mid new : Table) (conn : ℕ) (closed : Option Event) → KeepsOpen old mid → open_count mid ≡ open_count old → TakesIn mid conn closed new → TakesIn old conn closed new
takes_in_after old mid new conn None kept counted taken = record {
  had_place = subst (λ n. n < most_connections) counted taken.had_place;
  others = λ other apart. keeps_at old mid new other (kept other) (taken.others other apart);
}
takes_in_after old mid new conn (Some event) kept counted taken = record {
  was_full = sym counted ∙ taken.was_full;
  gone = taken.gone;
  event_is = taken.event_is;
  longest = longest_before old mid taken.gone kept taken.longest;
  ended = taken.ended;
  others = λ other apart stays. keeps_at old mid new other (kept other) (taken.others other apart stays);
}
