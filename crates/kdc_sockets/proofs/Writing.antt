-- What a write through a loan leaves of a connection.
use Rattle.std.proofs.Common.{◌≡◌, ◌++◌, ℕ, List, Some, Result, Ok, Err, OnOk, sym, subst, refl}
use Rattle.std.specs.BTreeMap.{BTreeMap, WritesThrough}
use Rattle.std.specs.Option.{IsSome}
use Rattle.std.specs.Ordering.{nat_cmp}
use Rattle.std.specs.declared.time.Instant.{Instant}
use Rattle.framing.specs.Stream.{framed}
use Rattle.kdc_sockets.specs.declared.connection.Connection.{Connection}
use Rattle.kdc_sockets.specs.Given.{given_more}
use Rattle.kdc_sockets.specs.Table.{IsWritten, held_at}
use Rattle.kdc_sockets.specs.Unsent.{IsLeftOf}

pub written_through : {E : Type 0} (m n : BTreeMap ℕ Connection) (conn : ℕ) (v w : Connection) (message : List ℕ) (at : Instant) (r : Result (Unit {0}) E) → held_at m.entries conn ≡ Some v → WritesThrough nat_cmp (nat_cmp conn) m w n → OnOk r (IsLeftOf (v.unsent.items ++ framed message) w.unsent.items) → OnOk r (w.given ≡ given_more v.given message) → w.idle_since ≡ at → OnOk r (IsWritten m.entries conn message at n.entries)
written_through m n conn v w message at (Ok done) held lent left given idle =
    let had : IsSome (held_at m.entries conn) = subst (λ o. IsSome o) (sym held) refl in
    record { before = v; after = w; was_held = held; is_held = (lent.3 had).1; left = left; given = given; idle = idle }
written_through m n conn v w message at (Err fault) held lent left given idle = tt
