use Rattle.std.proofs.Common.{◌≡◌, false}
use Rattle.kdc_sockets.specs.Unsent.{IsLeftOf}
use Rattle.kdc_sockets.proofs.connection.Connection.send.Given as goal

abbrev pub invariant-loop : goal.invariant-loop
invariant-loop l = record {
  closing : l.self.is_closing ≡ l.fn.self.is_closing;
  given : l.self.given ≡ l.fn.self.given;
  peer : l.self.peer ≡ l.fn.self.peer;
  idle : l.fn.self.is_closing ≡ false → l.self.idle_since ≡ l.fn.self.idle_since;
  idle_at : l.fn.self.idle_since ≡ l.at → l.self.idle_since ≡ l.at;
  left : IsLeftOf l.fn.self.unsent.items l.self.unsent.items;
}
