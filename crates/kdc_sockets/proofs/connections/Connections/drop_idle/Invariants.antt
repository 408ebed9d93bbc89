use Rattle.std.proofs.Common.{◌≡◌}
use Rattle.kdc_sockets.specs.Table.{KeepsOpen, OpensAlike}
use Rattle.kdc_sockets.proofs.connections.Connections.drop_idle.Given as goal

abbrev pub invariant-loop : goal.invariant-loop
invariant-loop l = record {
  alike : OpensAlike l.fn.self.held.entries l.self.held.entries;
  calm : l.self.has_spent ≡ l.fn.self.has_spent;
  kept : KeepsOpen l.fn.self.held.entries l.self.held.entries;
}
