use Rattle.std.proofs.Common.{◌≡◌, false}
use Rattle.kdc_sockets.proofs.socket_turns.SocketTurns.next_known.Given as goal

abbrev pub invariant-loop : goal.invariant-loop
invariant-loop g l = record {
  calm : l.self.connections.has_spent ≡ false;
}
