use Rattle.kdc_sockets.specs.Table.{OpensAlike, SpentAlike, Table}
use Rattle.kdc_sockets.proofs.socket_turns.SocketTurns.look.Given as goal

-- While the events of the poll are lent, the fields of the sockets stand alone, one in the other: the connections are
-- the fifth.
abbrev pub invariant-loop-event : goal.invariant-loop-event
invariant-loop-event g l =
    let before : Table = l.fn.self.connections.held.entries in
    let after : Table = l.self.1.1.1.1.0.held.entries in
    record {
      spent : SpentAlike before after;
      alike : OpensAlike before after;
    }
