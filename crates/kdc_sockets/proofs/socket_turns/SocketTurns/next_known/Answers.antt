use Rattle.std.proofs.Common.{rules, ◌≡◌, None}
use Rattle.kdc_sockets.proofs.Spent.{none_then}
use Rattle.kdc_sockets.proofs.socket_turns.SocketTurns.next_known.Goals as goal

pub returns-in-Some-2-clause-first : goal.returns-in-Some-2-clause-first
returns-in-Some-2-clause-first g c =
    let none : c.take_first.result ≡ None = search rules in
    none_then c.args.self.now.connections.held.entries c.take_first.new.self.connections.held.entries c.take_turn.new.self.connections.held.entries c.take_first.result c.in-Some-2.event none c.take_first.ensures.first
