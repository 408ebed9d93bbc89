use Rattle.std.proofs.Common.{rules, ◌≡◌, Some, false, []}
use Rattle.kdc_sockets.specs.Table.{held_at}
use Rattle.kdc_sockets.proofs.Spent.{may_be_read}
use Rattle.kdc_sockets.proofs.socket_turns.SocketTurns.read.Goals as goal

pub returns-in-Ok-from_slice-clause-reads : goal.returns-in-Ok-from_slice-clause-reads
returns-in-Ok-from_slice-clause-reads g c =
    let held : held_at c.args.self.now.connections.held.entries c.args.conn ≡ Some c.in-Some.connection.now = search rules in
    let live : c.in-Some.connection.now.is_closing ≡ false = search rules in
    let sent : c.in-Some.connection.now.unsent.items ≡ [] = search rules in
    may_be_read c.args.self.now.connections.held.entries c.args.conn c.in-Some.connection.now (c.get.ensures.calm c.requires.calm) held live sent
