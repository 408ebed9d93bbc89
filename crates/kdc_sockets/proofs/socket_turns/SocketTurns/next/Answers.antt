use Rattle.std.proofs.Common.{rules, ◌≡◌, None}
use Rattle.kdc_sockets.proofs.Looking.{looked_again, reports_ended}
use Rattle.kdc_sockets.proofs.socket_turns.SocketTurns.next.Goals as goal

pub returns-then-is_some-clause-first : goal.returns-then-is_some-clause-first
returns-then-is_some-clause-first g c =
    reports_ended c.args.self.now.connections.held.entries c.next_known.new.self.connections.held.entries c.in_ok-next.next.1 c.in_ok-next.ensures.first

pub returns-clause-first : goal.returns-clause-first
returns-clause-first g c =
    let none : c.in_ok-next.next.1 ≡ None = search rules in
    looked_again c.next_looked-2.result c.args.self.now.connections.held.entries c.next_known.new.self.connections.held.entries c.next_looked-2.new.self.connections.held.entries
    c.in_ok-next.next.1 none c.in_ok-next.ensures.first
