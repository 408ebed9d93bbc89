use Rattle.kdc_sockets.proofs.Looking.{looked}
use Rattle.kdc_sockets.proofs.socket_turns.SocketTurns.next_looked.Goals as goal

pub returns-clause-first : goal.returns-clause-first
returns-clause-first g c =
    looked c.next_known.result c.args.self.now.connections.held.entries c.look.new.self.connections.held.entries c.next_known.new.self.connections.held.entries
    c.in_ok-look.ensures.spent c.in_ok-look.ensures.alike c.next_known.ensures.first
