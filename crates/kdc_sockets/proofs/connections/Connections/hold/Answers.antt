use Rattle.kdc_sockets.proofs.Taking.{takes_in_after}
use Rattle.kdc_sockets.proofs.connections.Connections.hold.Goals as goal

pub returns-clause-taken : goal.returns-clause-taken
returns-clause-taken c =
    let dropped = c.drop_oldest_closing.ensures in
    takes_in_after c.args.self.now.held.entries c.drop_oldest_closing.new.self.held.entries c.insert.new.self.held.entries c.drop_oldest_closing.new.self.next c.in_ok-closed.closed dropped.kept dropped.counted c.in_ok-closed.ensures.taken
