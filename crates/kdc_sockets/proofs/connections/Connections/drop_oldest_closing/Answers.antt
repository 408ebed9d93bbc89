use Rattle.std.proofs.Common.{arith}
use Rattle.kdc_sockets.proofs.Counts.{count_all}
use Rattle.kdc_sockets.proofs.connections.Connections.drop_oldest_closing.Goals as goal

pub returns-in_default-clause-room : goal.returns-in_default-clause-room
returns-in_default-clause-room c =
    omega (arith, count_all c.args.self.now.held.entries c.in_default.ensures.none, c.args.self.now.bounded)
