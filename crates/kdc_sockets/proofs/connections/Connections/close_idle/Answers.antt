use Rattle.kdc_sockets.proofs.Waiting.{ended_before}
use Rattle.kdc_sockets.proofs.connections.Connections.close_idle.Goals as goal

pub returns-clause-waited : goal.returns-clause-waited
returns-clause-waited c =
    ended_before c.args.at c.args.self.now.held.entries c.drop_idle.new.self.held.entries c.close_one_idle.result c.drop_idle.ensures.kept c.close_one_idle.ensures.waited
