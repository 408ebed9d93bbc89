use Rattle.kdc_sockets.proofs.Counts.{none_open}
use Rattle.kdc_sockets.proofs.connections.Connections.to_evict.Goals as goal

pub returns-clause-none : goal.returns-clause-none
returns-clause-none c = none_open c.longest_idle.result c.args.self.now.held.entries c.longest_idle.ensures.none
