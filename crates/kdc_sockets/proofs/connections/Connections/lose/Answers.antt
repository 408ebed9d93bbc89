use Rattle.std.proofs.Common.{None}
use Rattle.kdc_sockets.proofs.Counts.{fits_removed}
use Rattle.kdc_sockets.proofs.Spent.{calm_updated}
use Rattle.kdc_sockets.proofs.connections.Connections.lose.Goals as goal

pub invariant_of-self-clause-bounded : goal.invariant_of-self-clause-bounded
invariant_of-self-clause-bounded c = fits_removed c.args.self.now.held.entries c.remove.new.self.entries c.args.conn c.remove.ensures.entries c.args.self.now.bounded

pub invariant_of-self-clause-calm : goal.invariant_of-self-clause-calm
invariant_of-self-clause-calm c = λ calm. calm_updated c.args.self.now.held c.remove.new.self c.args.conn None c.remove.ensures.updates tt (c.args.self.now.calm calm)
