use Rattle.std.proofs.Common.{rules, ◌≡◌, Some, None, true}
use Rattle.kdc_sockets.specs.Table.{held_at}
use Rattle.kdc_sockets.proofs.Counts.{count_gone, fits_removed}
use Rattle.kdc_sockets.proofs.Spent.{calm_updated}
use Rattle.kdc_sockets.proofs.connections.Connections.drop_closing.Goals as goal

pub invariant_of-self-clause-bounded : goal.invariant_of-self-clause-bounded
invariant_of-self-clause-bounded c = fits_removed c.args.self.now.held.entries c.remove.new.self.entries c.args.conn c.remove.ensures.entries c.args.self.now.bounded

pub returns-in-Some-clause-counted : goal.returns-in-Some-clause-counted
returns-in-Some-clause-counted c =
    let held : held_at c.args.self.now.held.entries c.args.conn ≡ Some c.in-Some.connection.now = search rules in
    let closing : c.in-Some.connection.now.is_closing ≡ true = search rules in
    count_gone c.args.self.now.held.entries c.remove.new.self.entries c.args.conn c.in-Some.connection.now held closing c.remove.ensures.entries

pub invariant_of-self-clause-calm : goal.invariant_of-self-clause-calm
invariant_of-self-clause-calm c = λ calm. calm_updated c.args.self.now.held c.remove.new.self c.args.conn None c.remove.ensures.updates tt (c.args.self.now.calm calm)
