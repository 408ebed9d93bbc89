use Rattle.std.proofs.Common.{rules, ◌≡◌, arith, ap, not, true, Some}
use Rattle.kdc_sockets.specs.Table.{count_if, is_open}
use Rattle.kdc_sockets.proofs.Counts.{count_if_le, count_inserted}
use Rattle.kdc_sockets.proofs.Spent.{calm_updated, new_calm}
use Rattle.kdc_sockets.proofs.connections.Connections.insert.Goals as goal

pub invariant_of-self-in_default-clause-bounded : goal.invariant_of-self-in_default-clause-bounded
invariant_of-self-in_default-clause-bounded c =
    let counted = count_inserted c.args.self.now.held c.insert.new.self c.args.conn c.args.connection c.insert.ensures.was_ordered c.requires.unused c.in_ok-insert.ensures.entries in
    omega (arith, counted, count_if_le (not c.args.connection.is_closing), c.in_default.ensures.none)

pub invariant_of-self-2-clause-bounded : goal.invariant_of-self-2-clause-bounded
invariant_of-self-2-clause-bounded c =
    let counted = count_inserted c.args.self.now.held c.insert.new.self c.args.conn c.args.connection c.insert.ensures.was_ordered c.requires.unused c.in_ok-insert.ensures.entries in
    let live : is_open c.insert.new.self.entries c.in-Some.oldest ≡ true = search rules in
    let one : count_if (is_open c.insert.new.self.entries c.in-Some.oldest) ≡ 1 = ap count_if live in
    omega (arith, counted, one, c.close_held.ensures.counted, count_if_le (not c.args.connection.is_closing), c.args.self.now.bounded)

pub invariant_of-self-in_default-clause-calm : goal.invariant_of-self-in_default-clause-calm
invariant_of-self-in_default-clause-calm c = λ calm.
    calm_updated c.args.self.now.held c.insert.new.self c.args.conn (Some c.args.connection) c.in_ok-insert.ensures.updates (new_calm c.args.connection c.requires.open c.requires.given) (c.args.self.now.calm calm)

pub invariant_of-self-2-clause-calm : goal.invariant_of-self-2-clause-calm
invariant_of-self-2-clause-calm c = λ calm.
    c.close_held.ensures.calm (calm_updated c.args.self.now.held c.insert.new.self c.args.conn (Some c.args.connection) c.in_ok-insert.ensures.updates (new_calm c.args.connection c.requires.open c.requires.given) (c.args.self.now.calm calm))
