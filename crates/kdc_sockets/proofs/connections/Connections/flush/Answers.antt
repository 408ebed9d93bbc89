use Rattle.std.proofs.Common.{rules, ◌≡◌, Some, None}
use Rattle.kdc_sockets.specs.Table.{held_at}
use Rattle.kdc_sockets.proofs.Counts.{fits_same, fits_removed}
use Rattle.kdc_sockets.proofs.Spent.{calm_lent, calm_updated, same_calm}
use Rattle.kdc_sockets.proofs.connections.Connections.flush.Goals as goal

pub invariant_of-self-else-is_err-clause-bounded : goal.invariant_of-self-else-is_err-clause-bounded
invariant_of-self-else-is_err-clause-bounded c =
    let held : held_at c.args.self.now.held.entries c.args.conn ≡ Some c.in-Some.connection.now = search rules in
    fits_same c.args.self.now.held (c.get_mut.follows.lender c.flush-flushed.new.self) c.args.conn c.in-Some.connection.now c.flush-flushed.new.self held (c.get_mut.follows.holds c.flush-flushed.new.self) c.flush-flushed.ensures.closing c.args.self.now.bounded

pub invariant_of-self-else-is_closing-clause-bounded : goal.invariant_of-self-else-is_closing-clause-bounded
invariant_of-self-else-is_closing-clause-bounded c =
    let held : held_at c.args.self.now.held.entries c.args.conn ≡ Some c.in-Some.connection.now = search rules in
    fits_same c.args.self.now.held (c.get_mut.follows.lender c.flush-flushed.new.self) c.args.conn c.in-Some.connection.now c.flush-flushed.new.self held (c.get_mut.follows.holds c.flush-flushed.new.self) c.flush-flushed.ensures.closing c.args.self.now.bounded

pub invariant_of-self-then-is_err-clause-bounded : goal.invariant_of-self-then-is_err-clause-bounded
invariant_of-self-then-is_err-clause-bounded c =
    let held : held_at c.args.self.now.held.entries c.args.conn ≡ Some c.in-Some.connection.now = search rules in
    let fits = fits_same c.args.self.now.held (c.get_mut.follows.lender c.flush-flushed.new.self) c.args.conn c.in-Some.connection.now c.flush-flushed.new.self held (c.get_mut.follows.holds c.flush-flushed.new.self) c.flush-flushed.ensures.closing c.args.self.now.bounded in
    fits_removed (c.get_mut.follows.lender c.flush-flushed.new.self).entries c.remove.new.self.entries c.args.conn c.remove.ensures.entries fits

pub invariant_of-self-else-is_err-clause-calm : goal.invariant_of-self-else-is_err-clause-calm
invariant_of-self-else-is_err-clause-calm c =
    let held : held_at c.args.self.now.held.entries c.args.conn ≡ Some c.in-Some.connection.now = search rules in
    λ calm. calm_lent c.args.self.now.held (c.get_mut.follows.lender c.flush-flushed.new.self) c.args.conn c.in-Some.connection.now c.flush-flushed.new.self held (c.get_mut.follows.holds c.flush-flushed.new.self)
    (same_calm c.in-Some.connection.now c.flush-flushed.new.self c.flush-flushed.ensures.closing c.flush-flushed.ensures.given (c.args.self.now.calm calm c.args.conn c.in-Some.connection.now held)) (c.args.self.now.calm calm)

pub invariant_of-self-else-is_closing-clause-calm : goal.invariant_of-self-else-is_closing-clause-calm
invariant_of-self-else-is_closing-clause-calm c =
    let held : held_at c.args.self.now.held.entries c.args.conn ≡ Some c.in-Some.connection.now = search rules in
    λ calm. calm_lent c.args.self.now.held (c.get_mut.follows.lender c.flush-flushed.new.self) c.args.conn c.in-Some.connection.now c.flush-flushed.new.self held (c.get_mut.follows.holds c.flush-flushed.new.self)
    (same_calm c.in-Some.connection.now c.flush-flushed.new.self c.flush-flushed.ensures.closing c.flush-flushed.ensures.given (c.args.self.now.calm calm c.args.conn c.in-Some.connection.now held)) (c.args.self.now.calm calm)

pub invariant_of-self-then-is_err-clause-calm : goal.invariant_of-self-then-is_err-clause-calm
invariant_of-self-then-is_err-clause-calm c =
    let held : held_at c.args.self.now.held.entries c.args.conn ≡ Some c.in-Some.connection.now = search rules in
    λ calm. calm_updated (c.get_mut.follows.lender c.flush-flushed.new.self) c.remove.new.self c.args.conn None c.remove.ensures.updates tt
    (calm_lent c.args.self.now.held (c.get_mut.follows.lender c.flush-flushed.new.self) c.args.conn c.in-Some.connection.now c.flush-flushed.new.self held (c.get_mut.follows.holds c.flush-flushed.new.self)
    (same_calm c.in-Some.connection.now c.flush-flushed.new.self c.flush-flushed.ensures.closing c.flush-flushed.ensures.given (c.args.self.now.calm calm c.args.conn c.in-Some.connection.now held)) (c.args.self.now.calm calm))
