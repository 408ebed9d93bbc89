use Rattle.std.proofs.Common.{rules, ◌≡◌, Some, None, ◌||◌, ap, ◌∙◌, sym}
use Rattle.kdc_sockets.specs.Table.{held_at, is_spent}
use Rattle.kdc_sockets.proofs.Counts.{fits_same, fits_removed}
use Rattle.kdc_sockets.proofs.Writing.{written_through}
use Rattle.kdc_sockets.proofs.Spent.{calm_lent, calm_updated, neither}
use Rattle.kdc_sockets.proofs.connections.Connections.write.Goals as goal

pub invariant_of-self-else-is_err-clause-bounded : goal.invariant_of-self-else-is_err-clause-bounded
invariant_of-self-else-is_err-clause-bounded c =
    let held : held_at c.args.self.now.held.entries c.args.conn ≡ Some c.in-Some.connection.now = search rules in
    fits_same c.args.self.now.held (c.get_mut.follows.lender c.write-written.new.self) c.args.conn c.in-Some.connection.now c.write-written.new.self held (c.get_mut.follows.holds c.write-written.new.self) c.write-written.ensures.closing c.args.self.now.bounded

pub invariant_of-self-then-is_err-clause-bounded : goal.invariant_of-self-then-is_err-clause-bounded
invariant_of-self-then-is_err-clause-bounded c =
    let held : held_at c.args.self.now.held.entries c.args.conn ≡ Some c.in-Some.connection.now = search rules in
    let fits = fits_same c.args.self.now.held (c.get_mut.follows.lender c.write-written.new.self) c.args.conn c.in-Some.connection.now c.write-written.new.self held (c.get_mut.follows.holds c.write-written.new.self) c.write-written.ensures.closing c.args.self.now.bounded in
    fits_removed (c.get_mut.follows.lender c.write-written.new.self).entries c.remove.new.self.entries c.args.conn c.remove.ensures.entries fits

pub returns-else-is_err-clause-written : goal.returns-else-is_err-clause-written
returns-else-is_err-clause-written c =
    let held : held_at c.args.self.now.held.entries c.args.conn ≡ Some c.in-Some.connection.now = search rules in
    written_through c.args.self.now.held (c.get_mut.follows.lender c.write-written.new.self) c.args.conn c.in-Some.connection.now c.write-written.new.self c.args.message.now c.args.at c.write-written.result held (c.get_mut.follows.holds c.write-written.new.self) c.write-written.ensures.written c.write-written.ensures.given c.write-written.ensures.idle

pub invariant_of-self-else-is_err-clause-calm : goal.invariant_of-self-else-is_err-clause-calm
invariant_of-self-else-is_err-clause-calm c =
    let held : held_at c.args.self.now.held.entries c.args.conn ≡ Some c.in-Some.connection.now = search rules in
    λ calm. let parts = neither c.args.self.now.has_spent (is_spent c.write-written.new.self) (ap (λ b. c.args.self.now.has_spent || b) (sym c.is_spent.ensures) ∙ calm) in
    calm_lent c.args.self.now.held (c.get_mut.follows.lender c.write-written.new.self) c.args.conn c.in-Some.connection.now c.write-written.new.self held (c.get_mut.follows.holds c.write-written.new.self) parts.1 (c.args.self.now.calm parts.0)

pub invariant_of-self-then-is_err-clause-calm : goal.invariant_of-self-then-is_err-clause-calm
invariant_of-self-then-is_err-clause-calm c =
    let held : held_at c.args.self.now.held.entries c.args.conn ≡ Some c.in-Some.connection.now = search rules in
    λ calm. let parts = neither c.args.self.now.has_spent (is_spent c.write-written.new.self) (ap (λ b. c.args.self.now.has_spent || b) (sym c.is_spent.ensures) ∙ calm) in
    calm_updated (c.get_mut.follows.lender c.write-written.new.self) c.remove.new.self c.args.conn None c.remove.ensures.updates tt
    (calm_lent c.args.self.now.held (c.get_mut.follows.lender c.write-written.new.self) c.args.conn c.in-Some.connection.now c.write-written.new.self held (c.get_mut.follows.holds c.write-written.new.self) parts.1 (c.args.self.now.calm parts.0))
