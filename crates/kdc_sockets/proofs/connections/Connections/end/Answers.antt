use Rattle.std.proofs.Common.{rules, ◌≡◌, Some, None, ap, ◌∙◌, sym, subst}
use Rattle.kdc_sockets.specs.Table.{NoneSpent, held_at}
use Rattle.kdc_sockets.proofs.Counts.{fits_closed, fits_removed, second_part}
use Rattle.std.specs.BTreeMap.{is_at}
use Rattle.std.specs.Map.{remove_entry}
use Rattle.std.specs.Ordering.{nat_cmp}
use Rattle.kdc_sockets.proofs.connections.Connections.end.Goals.{then-is_err-via-then-is_err, then-is_err-via-else-is_err+then-is_over}
use Rattle.kdc_sockets.proofs.Spent.{calm_lent, calm_updated, closing_calm}
use Rattle.kdc_sockets.proofs.connections.Connections.end.Goals as goal

pub invariant_of-self-else-is_over-clause-bounded : goal.invariant_of-self-else-is_over-clause-bounded
invariant_of-self-else-is_over-clause-bounded c =
    let held : held_at c.args.self.now.held.entries c.args.conn ≡ Some c.in_ok-connection.connection.now = search rules in
    fits_closed c.args.self.now.held (c.get_mut.follows.lender c.end.new.self) c.args.conn c.in_ok-connection.connection.now c.end.new.self held (c.get_mut.follows.holds c.end.new.self) c.end.ensures.closing c.args.self.now.bounded

pub invariant_of-self-then-is_err-clause-bounded : goal.invariant_of-self-then-is_err-clause-bounded
invariant_of-self-then-is_err-clause-bounded c =
    let held : held_at c.args.self.now.held.entries c.args.conn ≡ Some c.in_ok-connection.connection.now = search rules in
    let fits = fits_closed c.args.self.now.held (c.get_mut.follows.lender c.end.new.self) c.args.conn c.in_ok-connection.connection.now c.end.new.self held (c.get_mut.follows.holds c.end.new.self) c.end.ensures.closing c.args.self.now.bounded in
    let same : c.then-is_err.self.1.0 ≡ c.get_mut.follows.lender c.end.new.self =
    elim c.then-is_err.branch [ then-is_err-via-then-is_err w ↦ second_part _ _ w.self-is | then-is_err-via-else-is_err+then-is_over w ↦ second_part _ _ w.self-is ] in
    fits_removed (c.get_mut.follows.lender c.end.new.self).entries c.remove.new.self.entries c.args.conn (c.remove.ensures.entries ∙ ap (λ m. remove_entry (is_at (nat_cmp c.args.conn)) m.entries) same) fits

pub invariant_of-self-else-is_over-clause-calm : goal.invariant_of-self-else-is_over-clause-calm
invariant_of-self-else-is_over-clause-calm c =
    let held : held_at c.args.self.now.held.entries c.args.conn ≡ Some c.in_ok-connection.connection.now = search rules in
    λ calm. calm_lent c.args.self.now.held (c.get_mut.follows.lender c.end.new.self) c.args.conn c.in_ok-connection.connection.now c.end.new.self held (c.get_mut.follows.holds c.end.new.self) (closing_calm c.end.new.self c.end.ensures.closing) (c.args.self.now.calm calm)

pub invariant_of-self-then-is_err-clause-calm : goal.invariant_of-self-then-is_err-clause-calm
invariant_of-self-then-is_err-clause-calm c =
    let held : held_at c.args.self.now.held.entries c.args.conn ≡ Some c.in_ok-connection.connection.now = search rules in
    let same : c.then-is_err.self.1.0 ≡ c.get_mut.follows.lender c.end.new.self =
    elim c.then-is_err.branch [ then-is_err-via-then-is_err w ↦ second_part _ _ w.self-is | then-is_err-via-else-is_err+then-is_over w ↦ second_part _ _ w.self-is ] in
    λ calm. calm_updated c.then-is_err.self.1.0 c.remove.new.self c.args.conn None c.remove.ensures.updates tt
    (subst (λ m. NoneSpent m.entries) (sym same)
    (calm_lent c.args.self.now.held (c.get_mut.follows.lender c.end.new.self) c.args.conn c.in_ok-connection.connection.now c.end.new.self held (c.get_mut.follows.holds c.end.new.self) (closing_calm c.end.new.self c.end.ensures.closing) (c.args.self.now.calm calm)))
