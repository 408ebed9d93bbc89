use Rattle.std.proofs.Common.{rules, ◌≡◌, Some, None, ap, ◌∙◌, sym, subst}
use Rattle.std.specs.BTreeMap.{is_at}
use Rattle.std.specs.Map.{remove_entry}
use Rattle.std.specs.Ordering.{nat_cmp}
use Rattle.kdc_sockets.specs.Table.{NoneSpent, held_at}
use Rattle.kdc_sockets.proofs.Counts.{count_closed, count_dropped}
use Rattle.kdc_sockets.proofs.connections.close_held.Goals.{then-is_err-via-then-is_err, then-is_err-via-else-is_err+then-is_over}
use Rattle.kdc_sockets.proofs.Spent.{calm_lent, calm_updated, closing_calm}
use Rattle.kdc_sockets.proofs.connections.close_held.Goals as goal

pub returns-then-is_err-clause-counted : goal.returns-then-is_err-clause-counted
returns-then-is_err-clause-counted c =
    let held : held_at c.args.held.now.entries c.args.conn ≡ Some c.in-Some.connection.now = search rules in
    let lent = c.get_mut.follows.holds c.close.new.self in
    let same : c.then-is_err.held ≡ c.get_mut.follows.lender c.close.new.self =
    elim c.then-is_err.branch [ then-is_err-via-then-is_err w ↦ w.held-is | then-is_err-via-else-is_err+then-is_over w ↦ w.held-is ] in
    count_dropped c.args.held.now (c.get_mut.follows.lender c.close.new.self) c.remove.new.self.entries c.args.conn c.in-Some.connection.now c.close.new.self held lent c.close.ensures.closing
    (c.remove.ensures.entries ∙ ap (λ m. remove_entry (is_at (nat_cmp c.args.conn)) m.entries) same)

pub returns-else-is_over-clause-counted : goal.returns-else-is_over-clause-counted
returns-else-is_over-clause-counted c =
    let held : held_at c.args.held.now.entries c.args.conn ≡ Some c.in-Some.connection.now = search rules in
    count_closed c.args.held.now (c.get_mut.follows.lender c.close.new.self) c.args.conn c.in-Some.connection.now c.close.new.self held (c.get_mut.follows.holds c.close.new.self) c.close.ensures.closing

pub returns-then-is_err-clause-calm : goal.returns-then-is_err-clause-calm
returns-then-is_err-clause-calm c =
    let held : held_at c.args.held.now.entries c.args.conn ≡ Some c.in-Some.connection.now = search rules in
    let same : c.then-is_err.held ≡ c.get_mut.follows.lender c.close.new.self =
    elim c.then-is_err.branch [ then-is_err-via-then-is_err w ↦ w.held-is | then-is_err-via-else-is_err+then-is_over w ↦ w.held-is ] in
    λ calm. calm_updated c.then-is_err.held c.remove.new.self c.args.conn None c.remove.ensures.updates tt
    (subst (λ m. NoneSpent m.entries) (sym same) (calm_lent c.args.held.now (c.get_mut.follows.lender c.close.new.self) c.args.conn c.in-Some.connection.now c.close.new.self held (c.get_mut.follows.holds c.close.new.self) (closing_calm c.close.new.self c.close.ensures.closing) calm))

pub returns-else-is_over-clause-calm : goal.returns-else-is_over-clause-calm
returns-else-is_over-clause-calm c =
    let held : held_at c.args.held.now.entries c.args.conn ≡ Some c.in-Some.connection.now = search rules in
    λ calm. calm_lent c.args.held.now (c.get_mut.follows.lender c.close.new.self) c.args.conn c.in-Some.connection.now c.close.new.self held (c.get_mut.follows.holds c.close.new.self) (closing_calm c.close.new.self c.close.ensures.closing) calm
