use Rattle.std.proofs.Common.{rules, tests, sym, subst, IfNone}
use Rattle.std.proofs.lemmas.Iterator.Consumers.{YieldsList-from_rest}
use Rattle.std.proofs.lemmas.Iterator.Search.{find_from_yields_List}
use Rattle.kdc_sockets.specs.Table.{NoneSpent}
use Rattle.kdc_sockets.proofs.Spent.{found_spent, is_spent_entry, none_spent}
use Rattle.kdc_sockets.proofs.connections.Connections.spent.Goals as goal

pub returns-clause-spent : goal.returns-clause-spent
returns-clause-spent c =
    found_spent c.args.self.now.held c.iter.ensures.ordered c.find.result (c.in_ok-conn.conn, c.in_ok-conn.field-0-1) c.in_ok-conn.was
    (find_from_yields_List is_spent_entry _ _ _ c.find.ensures.ran (YieldsList-from_rest _ c.iter.ensures.rest) (λ x b q k. search (rules, tests)))

pub returns-in_err-conn-clause-none : goal.returns-in_err-conn-clause-none
returns-in_err-conn-clause-none c =
    subst (λ found. IfNone found (NoneSpent c.args.self.now.held.entries)) (sym c.from_residual.ensures)
    (none_spent c.args.self.now.held.entries c.find.result c.in_err-conn.was
    (find_from_yields_List is_spent_entry _ _ _ c.find.ensures.ran (YieldsList-from_rest _ c.iter.ensures.rest) (λ x b q k. search (rules, tests))))
