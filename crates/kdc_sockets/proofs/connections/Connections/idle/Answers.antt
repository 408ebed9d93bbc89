use Rattle.std.proofs.Common.{rules, tests, sym, subst, IfNone}
use Rattle.std.proofs.lemmas.Iterator.Consumers.{YieldsList-from_rest}
use Rattle.std.proofs.lemmas.Iterator.Search.{find_from_yields_List}
use Rattle.kdc_sockets.specs.Table.{NoneWaits}
use Rattle.kdc_sockets.proofs.Waiting.{found_waits, is_waiting, none_waits}
use Rattle.kdc_sockets.proofs.connections.Connections.idle.Goals as goal

pub returns-clause-waits : goal.returns-clause-waits
returns-clause-waits c =
    found_waits c.args.is_closing c.args.at c.args.self.now.held c.iter.ensures.ordered c.find.result (c.in_ok-conn.conn, c.in_ok-conn.field-0-1) c.in_ok-conn.was
    (find_from_yields_List (is_waiting c.args.is_closing c.args.at) _ _ _ c.find.ensures.ran (YieldsList-from_rest _ c.iter.ensures.rest) (λ x b q k. search (rules, tests)))

pub returns-in_err-conn-clause-none : goal.returns-in_err-conn-clause-none
returns-in_err-conn-clause-none c =
    subst (λ found. IfNone found (NoneWaits c.args.is_closing c.args.at c.args.self.now.held.entries)) (sym c.from_residual.ensures)
    (none_waits c.args.is_closing c.args.at c.args.self.now.held.entries c.find.result c.in_err-conn.was
    (find_from_yields_List (is_waiting c.args.is_closing c.args.at) _ _ _ c.find.ensures.ran (YieldsList-from_rest _ c.iter.ensures.rest) (λ x b q k. search (rules, tests))))
