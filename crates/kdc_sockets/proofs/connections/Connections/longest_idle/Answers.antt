use Rattle.std.proofs.Common.{rules, tests, subst, sym, IfNone, not}
use Rattle.std.proofs.lemmas.Iterator.Consumers.{YieldsList-from_filter, YieldsList-from_rest, YieldsList-at}
use Rattle.kdc_sockets.specs.Table.{AreAll}
use Rattle.kdc_sockets.proofs.Idle.{is_among, longest_of, none_of}
use Rattle.kdc_sockets.proofs.connections.Connections.longest_idle.Goals as goal

pub returns-clause-longest : goal.returns-clause-longest
returns-clause-longest c =
    longest_of _ _ _ _ c.args.is_closing c.args.self.now.held c.iter.ensures.ordered
    (YieldsList-from_filter _ (is_among c.args.is_closing) (YieldsList-at c.filter.ensures.source (YieldsList-from_rest _ c.iter.ensures.rest)) c.filter.ensures.closure (λ x r q k. search (rules, tests)))
    (λ a r q k. search (rules, tests)) (λ x k h called. search (rules, tests))
    (c.in_ok-conn.conn, c.in_ok-conn.field-0-1) c.in_ok-conn.ensures.runs

pub returns-in_err-conn-clause-none : goal.returns-in_err-conn-clause-none
returns-in_err-conn-clause-none c =
    subst (λ found. IfNone found (AreAll (not c.args.is_closing) c.args.self.now.held.entries)) (sym c.from_residual.ensures)
    (none_of _ _ c.args.is_closing c.args.self.now.held.entries
    (YieldsList-from_filter _ (is_among c.args.is_closing) (YieldsList-at c.filter.ensures.source (YieldsList-from_rest _ c.iter.ensures.rest)) c.filter.ensures.closure (λ x r q k. search (rules, tests)))
    c.in_err-conn.ensures.runs)
