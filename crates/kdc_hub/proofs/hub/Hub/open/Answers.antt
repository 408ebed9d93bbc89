use Rattle.std.proofs.Common.{ap, length}
use Rattle.kdc_hub.specs.Issuing.{issuing}
use Rattle.kdc_hub.specs.Hub.{hub_state}
use Rattle.kdc_hub.proofs.Steps.{same_hub_state, stopped_before, table_full}
use Rattle.kdc_hub.proofs.hub.Hub.open.Goals as goal

pub returns-then-len-ge-MOST_CONNECTIONS-clause-step : goal.returns-then-len-ge-MOST_CONNECTIONS-clause-step
returns-then-len-ge-MOST_CONNECTIONS-clause-step g c = table_full (hub_state g.R.Rng.stream c.args.self.now) c.args.at c.args.conn c.contains.result c.len.result c.refuse_connection.result
    c.contains.ensures c.if-contains.false c.len.ensures c.if-len-ge-MOST_CONNECTIONS.true
    c.refuse_connection.ensures.ok c.refuse_connection.ensures.done c.refuse_connection.ensures.conn c.refuse_connection.ensures.draws

pub returns-in-Err-clause-step : goal.returns-in-Err-clause-step
returns-in-Err-clause-step g c = (
  c.nothing_done.ensures.done,
  same_hub_state _ _ _ _ (stopped_before _ _ (issuing g.R.Rng.stream c.args.self.now.seeded_kdc) c.args.at _ (ap (λ l. length l) c.nothing_done.ensures.done) c.nothing_done.ensures.draws) c.in-Err.ensures.err,
  c.nothing_done.ensures.conn,
)
