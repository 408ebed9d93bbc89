use Rattle.std.proofs.Common.{subst}
use Rattle.kdc_hub.specs.Hub.{HubState, hub_state}
use Rattle.kdc_hub.specs.Rounds.{IsRun}
use Rattle.kdc_hub.proofs.life.serve_period.Goals as goal

pub returns-clause-period : goal.returns-clause-period
returns-clause-period g c = record {
  look = c.take_rows.ensures.looked.look;
  middle = hub_state g.R.Rng.stream c.serve-served.new.hub;
  found = c.take_rows.ensures.looked.found;
  fixed = c.take_rows.ensures.looked.fixed;
  run = subst (λ (h : HubState). IsRun (g.W.Wire.recorded c.args.wire.now) h c.args.rounds c.serve-served.result (g.W.Wire.recorded c.serve-served.new.wire) (hub_state g.R.Rng.stream c.serve-served.new.hub)) c.take_rows.ensures.looked.hub c.serve-served.ensures.run;
  tidies = c.tidy_if_due.ensures;
}
