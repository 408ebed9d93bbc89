use Rattle.std.proofs.Common.{◌≤◌}
use Rattle.kdc_hub.specs.Hub.{hub_state}
use Rattle.kdc_hub.specs.Wire.{IsCounted}
use Rattle.kdc_hub.specs.Rounds.{IsRun}
use Rattle.kdc_hub.proofs.server.serve.Given as goal

abbrev pub invariant-loop : goal.invariant-loop
invariant-loop g l = record {
  run : IsRun (g.W.Wire.recorded l.fn.wire) (hub_state g.R.Rng.stream l.fn.hub) l.counter l.served (g.W.Wire.recorded l.wire) (hub_state g.R.Rng.stream l.hub);
  counted : IsCounted (g.W.Wire.fault_count l.fn.wire) l.served.faults (g.W.Wire.fault_count l.wire);
  events : l.served.events ≤ l.counter;
  refused : l.served.refused ≤ l.counter;
}
