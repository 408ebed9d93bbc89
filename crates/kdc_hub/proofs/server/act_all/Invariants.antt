use Rattle.std.proofs.Common.{◌≤◌, take}
use Rattle.kdc_hub.specs.Hub.{hub_state}
use Rattle.kdc_hub.specs.Wire.{IsCounted}
use Rattle.kdc_hub.proofs.Rounds.{AreTried}
use Rattle.kdc_hub.proofs.server.act_all.Given as goal

abbrev pub invariant-loop-action : goal.invariant-loop-action
invariant-loop-action g l = record {
  tried : AreTried (g.W.Wire.recorded l.fn.wire) (hub_state g.R.Rng.stream l.fn.hub) (take l.action-index l.actions) l.faults l.lost (g.W.Wire.recorded l.wire) (hub_state g.R.Rng.stream l.hub);
  counted : IsCounted (g.W.Wire.fault_count l.fn.wire) l.faults (g.W.Wire.fault_count l.wire);
  few : l.faults ≤ l.action-index;
}
