use Rattle.std.proofs.Common.{◌≡◌, ◌≤◌, ◌*◌}
use Rattle.std.specs.Prelude.{replicate}
use Rattle.kdc_hub.specs.Hub.{hub_state}
use Rattle.kdc_hub.specs.Wire.{IsCounted}
use Rattle.kdc_hub.proofs.Lives.{LivesOn}
use Rattle.kdc_hub.proofs.life.serve_life.Given as goal

abbrev pub invariant-loop : goal.invariant-loop
invariant-loop g l = record {
  lived : LivesOn (g.W.Wire.recorded l.fn.wire) (g.S.RowSource.is_fixed l.fn.source) (g.S.RowSource.recorded l.fn.source) (hub_state g.R.Rng.stream l.fn.hub) (replicate l.counter 16) l.totals (g.W.Wire.recorded l.wire) (g.S.RowSource.recorded l.source) (hub_state g.R.Rng.stream l.hub) l.tidied.last;
  stays : g.S.RowSource.is_fixed l.source ≡ g.S.RowSource.is_fixed l.fn.source;
  counted : IsCounted (g.W.Wire.fault_count l.fn.wire) l.totals.faults (g.W.Wire.fault_count l.wire);
  events : l.totals.events ≤ 16 * l.counter;
  refused : l.totals.refused ≤ 16 * l.counter;
}
