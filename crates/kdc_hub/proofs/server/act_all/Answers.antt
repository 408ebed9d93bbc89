use Rattle.std.proofs.Common.{arith, refl, sym, ap, subst, ◌∙◌}
use Rattle.std.specs.Option.{option_or}
use Rattle.kdc_hub.specs.Hub.{hub_state}
use Rattle.kdc_hub.specs.Wire.{IsCounted}
use Rattle.kdc_hub.proofs.Rounds.{counted_nothing, counted_on, none_tried, one_done, one_failed}
use Rattle.kdc_hub.proofs.server.act_all.Goals as goal
use Rattle.kdc_hub.proofs.server.act_all.Goals.{in-Ok, in-Err}

pub loop-action-init : goal.loop-action-init
loop-action-init g c = record {
  tried = none_tried (g.W.Wire.recorded c.args.wire.now) (hub_state g.R.Rng.stream c.args.hub.now);
  counted = counted_nothing (g.W.Wire.fault_count c.args.wire.now);
  few = omega arith;
}

pub loop-action-preserved : goal.loop-action-preserved
loop-action-preserved g c = elim c.match-act.branch [
  | in-Ok w ↦ record {
    tried = one_done _ _ c.args.actions.now c.loop-action.action-index _ _ _ _ c.loop-action.invariant.tried c.action-item.result c.loop-action-test.true c.action-item.is _ _ _ _ w.in-Ok.ensures.records refl w.faults-is w.lost-is;
    counted = subst (λ n. IsCounted (g.W.Wire.fault_count c.args.wire.now) n (g.W.Wire.fault_count c.act.new.self)) (omega (arith, w.faults-is)) (counted_on _ _ _ _ _ c.loop-action.invariant.counted w.in-Ok.ensures.counted);
    few = omega (arith, w.faults-is, c.loop-action.invariant.few);
  }
  | in-Err w ↦ record {
    tried = one_failed _ _ c.args.actions.now c.loop-action.action-index _ _ _ _ c.loop-action.invariant.tried c.action-item.result c.loop-action-test.true c.action-item.is _ _ _ _ w.in-Err.ensures.records refl w.faults-is (w.lost-is ∙ w.or-lost.ensures ∙ ap (option_or c.loop-action.lost) w.connection.ensures);
    counted = subst (λ n. IsCounted (g.W.Wire.fault_count c.args.wire.now) n (g.W.Wire.fault_count c.act.new.self)) (sym w.faults-is) (counted_on _ _ _ _ _ c.loop-action.invariant.counted w.in-Err.ensures.counted);
    few = omega (arith, w.faults-is, c.loop-action.invariant.few);
  }
]
