use Rattle.std.proofs.Common.{arith, refl, sym, subst}
use Rattle.kdc_hub.specs.Hub.{hub_state}
use Rattle.kdc_hub.specs.Wire.{IsCounted}
use Rattle.kdc_hub.proofs.Rounds.{counted_less, counted_nothing, counted_on}
use Rattle.kdc_hub.proofs.Runs.{goes_on, no_round}
use Rattle.kdc_hub.proofs.server.serve.Goals as goal

pub loop-init : goal.loop-init
loop-init g c = record {
  run = no_round (g.W.Wire.recorded c.args.wire.now) (hub_state g.R.Rng.stream c.args.hub.now) _ c.nothing_served-served.ensures.events c.nothing_served-served.ensures.faults c.nothing_served-served.ensures.refused c.nothing_served-served.ensures.last;
  counted = subst (λ n. IsCounted (g.W.Wire.fault_count c.args.wire.now) n (g.W.Wire.fault_count c.args.wire.now)) (sym c.nothing_served-served.ensures.faults) (counted_nothing (g.W.Wire.fault_count c.args.wire.now));
  events = omega (arith, c.nothing_served-served.ensures.events);
  refused = omega (arith, c.nothing_served-served.ensures.refused);
}

pub loop-preserved : goal.loop-preserved
loop-preserved g c = record {
  run = goes_on _ _ _ _ _ _ _ _ _ _ _ c.loop.invariant.run c.serve_round-round.ensures.run refl c.saturating_add.ensures refl c.or.ensures;
  counted = counted_less _ _ _ _ c.saturating_add.ensures (counted_on _ _ _ _ _ c.loop.invariant.counted c.serve_round-round.ensures.counted);
  events = omega (arith, c.loop.invariant.events, c.serve_round-round.ensures.one_event);
  refused = omega (arith, c.loop.invariant.refused, c.serve_round-round.ensures.one_refused);
}
