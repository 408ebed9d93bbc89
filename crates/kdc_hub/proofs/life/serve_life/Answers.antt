use Rattle.std.proofs.Common.{◌≡◌, ◌/◌, ◌%◌, arith, [], ◌∷◌, ◌++◌, refl, sym, subst, ◌∙◌}
use Rattle.std.specs.Prelude.{replicate}
use Rattle.kdc_hub.specs.Hub.{hub_state}
use Rattle.kdc_hub.specs.Wire.{IsCounted}
use Rattle.kdc_hub.proofs.Rounds.{counted_less, counted_nothing, counted_on}
use Rattle.kdc_hub.specs.Life.{IsLife}
use Rattle.kdc_hub.proofs.Lives.{LivesOn, is_life, none_lived, one_more, replicate-one, same_period}
use Rattle.kdc_hub.proofs.life.serve_life.Goals as goal

pub loop-init : goal.loop-init
loop-init g c = record {
  lived = none_lived (g.W.Wire.recorded c.args.wire.now) (g.S.RowSource.is_fixed c.args.source.now) (g.S.RowSource.recorded c.args.source.now) (hub_state g.R.Rng.stream c.args.hub.now) c.new-totals.result c.new-totals.ensures.events c.new-totals.ensures.faults c.new-totals.ensures.refused;
  stays = refl;
  counted = subst (λ n. IsCounted (g.W.Wire.fault_count c.args.wire.now) n (g.W.Wire.fault_count c.args.wire.now)) (sym c.new-totals.ensures.faults) (counted_nothing (g.W.Wire.fault_count c.args.wire.now));
  events = omega (arith, c.new-totals.ensures.events);
  refused = omega (arith, c.new-totals.ensures.refused);
}

pub loop-preserved : goal.loop-preserved
loop-preserved g c = record {
  lived = subst (λ ls. LivesOn (g.W.Wire.recorded c.args.wire.now) (g.S.RowSource.is_fixed c.args.source.now) (g.S.RowSource.recorded c.args.source.now) (hub_state g.R.Rng.stream c.args.hub.now) ls c.with-totals.result (g.W.Wire.recorded c.serve_period-served.new.wire) (g.S.RowSource.recorded c.serve_period-served.new.source) (hub_state g.R.Rng.stream c.serve_period-served.new.hub) c.serve_period-served.new.tidied.last)
      (replicate-one c.loop.counter 16)
      (one_more c.one_run.ensures.goes_on c.one_run.ensures.log _ _ _ _ _ _ _ _ _ _ c.loop.invariant.lived _ _ _ _ _ _
      (same_period _ _ c.loop.invariant.stays _ _ _ _ _ _ _ _ _ _ c.serve_period-served.ensures.period) c.with-totals.result c.with-totals.ensures.events c.with-totals.ensures.faults c.with-totals.ensures.refused);
  stays = c.serve_period-served.ensures.stays ∙ c.loop.invariant.stays;
  counted = counted_less _ _ _ _ c.with-totals.ensures.faults (counted_on _ _ _ _ _ c.loop.invariant.counted c.serve_period-served.ensures.counted);
  events = omega (arith, c.loop.invariant.events, c.with-totals.ensures.events, c.serve_period-served.ensures.few_events);
  refused = omega (arith, c.loop.invariant.refused, c.with-totals.ensures.refused, c.serve_period-served.ensures.few_refused);
}

pub returns-clause-life : goal.returns-clause-life
returns-clause-life g c =
    let all : c.loop.counter ≡ c.args.rounds / 16 = omega (arith, c.loop.auto.counter-end, c.loop-test.false) in
    subst (λ k. IsLife (g.W.Wire.recorded c.args.wire.now) (g.S.RowSource.is_fixed c.args.source.now) (g.S.RowSource.recorded c.args.source.now) (hub_state g.R.Rng.stream c.args.hub.now) (replicate k 16 ++ c.args.rounds % 16 ∷ []) c.with.result (g.W.Wire.recorded c.serve_period-last.new.wire) (g.S.RowSource.recorded c.serve_period-last.new.source) (hub_state g.R.Rng.stream c.serve_period-last.new.hub)) all
    (is_life c.one_run.ensures.run c.one_run.ensures.isolation c.one_run.ensures.unaffected c.one_run.ensures.moved c.one_run.ensures.unseen c.one_run.ensures.resumable c.one_run.ensures.one_ticket_in_process _ _ _ _ _ _ _ _ _
    (one_more c.one_run.ensures.goes_on c.one_run.ensures.log _ _ _ _ _ _ _ _ _ _ c.loop.invariant.lived _ _ _ _ _ _
    (same_period _ _ c.loop.invariant.stays _ _ _ _ _ _ _ _ _ _ c.serve_period-last.ensures.period) c.with.result c.with.ensures.events c.with.ensures.faults c.with.ensures.refused).lived)

pub returns-clause-stays : goal.returns-clause-stays
returns-clause-stays g c = c.serve_period-last.ensures.stays ∙ c.loop.invariant.stays

pub returns-clause-counted : goal.returns-clause-counted
returns-clause-counted g c = counted_less _ _ _ _ c.with.ensures.faults (counted_on _ _ _ _ _ c.loop.invariant.counted c.serve_period-last.ensures.counted)
