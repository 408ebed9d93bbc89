use Rattle.std.proofs.Common.{rules, arith, ◌<◌, ◌+◌, ◌^◌, ◌∷◌, [], refl, subst, ◌∙◌}
use Rattle.kdc_hub.specs.Hub.{hub_state}
use Rattle.kdc_hub.specs.Wire.{IsCounted, Records, polled_at}
use Rattle.kdc_hub.specs.Rounds.{PollFailed, NothingCame}
use Rattle.kdc_hub.proofs.Rounds.{counted_on}
use Rattle.kdc_hub.proofs.Runs.{one_round, taken_in_part, taken_round, taken_whole}
use Rattle.kdc_hub.proofs.server.serve_round.Goals as goal

pub returns-in-Ok-clause-run : goal.returns-in-Ok-clause-run
returns-in-Ok-clause-run g c =
    let few : c.act_all-faults.result < 2 ^ 64 = search rules in
    taken_round _ _ _ _ _ _ _ _
    (subst (λ o. Records (g.W.Wire.recorded c.args.wire.now) (polled_at c.in-Ok-default-Some.at o ∷ []) (g.W.Wire.recorded c.poll.new.self)) c.in-Ok-default-Some.field-0-1-is c.in-Ok-default-Some.ensures.records)
    (taken_whole _ _ c.in-Ok-default-Some.at c.in-Ok-default-Some.event c.deref.result.now _ _ _ _ _ (c.deref.ensures.value ∙ c.in-Ok.ensures.step.0, c.in-Ok.ensures.step.1) c.act_all-faults.ensures.acts refl refl refl refl)
    few

pub returns-in-Ok-clause-counted : goal.returns-in-Ok-clause-counted
returns-in-Ok-clause-counted g c = subst (λ n. IsCounted (g.W.Wire.fault_count c.args.wire.now) n (g.W.Wire.fault_count c.act_all-faults.new.wire)) (omega arith)
    (counted_on _ _ _ _ _ c.in-Ok-default-Some.ensures.counted c.act_all-faults.ensures.counted)

pub returns-in-Err-step-clause-run : goal.returns-in-Err-step-clause-run
returns-in-Err-step-clause-run g c =
    let few : c.act_all-faults-in-Err-step.result + c.close-more.result < 2 ^ 64 = search rules in
    taken_round _ _ _ _ _ _ _ _
    (subst (λ o. Records (g.W.Wire.recorded c.args.wire.now) (polled_at c.in-Ok-default-Some.at o ∷ []) (g.W.Wire.recorded c.poll.new.self)) c.in-Ok-default-Some.field-0-1-is c.in-Ok-default-Some.ensures.records)
    (taken_in_part _ _ c.in-Ok-default-Some.at c.in-Ok-default-Some.event c.in-Err-step.fault _ _ _ _ _ _ _ _ _ c.in-Err-step.ensures.step c.in-Err-step.ensures.draws c.deref-in-Err-step.ensures.value c.act_all-faults-in-Err-step.ensures.acts c.close-more.ensures.acts refl refl refl refl)
    few

pub returns-in-Err-step-clause-counted : goal.returns-in-Err-step-clause-counted
returns-in-Err-step-clause-counted g c = subst (λ n. IsCounted (g.W.Wire.fault_count c.args.wire.now) n (g.W.Wire.fault_count c.close-more.new.wire)) (omega arith)
    (counted_on _ _ _ _ _ c.in-Ok-default-Some.ensures.counted (counted_on _ _ _ _ _ c.act_all-faults-in-Err-step.ensures.counted c.close-more.ensures.counted))

pub returns-in-Ok-default-None-clause-run : goal.returns-in-Ok-default-None-clause-run
returns-in-Ok-default-None-clause-run g c = one_round (g.W.Wire.recorded c.args.wire.now) (hub_state g.R.Rng.stream c.args.hub.now) (NothingCame c.in-Ok-default-None.at) _ _ _ tt (subst (λ o. Records (g.W.Wire.recorded c.args.wire.now) (polled_at c.in-Ok-default-None.at o ∷ []) (g.W.Wire.recorded c.poll.new.self)) c.in-Ok-default-None.field-0-1-is c.in-Ok-default-None.ensures.records) refl c.nothing_served.ensures.events c.nothing_served.ensures.faults c.nothing_served.ensures.refused c.nothing_served.ensures.last

pub returns-in-Err-clause-run : goal.returns-in-Err-clause-run
returns-in-Err-clause-run g c = one_round (g.W.Wire.recorded c.args.wire.now) (hub_state g.R.Rng.stream c.args.hub.now) PollFailed _ _ _ tt c.in-Err.ensures.records refl c.nothing_served-in-Err.ensures.events c.nothing_served-in-Err.ensures.faults c.nothing_served-in-Err.ensures.refused c.nothing_served-in-Err.ensures.last
