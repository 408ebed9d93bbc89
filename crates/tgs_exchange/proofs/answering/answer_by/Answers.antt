use Rattle.std.proofs.Common.{IfOk, sym, subst}
use Rattle.std.specs.Borrow.{Bor}
use Rattle.replay.specs.declared.keep.Kept.{Kept}
use Rattle.tgs_exchange.specs.Decision.{decision_copied}
use Rattle.tgs_exchange.specs.Outcome.{OutcomeSpelledBy}
use Rattle.tgs_exchange.specs.declared.decision.Decision.{Decision}
use Rattle.tgs_exchange.proofs.answering.answer_by.Goals as goal

pub returns-in-Repeats-clause-outcome_spelled : goal.returns-in-Repeats-clause-outcome_spelled
returns-in-Repeats-clause-outcome_spelled c =
    let incoming = c.args.incoming.now in
    subst (λ (d : Decision (Bor Kept)). IfOk c.repeated.result (λ answer. OutcomeSpelledBy c.args.view.now incoming.at incoming.random c.args.body.now c.args.presented.now answer.outcome (decision_copied d) answer.reply.items))
    (sym c.in-Repeats.is) (c.repeated.ensures.outcome_spelled incoming.random c.args.presented.now)
