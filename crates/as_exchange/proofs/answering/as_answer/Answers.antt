use Rattle.std.proofs.Common.{rules, ◌≡◌}
use Rattle.as_exchange.specs.Decision.{decision}
use Rattle.as_exchange.specs.DecisionLaws.{issued_named}
use Rattle.as_exchange.proofs.answering.as_answer.Goals as goal

pub answer_by-requires-clause-named : goal.answer_by-requires-clause-named
answer_by-requires-clause-named c =
    let is : c.in_ok-decision.decision ≡ decision c.args.view.now c.args.incoming.now.at.sec c.args.message.now = search rules in
    issued_named c.args.view.now c.args.incoming.now.at.sec c.args.message.now c.requires c.in_ok-decision.decision is
