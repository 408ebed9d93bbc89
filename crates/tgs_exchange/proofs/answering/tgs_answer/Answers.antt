use Rattle.std.proofs.Common.{rules, ◌≡◌, IfOk, subst}
use Rattle.replay.specs.declared.keep.Kept.{Kept}
use Rattle.tgs_exchange.specs.Answer.{answer_by, OpensBy, SpelledBy}
use Rattle.tgs_exchange.specs.Decision.{decision, decision_copied}
use Rattle.tgs_exchange.specs.DecisionLaws.{issued_named}
use Rattle.tgs_exchange.specs.declared.decision.Decision.{Decision}
use Rattle.tgs_exchange.proofs.Kept.{kept_new}
use Rattle.tgs_exchange.proofs.answering.tgs_answer.Goals as goal

pub answer_by-requires-clause-named : goal.answer_by-requires-clause-named
answer_by-requires-clause-named c =
    let is : decision_copied c.in_ok-decision.decision ≡ decision c.args.view.now c.args.incoming.now.at.sec c.args.body.now c.args.presented.now = search rules in
    issued_named c.args.view.now c.args.incoming.now.at.sec c.args.body.now c.args.presented.now c.requires c.in_ok-decision.decision is

pub returns-clause-reply : goal.returns-clause-reply
returns-clause-reply c =
    let is : decision_copied c.in_ok-decision.decision ≡ decision c.args.view.now c.args.incoming.now.at.sec c.args.body.now c.args.presented.now = search rules in
    subst (λ (d : Decision Kept). IfOk c.answer_by.result (λ answer. answer.reply.items ≡ (answer_by c.args.view.now c.args.incoming.now c.args.body.now c.args.presented.now d).reply))
    is c.answer_by.ensures.reply

pub returns-clause-kept : goal.returns-clause-kept
returns-clause-kept c =
    let is : decision_copied c.in_ok-decision.decision ≡ decision c.args.view.now c.args.incoming.now.at.sec c.args.body.now c.args.presented.now = search rules in
    subst (λ (d : Decision Kept). IfOk c.answer_by.result (λ answer. answer.kept ≡ (answer_by c.args.view.now c.args.incoming.now c.args.body.now c.args.presented.now d).kept))
    is c.answer_by.ensures.kept

pub returns-clause-timely : goal.returns-clause-timely
returns-clause-timely c =
    let is : decision_copied c.in_ok-decision.decision ≡ decision c.args.view.now c.args.incoming.now.at.sec c.args.body.now c.args.presented.now = search rules in
    kept_new c.args.view.now c.args.incoming.now c.args.body.now c.args.presented.now (λ answer. answer.kept) _ (λ new. new.0) c.answer_by.result
    (subst (λ (d : Decision Kept). IfOk c.answer_by.result (λ answer. answer.kept ≡ (answer_by c.args.view.now c.args.incoming.now c.args.body.now c.args.presented.now d).kept))
    is c.answer_by.ensures.kept)

pub returns-clause-new : goal.returns-clause-new
returns-clause-new c =
    let is : decision_copied c.in_ok-decision.decision ≡ decision c.args.view.now c.args.incoming.now.at.sec c.args.body.now c.args.presented.now = search rules in
    kept_new c.args.view.now c.args.incoming.now c.args.body.now c.args.presented.now (λ answer. answer.kept) _ (λ new. new.1) c.answer_by.result
    (subst (λ (d : Decision Kept). IfOk c.answer_by.result (λ answer. answer.kept ≡ (answer_by c.args.view.now c.args.incoming.now c.args.body.now c.args.presented.now d).kept))
    is c.answer_by.ensures.kept)

pub returns-clause-spelled : goal.returns-clause-spelled
returns-clause-spelled c =
    let is : decision_copied c.in_ok-decision.decision ≡ decision c.args.view.now c.args.incoming.now.at.sec c.args.body.now c.args.presented.now = search rules in
    subst (λ (d : Decision Kept). IfOk c.answer_by.result (λ answer. SpelledBy c.args.view.now c.args.incoming.now.at c.args.incoming.now.random c.args.body.now c.args.presented.now d answer.reply.items))
    is c.answer_by.ensures.spelled

pub returns-clause-same : goal.returns-clause-same
returns-clause-same c =
    let is : decision_copied c.in_ok-decision.decision ≡ decision c.args.view.now c.args.incoming.now.at.sec c.args.body.now c.args.presented.now = search rules in
    subst (λ (d : Decision Kept). IfOk c.answer_by.result (λ answer. OpensBy c.args.view.now c.args.incoming.now.at c.args.incoming.now.random c.args.body.now c.args.presented.now d))
    is c.answer_by.ensures.same
