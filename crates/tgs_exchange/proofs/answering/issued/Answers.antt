use Rattle.std.proofs.Common.{rules, ◌≡◌, inr, IfOk, subst}
use Rattle.std.proofs.lemmas.Result.{IfOk-weaker}
use Rattle.kdc_replies.specs.ErrorReply.{too_big}
use Rattle.krb_fields.specs.declared.moment.Moment.{Moment}
use Rattle.krb_types.specs.KrbError.{krb_error}
use Rattle.tgs_exchange.specs.Answer.{SpelledBy}
use Rattle.tgs_exchange.specs.Outcome.{OutcomeSpelledBy}
use Rattle.tgs_exchange.specs.declared.decision.Decision.TheVariants.{Issues}
use Rattle.tgs_exchange.proofs.answering.issued.Goals as goal

pub returns-then-len-incoming-clause-spelled : goal.returns-then-len-incoming-clause-spelled
returns-then-len-incoming-clause-spelled c =
    let incoming = c.args.incoming.now in
    let at : c.incoming.inside.at ≡ incoming.at = search rules in
    IfOk-weaker c.refused_room.result (λ answer. krb_error.Spells (too_big c.args.view.now.realm incoming.at c.args.body.now) answer.reply.items)
    (λ answer. SpelledBy c.args.view.now incoming.at incoming.random c.args.body.now c.args.presented.now (Issues c.args.admission.now) answer.reply.items) (λ answer spelled. inr spelled)
    (subst (λ (m : Moment). IfOk c.refused_room.result (λ answer. krb_error.Spells (too_big c.args.view.now.realm m c.args.body.now) answer.reply.items)) at c.refused_room.ensures.spelled)

pub returns-then-len-incoming-clause-outcome_spelled : goal.returns-then-len-incoming-clause-outcome_spelled
returns-then-len-incoming-clause-outcome_spelled c =
    let incoming = c.args.incoming.now in
    let at : c.incoming.inside.at ≡ incoming.at = search rules in
    subst (λ (m : Moment). IfOk c.refused_room.result (λ answer. OutcomeSpelledBy c.args.view.now m incoming.random c.args.body.now c.args.presented.now answer.outcome (Issues c.args.admission.now) answer.reply.items)) at
    (c.refused_room.ensures.outcome_spelled incoming.random c.args.presented.now (Issues c.args.admission.now))
