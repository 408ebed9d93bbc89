use Rattle.std.proofs.Common.{rules, refl}
use Rattle.kdc_replies.specs.ErrorReply.{too_big}
use Rattle.krb_types.specs.KrbError.{krb_error}
use Rattle.as_exchange.proofs.answering.refused_room.Goals as goal

pub returns-clause-outcome : goal.returns-clause-outcome
returns-clause-outcome c = refl

pub returns-clause-outcome_spelled : goal.returns-clause-outcome_spelled
returns-clause-outcome_spelled c =
    let spelled : krb_error.Spells (too_big c.args.view.now.realm c.args.at c.args.body.now) c.in_ok-too_big.field-0.items = search rules in
    λ random decided. spelled
