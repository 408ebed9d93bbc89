use Rattle.std.proofs.Common.{◌∷◌, [], ◌++◌, ◌∙◌, ap, sym}
use Rattle.kdc_hub.specs.StreamStep.{action_for}
use Rattle.kdc_hub.specs.declared.event.Action.TheVariants.{Write, Close}
use Rattle.kdc_hub.specs.declared.event.CloseReason.TheVariants.{NoRequest}
use Rattle.kdc_hub.proofs.stream.answer_request.Goals as goal

pub returns-in-Ok-Some-clause-action : goal.returns-in-Ok-Some-clause-action
returns-in-Ok-Some-clause-action g c =
    c.push_reserved.ensures.items
    ∙ ap (λ items. items ++ Write c.args.conn c.in-Ok-Some.reply ∷ []) c.reserve.ensures.items
    ∙ ap (λ reply. c.args.actions.now.items ++ action_for c.args.conn reply ∷ []) (sym c.in-Ok-Some.field-0-is ∙ c.in-Ok-Some.ensures.reply)

pub returns-in-Ok-None-clause-action : goal.returns-in-Ok-None-clause-action
returns-in-Ok-None-clause-action g c =
    c.push_reserved-in-Ok-None.ensures.items
    ∙ ap (λ items. items ++ Close c.args.conn NoRequest ∷ []) c.reserve.ensures.items
    ∙ ap (λ reply. c.args.actions.now.items ++ action_for c.args.conn reply ∷ []) (sym c.in-Ok-None.field-0-is ∙ c.in-Ok-None.ensures.reply)
