use Rattle.text_fields.proofs.DateTexts.{if_none}
use Rattle.text_fields.proofs.SpanTexts.{no_life}
use Rattle.text_fields.proofs.values.life_setting.Goals as goal

pub returns-in_err-span-clause-none : goal.returns-in_err-span-clause-none
returns-in_err-span-clause-none c =
    if_none c.from_residual-in_err-span.result (no_life c.args.field.now c.args.value.now c.in_err-span.ensures.none)
