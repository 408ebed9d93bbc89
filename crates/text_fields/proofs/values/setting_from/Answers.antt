use Rattle.text_fields.proofs.DateTexts.{if_none}
use Rattle.text_fields.proofs.SpanTexts.{no_time}
use Rattle.text_fields.proofs.values.setting_from.Goals as goal

pub returns-in_err-span-clause-none : goal.returns-in_err-span-clause-none
returns-in_err-span-clause-none c =
    if_none c.from_residual-in_err-span.result (no_time c.args.now c.args.field.now c.args.value.now c.in_err-span.ensures.none)
