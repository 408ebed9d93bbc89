use Rattle.std.proofs.Common.{rules, ◌≡◌, None}
use Rattle.text_fields.proofs.SpanTexts.{no_lifetime}
use Rattle.text_fields.proofs.spans.lifetime.Goals as goal

pub returns-in-None-clause-none : goal.returns-in-None-clause-none
returns-in-None-clause-none c =
    let none : c.number_u32.result ≡ None = search rules in
    no_lifetime c.args.text.now c.number_u32.result c.span.result c.number_u32.ensures.read none c.span.ensures.none
