use Rattle.std.proofs.Common.{◌++◌, ◌∷◌, [], take, ap, sym, subst, ◌∙◌}
use Rattle.request_log.specs.Entry.{entry_fields}
use Rattle.request_log.specs.Lines.{IsLine, joined, longest}
use Rattle.request_log.proofs.Shown.{from_none, is_line}
use Rattle.request_log.proofs.text_lines.text_line.Goals as goal

pub returns-clause-text : goal.returns-clause-text
returns-clause-text c =
    let fields = entry_fields c.args.entry.now in
    let text = c.in_ok-put_entry.ensures [] c.in_ok-with_capacity.ensures.items ∙ ap joined (from_none fields) in
    c.in_ok-push.ensures.items ∙ ap (λ line. line ++ 10 ∷ []) (c.truncate.ensures.items ∙ ap (λ line. take longest line) text)

pub returns-clause-one : goal.returns-clause-one
returns-clause-one c =
    let fields = entry_fields c.args.entry.now in
    subst IsLine (sym (returns-clause-text c)) (is_line fields)
