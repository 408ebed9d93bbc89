use Rattle.std.proofs.Common.{◌≡◌, IfOk, sym, subst}
use Rattle.request_log.specs.Log.{entry_line}
use Rattle.request_log.proofs.request_lines.entry_line.Goals as goal

pub returns-in-Text : goal.returns-in-Text
returns-in-Text c =
    subst (λ format. IfOk c.text_line.result (λ line. line.items ≡ entry_line format c.args.entry.now))
    (sym c.in-Text.is) c.text_line.ensures.text
