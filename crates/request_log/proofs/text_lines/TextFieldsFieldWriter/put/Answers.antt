use Rattle.std.proofs.Common.{◌≡◌, OnOk, subst}
use Rattle.request_log.specs.Field.{field}
use Rattle.request_log.proofs.Shown.{text_so}
use Rattle.request_log.proofs.text_lines.TextFieldsFieldWriter.put.Goals as goal

pub returns : goal.returns
returns c fields held =
    subst (λ text. OnOk c.push_shown.result (c.push_shown.new.text.items ≡ text))
    (text_so c.args.self.now.text.items c.push_front.new.text.items fields (field c.args.name c.args.value.now) held c.in_ok-push_front.ensures)
    c.push_shown.ensures
