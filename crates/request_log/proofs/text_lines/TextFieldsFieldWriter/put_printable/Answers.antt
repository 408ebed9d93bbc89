use Rattle.std.proofs.Common.{rules, ◌≡◌, ◌++◌, OnOk, ap, sym, subst, ◌∙◌}
use Rattle.request_log.specs.Field.{field}
use Rattle.request_log.proofs.Shown.{as_it_is, text_so}
use Rattle.request_log.proofs.text_lines.TextFieldsFieldWriter.put_printable.Goals as goal

pub returns : goal.returns
returns c fields held =
    let front = c.push_front.new.text.items in
    let added : OnOk c.extend_from_slice.result (c.extend_from_slice.new.self.items ≡ front ++ c.args.value.now) = search rules in
    subst (λ text. OnOk c.extend_from_slice.result (c.extend_from_slice.new.self.items ≡ text))
    (ap (λ value. front ++ value) (sym (as_it_is c.args.value.now c.requires))
    ∙ text_so c.args.self.now.text.items front fields (field c.args.name c.args.value.now) held c.in_ok-push_front.ensures)
    added
