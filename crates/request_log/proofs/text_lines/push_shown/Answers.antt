use Rattle.std.proofs.Common.{rules, ◌≡◌, ◌++◌, true, OnOk, sym, subst}
use Rattle.std.specs.List.{list_all}
use Rattle.request_log.specs.Lines.{is_printable}
use Rattle.request_log.proofs.Shown.{as_it_is, shown_after}
use Rattle.request_log.proofs.text_lines.push_shown.Goals as goal

pub returns-then-are_printable : goal.returns-then-are_printable
returns-then-are_printable c =
    let all : list_all is_printable c.args.octets.now ≡ true = sym c.if-are_printable.ensures in
    let added : OnOk c.extend_from_slice.result (c.extend_from_slice.new.self.items ≡ c.args.text.now.items ++ c.args.octets.now)
    = search rules in
    subst (λ shows. OnOk c.extend_from_slice.result (c.extend_from_slice.new.self.items ≡ c.args.text.now.items ++ shows))
    (sym (as_it_is c.args.octets.now all)) added

pub returns : goal.returns
returns c =
    subst (λ text. OnOk c.push_each.result (c.push_each.new.text.items ≡ text))
    (shown_after c.args.text.now.items c.args.octets.now) c.push_each.ensures
