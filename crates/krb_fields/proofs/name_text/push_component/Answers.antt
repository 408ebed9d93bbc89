use Rattle.std.proofs.Common.{rules, ◌≡◌, ◌++◌, true, OnOk, sym, subst, arith}
use Rattle.std.specs.List.{list_all}
use Rattle.krb_fields.specs.NameText.{is_plain}
use Rattle.krb_fields.proofs.PlainText.{plain_so}
use Rattle.krb_fields.proofs.TextAscii.{component_ascii}
use Rattle.krb_fields.proofs.name_text.push_component.Goals as goal

pub returns-then-are_plain-clause-text : goal.returns-then-are_plain-clause-text
returns-then-are_plain-clause-text c =
    let all : list_all is_plain c.args.octets.now ≡ true = sym c.if-are_plain.ensures in
    let added : OnOk c.extend_from_slice.result (c.extend_from_slice.new.self.items ≡ c.args.text.now.items ++ c.args.octets.now) = search rules in
    subst (λ text. OnOk c.extend_from_slice.result (c.extend_from_slice.new.self.items ≡ c.args.text.now.items ++ text)) (sym (plain_so c.args.octets.now all)) added

pub returns-then-are_plain-clause-ascii : goal.returns-then-are_plain-clause-ascii
returns-then-are_plain-clause-ascii c = component_ascii c.args.octets.now (λ i. omega (arith, c.type_inv.octets i))

pub returns-else-are_plain-clause-ascii : goal.returns-else-are_plain-clause-ascii
returns-else-are_plain-clause-ascii c = component_ascii c.args.octets.now (λ i. omega (arith, c.type_inv.octets i))
