use Rattle.std.proofs.Common.{◌≡◌, ◌++◌, take}
use Rattle.krb_fields.specs.NameText.{component_text}
use Rattle.krb_fields.proofs.name_text.push_octets.Given as goal

abbrev pub invariant-loop-octet : goal.invariant-loop-octet
invariant-loop-octet l = l.text.items ≡ l.initial.text.items ++ component_text (take l.octet-index l.octets)
