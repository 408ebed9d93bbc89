use Rattle.std.proofs.Common.{◌≡◌, ◌++◌, take}
use Rattle.mit_dump.specs.NameText.{component_text}
use Rattle.mit_dump.proofs.name_text.push_component.Given as goal

abbrev pub invariant-loop-octet : goal.invariant-loop-octet
invariant-loop-octet l = l.text.items ≡ l.initial.text.items ++ component_text (take l.octet-index l.octets)
