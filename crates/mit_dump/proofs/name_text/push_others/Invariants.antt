use Rattle.std.proofs.Common.{◌≡◌, ◌++◌, flat_map, take}
use Rattle.mit_dump.specs.NameText.{component_part}
use Rattle.mit_dump.proofs.name_text.push_others.Given as goal

abbrev pub invariant-loop-other : goal.invariant-loop-other
invariant-loop-other l = l.text.items ≡ l.initial.text.items ++ flat_map component_part (take l.other-index l.others)
