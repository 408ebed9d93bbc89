use Rattle.std.proofs.Common.{◌≡◌, map, take}
use Rattle.enctypes.specs.Etype.{number}
use Rattle.client_core.proofs.asked.numbers.Given as goal

abbrev pub invariant-loop-etype : goal.invariant-loop-etype
invariant-loop-etype l = l.numbers ≡ map number (take l.etype-index l.etypes)
