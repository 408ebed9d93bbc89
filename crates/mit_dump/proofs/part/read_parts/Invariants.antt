use Rattle.std.proofs.Common.{◌≡◌, length}
use Rattle.mit_dump.specs.Chain.{Chain}
use Rattle.mit_dump.specs.Part.{TakesPart}
use Rattle.mit_dump.proofs.part.read_parts.Given as goal

abbrev pub invariant-loop : goal.invariant-loop
invariant-loop l = (length l.parts.items ≡ l.counter) × Chain TakesPart l.fn.fields l.parts.items l.fields
