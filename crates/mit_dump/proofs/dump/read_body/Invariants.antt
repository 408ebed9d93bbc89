use Rattle.std.proofs.Common.{drop}
use Rattle.mit_dump.specs.Fields.{texts}
use Rattle.mit_dump.proofs.Lines.{FoundFrom}
use Rattle.mit_dump.proofs.dump.read_body.Given as goal

abbrev pub invariant-loop-line : goal.invariant-loop-line
invariant-loop-line l = FoundFrom (texts l.lines) (texts (drop l.line-index l.lines)) l.found.items
