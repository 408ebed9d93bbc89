use Rattle.std.proofs.Common.{◌≡◌, length}
use Rattle.command_line.specs.Values.{texts}
use Rattle.kclient.specs.Words.{value_of}
use Rattle.kclient.proofs.values.value_of.Given as goal

abbrev pub invariant-loop-rest : goal.invariant-loop-rest
invariant-loop-rest l = value_of (texts l.rest) l.option ≡ value_of (texts l.words) l.option

abbrev pub decreases-loop-rest : goal.decreases-loop-rest
decreases-loop-rest l = length l.rest
