use Rattle.std.proofs.Common.{◌≡◌, length}
use Rattle.kadm_changes.specs.Texts.{texts}
use Rattle.kadm.specs.Values.{value_of}
use Rattle.kadm.proofs.values.option_value.Given as goal

abbrev pub invariant-loop-rest : goal.invariant-loop-rest
invariant-loop-rest l = value_of (texts l.rest) l.option ≡ value_of (texts l.words) l.option

abbrev pub decreases-loop-rest : goal.decreases-loop-rest
decreases-loop-rest l = length l.rest
