use Rattle.std.proofs.Common.{◌≡◌, ◌++◌, length}
use Rattle.kadm_changes.specs.Texts.{texts}
use Rattle.kadm.specs.Values.{values_of}
use Rattle.kadm.proofs.values.option_values.Given as goal

-- the values so far, with those at the coming words, are all
abbrev pub invariant-loop-rest : goal.invariant-loop-rest
invariant-loop-rest l = texts l.values.items ++ values_of (texts l.rest) l.option ≡ values_of (texts l.words) l.option

abbrev pub decreases-loop-rest : goal.decreases-loop-rest
decreases-loop-rest l = length l.rest
