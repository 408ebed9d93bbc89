use Rattle.std.proofs.Common.{◌≡◌, ◌++◌, length}
use Rattle.command_line.specs.Values.{texts}
use Rattle.kclient.specs.Words.{values_of}
use Rattle.kclient.proofs.names.push_values.Given as goal

-- the values so far, with those at the coming words, are all
abbrev pub invariant-loop-rest : goal.invariant-loop-rest
invariant-loop-rest l =
    texts l.values.items ++ values_of (texts l.rest) l.option ≡ texts l.fn.values.items ++ values_of (texts l.words) l.option

abbrev pub decreases-loop-rest : goal.decreases-loop-rest
decreases-loop-rest l = length l.rest
