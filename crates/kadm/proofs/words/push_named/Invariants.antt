use Rattle.std.proofs.Common.{◌≡◌, ◌++◌, false, length}
use Rattle.kadm_changes.specs.Texts.{texts}
use Rattle.kadm.specs.Words.{named}
use Rattle.kadm.proofs.words.push_named.Given as goal

abbrev pub invariant-loop-rest : goal.invariant-loop-rest
invariant-loop-rest l =
    texts l.all.items ++ named l.is_value (texts l.rest) ≡ texts l.fn.all.items ++ named false (texts l.words)

abbrev pub decreases-loop-rest : goal.decreases-loop-rest
decreases-loop-rest l = length l.rest
