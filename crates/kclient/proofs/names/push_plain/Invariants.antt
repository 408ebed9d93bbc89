use Rattle.std.proofs.Common.{◌≡◌, ◌++◌, false, length}
use Rattle.command_line.specs.Values.{texts}
use Rattle.kclient.specs.Words.{plain_words}
use Rattle.kclient.proofs.names.push_plain.Given as goal

-- the names so far, with those of the coming words, are all
abbrev pub invariant-loop-rest : goal.invariant-loop-rest
invariant-loop-rest l =
    texts l.names.items ++ plain_words l.is_value (texts l.rest)
    ≡ texts l.fn.names.items ++ plain_words false (texts l.words)

abbrev pub decreases-loop-rest : goal.decreases-loop-rest
decreases-loop-rest l = length l.rest
