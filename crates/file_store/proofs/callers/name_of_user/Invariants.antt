use Rattle.std.proofs.Common.{◌≡◌, length}
use Rattle.file_store.specs.Callers.{name_of_user}
use Rattle.file_store.specs.Input.{lines_of}
use Rattle.file_store.proofs.callers.name_of_user.Given as goal

abbrev pub invariant-loop-rest : goal.invariant-loop-rest
invariant-loop-rest l =
    name_of_user l.digits (lines_of l.rest) ≡ name_of_user l.digits (lines_of l.passwd)

abbrev pub decreases-loop-rest : goal.decreases-loop-rest
decreases-loop-rest l = length l.rest
