use Rattle.std.proofs.Common.{◌≡◌, false, length}
use Rattle.command_line.specs.Values.{texts}
use Rattle.kclient.specs.Words.{has_flag_in}
use Rattle.kclient.proofs.values.has_flag_in.Given as goal

abbrev pub invariant-loop-rest : goal.invariant-loop-rest
invariant-loop-rest l = has_flag_in l.is_value (texts l.rest) l.flag ≡ has_flag_in false (texts l.words) l.flag

abbrev pub decreases-loop-rest : goal.decreases-loop-rest
decreases-loop-rest l = length l.rest
