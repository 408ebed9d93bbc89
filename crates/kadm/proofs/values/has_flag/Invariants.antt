use Rattle.std.proofs.Common.{◌≡◌, length}
use Rattle.kadm_changes.specs.Texts.{texts}
use Rattle.kadm.specs.Values.{flag_in, has_flag}
use Rattle.kadm.proofs.values.has_flag.Given as goal

abbrev pub invariant-loop-rest : goal.invariant-loop-rest
invariant-loop-rest l = flag_in l.is_value (texts l.rest) l.flag ≡ has_flag (texts l.words) l.flag

abbrev pub decreases-loop-rest : goal.decreases-loop-rest
decreases-loop-rest l = length l.rest
