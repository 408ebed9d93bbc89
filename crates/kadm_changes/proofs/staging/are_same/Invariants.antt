use Rattle.std.proofs.Common.{◌≡◌, length, take}
use Rattle.kadm_changes.proofs.staging.are_same.Given as goal

abbrev pub invariant-loop-i : goal.invariant-loop-i
invariant-loop-i l = (length l.keys ≡ length l.others) × (take l.i l.keys ≡ take l.i l.others)
