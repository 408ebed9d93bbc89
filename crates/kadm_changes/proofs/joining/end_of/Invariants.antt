use Rattle.std.proofs.Common.{List, ℕ, ◌≤◌, length}
use Rattle.kadm_changes.specs.Keytabs.{EndsIn}
use Rattle.kadm_changes.proofs.joining.end_of.Given as goal

abbrev pub invariant-loop-behind : goal.invariant-loop-behind
invariant-loop-behind l = ((end : List ℕ) → EndsIn l.parts end → EndsIn l.rest end) × (length l.rest ≤ length l.parts)

abbrev pub decreases-loop-behind : goal.decreases-loop-behind
decreases-loop-behind l = length l.rest
