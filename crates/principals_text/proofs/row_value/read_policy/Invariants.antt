use Rattle.std.proofs.Common.{◌≡◌, drop}
use Rattle.serde_json.specs.View.{view}
use Rattle.principals_text.specs.RowValue.{policy_with, policy_of}
use Rattle.principals_text.proofs.row_value.read_policy.Given as goal

abbrev pub invariant-loop-setting : goal.invariant-loop-setting
invariant-loop-setting l =
    policy_with l.format (view l.row) (drop l.setting-index l.setting-items) l.policy ≡ policy_of l.format (view l.row)
