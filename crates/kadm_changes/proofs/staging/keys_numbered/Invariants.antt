use Rattle.std.proofs.Common.{◌≡◌, ◌++◌, drop, filter_map}
use Rattle.kadm_changes.specs.Staging.{key_numbered}
use Rattle.kadm_changes.proofs.staging.keys_numbered.Given as goal

abbrev pub invariant-loop-entry : goal.invariant-loop-entry
invariant-loop-entry l =
    l.keys.items ++ filter_map (key_numbered l.number) (drop l.entry-index l.entries) ≡ filter_map (key_numbered l.number) l.entries
