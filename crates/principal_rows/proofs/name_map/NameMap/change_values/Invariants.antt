use Rattle.std.proofs.Common.{◌≡◌}
use Rattle.rule_lists.proofs.Changed.{changed_first}
use Rattle.principal_rows.specs.NameMap.{pairs}
use Rattle.principal_rows.proofs.name_map.NameMap.change_values.Given as goal

-- the values before this index are changed
abbrev pub invariant-loop-entry : goal.invariant-loop-entry
invariant-loop-entry g l = pairs l.entry-items ≡ changed_first (g.C.ValueChange.changed l.change) l.entry-index (pairs l.initial.entry-items)
