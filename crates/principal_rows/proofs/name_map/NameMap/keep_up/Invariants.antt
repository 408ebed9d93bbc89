use Rattle.std.proofs.Common.{◌≡◌}
use Rattle.principal_rows.proofs.name_map.NameMap.keep_up.Given as goal

-- the entries are as they were
abbrev pub invariant-loop-place : goal.invariant-loop-place
invariant-loop-place g l = l.self-inside.entries.items ≡ l.initial.self-inside.entries.items
