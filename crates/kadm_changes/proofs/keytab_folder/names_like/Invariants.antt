use Rattle.std.proofs.Common.{◌≡◌, ◌++◌, drop, map}
use Rattle.std.specs.FinMap as rows
use Rattle.principal_rows.specs.NameMap.{pairs}
use Rattle.kadm_changes.specs.Patterns.{names_like}
use Rattle.kadm_changes.proofs.keytab_folder.names_like.Given as goal

-- the names so far, with those that are to come, are all that fit
abbrev pub invariant-loop-entry : goal.invariant-loop-entry
invariant-loop-entry l =
    map (λ name. name.components) l.names.items ++ names_like l.pattern (pairs (drop l.entry-index l.entry-items))
    ≡ names_like l.pattern (rows.entries l.database.rows)
