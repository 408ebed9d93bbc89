use Rattle.std.proofs.Common.{◌≡◌, drop}
use Rattle.kadm_changes.proofs.Older.{dropped}
use Rattle.kadm_changes.proofs.granting.drop_older.Given as goal

-- dropping the remaining numbers from the current database gives the result of dropping all numbers from the first one
abbrev pub invariant-loop-number : goal.invariant-loop-number
invariant-loop-number l =
    dropped l.who.components (drop l.number-index l.number-items) l.draft.database ≡ dropped l.who.components l.number-items l.initial.draft.database
