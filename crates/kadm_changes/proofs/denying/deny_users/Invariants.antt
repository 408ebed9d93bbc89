use Rattle.std.proofs.Common.{◌≡◌, map, drop}
use Rattle.kadm_changes.specs.Denying.{all_denied}
use Rattle.kadm_changes.proofs.denying.deny_users.Given as goal

-- denying the remaining names in the current database gives the result of denying all names in the first one
abbrev pub invariant-loop-user : goal.invariant-loop-user
invariant-loop-user l =
    all_denied (map (λ name. name.components) (drop l.user-index l.user-items)) l.draft.database
    ≡ all_denied (map (λ name. name.components) l.user-items) l.initial.draft.database
