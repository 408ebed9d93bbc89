use Rattle.std.proofs.Common.{◌≡◌, map, take}
use Rattle.std.specs.FinMap.{entries}
use Rattle.kadm_changes.specs.Denying.{is_user}
use Rattle.kadm_changes.proofs.Users.{passing}
use Rattle.kadm_changes.proofs.denying.users_of.Given as goal

abbrev pub invariant-loop-place : goal.invariant-loop-place
invariant-loop-place l =
    map (λ name. name.components) l.users.items ≡ passing is_user (take l.place (entries l.database.rows))
