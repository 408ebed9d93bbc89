-- Principals for which tickets are denied.
use Rattle.std.specs.Prelude.{◌==◌, Bool, true, false, List, [], ◌∷◌, length, map, Option, Some, None}
use Rattle.std.specs.List.{filter}
use Rattle.std.specs.FinMap.{entries, get}
use Rattle.krb_fields.specs.Name.{Components}
use Rattle.principal_rows.specs.declared.row.Row.{Row}
use Rattle.principals.specs.Change.{row_changed}
use Rattle.principals.specs.Database.{Principals}
use Rattle.principals.specs.declared.change.RowChange.TheVariants as row_changes

abbrev pub denied_in : Components → Option Row → Principals → Principals
denied_in who None p = p
denied_in who (Some row) p = row_changed p who (row_changes.SetPolicy (record row.policy { service = false }))

-- tickets for the principal are denied; the rest of its row is unchanged
abbrev pub denied : Components → Principals → Principals
denied who p = denied_in who (get p.rows who) p

-- the same for each of these, one after another
abbrev pub all_denied : List Components → Principals → Principals
all_denied [] p = p
all_denied (who ∷ more) p = all_denied more (denied who p)

-- a user's name has one component, such as alice; a service's has two, such as host/www.example.com
abbrev pub is_user : Components → Bool
is_user who = length who == 1

-- the names of users, in order
abbrev pub users : Principals → List Components
users p = filter is_user (map (λ entry. entry.0) (entries p.rows))

-- the rows after `migrate`: tickets for users are denied, if users are not services
abbrev pub migrated_rows : Bool → Principals → Principals
migrated_rows true p = all_denied (users p) p
migrated_rows false p = p
