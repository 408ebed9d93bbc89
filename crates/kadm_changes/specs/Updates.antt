-- The effect of the commands that change a database.
use Rattle.std.specs.Prelude.{◌≡◌, ℕ, Bool, List, ◌∷◌, map, Option, Some, None, ⊤}
use Rattle.enctypes.specs.declared.etype.Etype.{Etype}
use Rattle.file_store.specs.Input.{Input, IsTyped}
use Rattle.file_store.specs.World.{World, HasFirstLine, HasSeed}
use Rattle.krb_fields.specs.Name.{Components}
use Rattle.krb_fields.specs.NameText.{IsNameText}
use Rattle.krb_fields.specs.Salt.{default_salt}
use Rattle.principal_keys.specs.Keys.{drawn_keys, password_key, seeded}
use Rattle.principal_rows.specs.declared.row.KeyVersion.{KeyVersion}
use Rattle.principals.specs.Database.{Principals}
use Rattle.kadm_changes.specs.Asking.{Asked, all_asked}
use Rattle.kadm_changes.specs.Changing.{AreChanged, AreSet}
use Rattle.kadm_changes.specs.Denying.{migrated_rows}
use Rattle.kadm_changes.specs.Granting.{IsCleared, IsGranted}
use Rattle.kadm_changes.specs.Importing.{HasVersions, Imports}
use Rattle.kadm_changes.specs.Realm.{KeepsRealm, MayHaveKeys, tgs_policy}
use Rattle.kadm_changes.specs.Staging.{IsStaged}
use Rattle.kadm_changes.specs.Texts.{Text, path_of, texts}
use Rattle.kadm_changes.specs.declared.changes.ChangeArgs.{ChangeArgs}
use Rattle.kadm_changes.specs.declared.granting.Grant.{Grant}
use Rattle.kadm_changes.specs.declared.target.Target.{Target}
use Rattle.kadm_changes.specs.declared.updates.RowArgs.{RowArgs}
use Rattle.kadm_changes.specs.declared.updates.RowUpdate.{RowUpdate}
use Rattle.kadm_changes.specs.declared.updates.RowUpdate.TheVariants as rows
use Rattle.kadm_changes.specs.declared.updates.Update.{Update}
use Rattle.kadm_changes.specs.declared.updates.Update.TheVariants as updates

-- ---- one row

-- a password is the first line of its file, if one is named, and else what is typed next
abbrev pub IsPasswordOf : Option World → Option Input → Option Text → List ℕ → Type 0
IsPasswordOf world input (Some path) pass = HasFirstLine world path pass
IsPasswordOf world input None pass = IsTyped input pass

-- the password that a change of a row takes, if it takes one
abbrev pub IsSecretOf : Option World → Option Input → RowUpdate → List ℕ → Type 0
IsSecretOf world input (rows.Password to) pass = IsPasswordOf world input (path_of to.password.file) pass
IsSecretOf world input (rows.Random to) pass = ⊤
IsSecretOf world input (rows.Staged keytab) pass = ⊤
IsSecretOf world input (rows.Import keytab) pass = ⊤

-- the keys of a password, and the expiry of the old one is cleared
abbrev pub GivesPassword : Option World → List Etype → List ℕ → Grant → Components → Principals → Principals → Type 0
GivesPassword world etypes pass grant who p new =
    (given : Principals) × IsGranted grant who (map (password_key pass (default_salt p.realm who)) etypes) p given
    × IsCleared who given new

-- keys drawn from a seed: of a file, if one is named, or else of the system
abbrev pub GivesRandom : Option World → List Etype → Option Text → Grant → Components → Principals → Principals → Type 0
GivesRandom world etypes named grant who p new =
    (seed : List ℕ) × HasSeed world named seed × IsGranted grant who (drawn_keys (seeded seed) etypes) p new

-- a new principal, with its keys from a keytab
abbrev pub IsImported : Option World → List Etype → Text → Components → Principals → Principals → Type 0
IsImported world etypes keytab who p new =
    (versions : List KeyVersion) × HasVersions world keytab (p.realm ∷ who) etypes versions × Imports p who versions new

abbrev pub IsRowGiven : Option World → List Etype → List ℕ → RowUpdate → Components → Principals → Principals → Type 0
IsRowGiven world etypes pass (rows.Password to) who p new = GivesPassword world etypes pass to.grant who p new
IsRowGiven world etypes pass (rows.Random to) who p new = GivesRandom world etypes (path_of to.seed) to.grant who p new
IsRowGiven world etypes pass (rows.Staged keytab) who p new = IsStaged world keytab.now who p new
IsRowGiven world etypes pass (rows.Import keytab) who p new = IsImported world etypes keytab.now who p new

-- a principal is given keys, and then these settings
abbrev pub IsRowChanged : Option World → List Etype → List Asked → List ℕ → RowUpdate → Components → Principals
    → Principals → Type 0
IsRowChanged world etypes settings pass how who p new =
    (given : Principals) × IsRowGiven world etypes pass how who p given × AreSet world settings who given new

-- the same, and nobody is kept out of the realm: krbtgt/REALM gets no keys of a password, and stays as open as it was
abbrev pub IsRowKept : Option World → Bool → List Etype → List Asked → List ℕ → RowUpdate → Components → Principals
    → Principals → Type 0
IsRowKept world whole etypes settings pass how who p new =
    IsRowChanged world etypes settings pass how who p new × MayHaveKeys whole new.realm who how
    × KeepsRealm whole world (tgs_policy p) (tgs_policy new)

-- the row of the principal that a text names is changed
pub record IsRowUpdated (world : Option World) (input : Option Input) (whole : Bool) (target : Target) (to : RowArgs)
    (p : Principals) (new : Principals) : Type 0 where
  pub who : Components
  pub spelled : IsNameText who to.name.now
  pub pass : List ℕ
  pub secret : IsSecretOf world input to.how pass
  pub changed : IsRowKept world whole target.etypes.items (all_asked target.settings.items) pass to.how who p new

-- the principals that are named are changed, and krbtgt/REALM stays as open as it was
abbrev pub AreKept : Option World → Bool → Target → ChangeArgs → Principals → Principals → Type 0
AreKept world whole target how p new =
    AreChanged world (all_asked target.settings.items) how (texts target.names.items) p new
    × KeepsRealm whole world (tgs_policy p) (tgs_policy new)

abbrev pub IsMigrated : Option World → Bool → Bool → Principals → Principals → Type 0
IsMigrated world whole users_are_no_services p new =
    (new ≡ migrated_rows users_are_no_services p) × KeepsRealm whole world (tgs_policy p) (tgs_policy new)

abbrev pub IsUpdated : Option World → Option Input → Bool → Target → Update → Principals → Principals → Type 0
IsUpdated world input whole target (updates.Row to) p new = IsRowUpdated world input whole target to p new
IsUpdated world input whole target (updates.Changes how) p new = AreKept world whole target how p new
IsUpdated world input whole target (updates.Migrate users_are_no_services) p new =
    IsMigrated world whole users_are_no_services p new
