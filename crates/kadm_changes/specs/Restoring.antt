-- The effect of a restore.
use Rattle.std.specs.Prelude.{◌≡◌, ◌≢◌, ◌⊎◌, Bool, true, false, List, ℕ, Option, Some, None, ⊤, bytes_eq}
use Rattle.principal_rows.specs.Policy.{default_policy}
use Rattle.principal_rows.specs.declared.policy.Policy.{Policy}
use Rattle.principals.specs.Database.{Principals}
use Rattle.principals_text.specs.RefusedBytes.{RefusesBytes}
use Rattle.principals_text.specs.declared.read_fault.ReadError.{ReadError}
use Rattle.principals_text.specs.declared.read_fault.ReadError.TheVariants.{Memory}
use Rattle.file_store.specs.World.{World, IsRead, IsThere}
use Rattle.kadm_changes.specs.Realm.{KeepsRealm, tgs_policy}
use Rattle.kadm_changes.specs.Worlds.{HoldsDatabase, IsReadBack, with_database}

-- the path has a file with other bytes than those of a database
abbrev pub HoldsOther : Option World → List ℕ → Type 0
HoldsOther world db =
    (octets : List ℕ) × IsRead world db octets × (fault : ReadError) × (fault ≢ Memory) × RefusesBytes octets fault

-- the database that a path has, or none
abbrev pub HasOrNot : Option World → List ℕ → Option Principals → Type 0
HasOrNot world db None = IsThere world db false ⊎ HoldsOther world db
HasOrNot world db (Some p) = HoldsDatabase world db p

-- a database is of the realm of the one that it replaces
abbrev pub IsOfRealm : Option Principals → Principals → Type 0
IsOfRealm None new = ⊤
IsOfRealm (Some old) new = bytes_eq new.realm old.realm ≡ true

-- the policy of krbtgt/REALM before; without a database it is that of a new realm
abbrev pub replaced_policy : Option Principals → Policy
replaced_policy None = default_policy
replaced_policy (Some old) = tgs_policy old

-- the database of another file is put in place. It is of the same realm, and its krbtgt/REALM is as open as before
pub record Restored (before : Option World) (whole : Bool) (db from : List ℕ) (after : Option World) : Type 0 where
  pub new : Principals
  pub read : HoldsDatabase before from new
  pub old : Option Principals
  pub replaced : HasOrNot before db old
  pub realm : IsOfRealm old new
  pub kept : KeepsRealm whole before (replaced_policy old) (tgs_policy new)
  pub read_back : IsReadBack new
  pub written : after ≡ with_database db new before
