-- A new principal with the keys that a keytab has of it, in all their versions.
use Rattle.std.specs.Prelude.{◌≡◌, ℕ, List, Option, None}
use Rattle.enctypes.specs.declared.etype.Etype.{Etype}
use Rattle.cred_files.specs.Keytab.{IsKeytab}
use Rattle.cred_files.specs.declared.keytab_entry.KeytabEntry.{KeytabEntry}
use Rattle.file_store.specs.World.{World, IsRead}
use Rattle.krb_fields.specs.Name.{Components}
use Rattle.principal_rows.specs.declared.row.KeyVersion.{KeyVersion}
use Rattle.principals.specs.Database.{Principals}
use Rattle.principals.specs.Importing.{import_refusal, imported}
use Rattle.principal_keys.specs.Keytabs.{AreVersionsOf}

-- the versions of a principal's keys in the keytab at a path
abbrev pub HasVersions : Option World → List ℕ → Components → List Etype → List KeyVersion → Type 0
HasVersions world path service etypes versions =
    (octets : List ℕ) × IsRead world path octets × (entries : List KeytabEntry) × IsKeytab entries octets
    × AreVersionsOf entries service etypes versions

-- a new principal with these versions of its keys
pub record Imports (p : Principals) (who : Components) (versions : List KeyVersion) (new : Principals) : Type 0 where
  pub allowed : import_refusal p who ≡ None
  pub made : new ≡ imported p who versions
