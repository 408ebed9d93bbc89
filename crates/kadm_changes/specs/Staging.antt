-- The next version of a principal's keys, which a keytab brings.
use Rattle.std.specs.Prelude.{◌≡◌, ◌==◌, ◌&&◌, ◌||◌, ◌+◌, ℕ, Bool, true, ◌∷◌, List, filter_map, Option, Some, None}
use Rattle.std.specs.Prelude.{if◌then◌else◌}
use Rattle.std.specs.List.{list_all}
use Rattle.std.specs.FinMap.{get}
use Rattle.enctypes.specs.Key.{ProtocolKey}
use Rattle.cred_files.specs.Keytab.{IsKeytab, is_of}
use Rattle.cred_files.specs.declared.keytab_entry.KeytabEntry.{KeytabEntry}
use Rattle.file_store.specs.World.{World, IsRead}
use Rattle.krb_fields.specs.Name.{Components}
use Rattle.principal_rows.specs.Versions.{current}
use Rattle.principal_rows.specs.declared.row.KeyVersion.{KeyVersion}
use Rattle.principal_rows.specs.declared.row.Row.{Row}
use Rattle.principals.specs.Database.{Principals}
use Rattle.principals.specs.declared.change.RowChange.TheVariants as row_changes
use Rattle.kadm_changes.specs.Granting.{Makes}
use Rattle.kadm_changes.specs.Realm.{IsOther}
use Rattle.kadm_changes.specs.Texts.{Text}

-- the key of an entry, if it has this version
abbrev pub key_numbered : ℕ → KeytabEntry → Option ProtocolKey
key_numbered number e = if e.version == number then Some e.key else None

-- the keys with this version, in the order of the entries
abbrev pub keys_numbered : ℕ → List KeytabEntry → List ProtocolKey
keys_numbered number entries = filter_map (key_numbered number) entries

-- an entry is the principal's, with one of these two versions
abbrev pub is_staged : Components → ℕ → ℕ → KeytabEntry → Bool
is_staged service number next e = is_of service e && (e.version == number || e.version == next)

-- a keytab is of a principal alone, and has its current version and, with these keys, the next one
pub record IsNext (service : Components) (now : KeyVersion) (entries : List KeytabEntry)
    (keys : List ProtocolKey) : Type 0 where
  pub alone : list_all (is_staged service now.number (now.number + 1)) entries ≡ true
  pub same : keys_numbered now.number entries ≡ now.keys
  pub next : keys_numbered (now.number + 1) entries ≡ keys

-- the keytab at a path is so, and these keys are new
pub record HasNextKeys (world : Option World) (path : Text) (service : Components) (now : KeyVersion)
    (keys : List ProtocolKey) : Type 0 where
  pub octets : List ℕ
  pub read : IsRead world path octets
  pub entries : List KeytabEntry
  pub keytab : IsKeytab entries octets
  pub next : IsNext service now entries keys

-- the next version of a principal's keys, as the keytab at a path has it, is now the current one. The principal is not
-- krbtgt/REALM
pub record IsStaged (world : Option World) (path : Text) (who : Components) (p new : Principals) : Type 0 where
  pub service : IsOther p.realm who
  pub row : Row
  pub found : get p.rows who ≡ Some row
  pub keys : List ProtocolKey
  pub next : HasNextKeys world path (p.realm ∷ who) (current row.versions) keys
  pub made : Makes p who (row_changes.NewKeys keys) new
