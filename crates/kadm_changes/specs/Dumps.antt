-- The database of a realm, from a dump of MIT's database.
use Rattle.std.specs.Prelude.{◌≡◌, ◌⊎◌, ◌++◌, ℕ, Bool, true, false, List, [], ◌∷◌, All, Option}
use Rattle.std.specs.FinMap.{from_entries}
use Rattle.cred_files.specs.Keytab.{IsKeytab}
use Rattle.cred_files.specs.declared.keytab_entry.KeytabEntry.{KeytabEntry}
use Rattle.file_store.specs.World.{World, IsRead}
use Rattle.mit_dump.specs.Dump.{IsDump}
use Rattle.mit_dump.specs.Entries.{AreEntries, preference}
use Rattle.mit_dump.specs.Losses.{losses}
use Rattle.mit_dump.specs.Place.{IsRealmOf, has_place, is_own}
use Rattle.mit_dump.specs.Policy.{policy_of}
use Rattle.mit_dump.specs.declared.principal.DumpedPrincipal.{DumpedPrincipal}
use Rattle.principal_rows.specs.NameMap.{pairs}
use Rattle.principal_rows.specs.declared.name_map.Entry.{Entry}
use Rattle.principal_rows.specs.declared.row.Row.{Row}
use Rattle.principals.specs.Database.{Principals}
use Rattle.principal_keys.specs.Keytabs.{AreVersionsOf}
use Rattle.kadm_changes.specs.declared.dump_import.DumpArgs.{DumpArgs}

-- ---- rows

-- the row of a principal: all versions of its keys, decrypted with the master key in the stash file, and its policy
pub record IsRowOf (stash : List KeytabEntry) (p : DumpedPrincipal) (row : Row) : Type 0 where
  pub keys : List KeytabEntry
  pub decrypted : AreEntries stash p keys
  pub versions : AreVersionsOf keys (p.realm ∷ p.name.components) (preference p.keys.items) row.versions
  pub policy : row.policy ≡ policy_of p.numbers

-- the rows with that of one more principal, if it has a place
abbrev pub IsPushedRow : Bool → List KeytabEntry → DumpedPrincipal → List (Entry Row) → List (Entry Row) → Type 0
IsPushedRow true stash p old new =
    (e : Entry Row) × (e.name.components ≡ p.name.components) × IsRowOf stash p e.value × (new ≡ old ++ e ∷ [])
IsPushedRow false stash p old new = new ≡ old

-- the rows of the principals that have a place, the last one first
abbrev pub AreRowsOf : List ℕ → List KeytabEntry → List DumpedPrincipal → List (Entry Row) → Type 0
AreRowsOf realm stash [] rows = rows ≡ []
AreRowsOf realm stash (p ∷ ps) rows =
    (later : List (Entry Row)) × AreRowsOf realm stash ps later × IsPushedRow (has_place realm p) stash p later rows

-- ---- the database

-- nothing of the principal is lost, unless it is one of MIT's own
abbrev pub LosesNothing : List ℕ → DumpedPrincipal → Type 0
LosesNothing realm p = (is_own p.name.components ≡ true) ⊎ (losses realm p ≡ [])

-- the database of the principals of a dump
pub record IsDatabaseOf (found : List DumpedPrincipal) (stash : List KeytabEntry) (skip : Bool)
    (new : Principals) : Type 0 where
  pub realm : IsRealmOf found new.realm
  pub kept : (skip ≡ true) ⊎ All (LosesNothing new.realm) found
  pub entries : List (Entry Row)
  pub rows : AreRowsOf new.realm stash found entries
  pub mapped : new.rows ≡ from_entries (pairs entries)

-- a path has a stash file, which is a keytab
abbrev pub IsStash : Option World → List ℕ → List KeytabEntry → Type 0
IsStash world path stash = (octets : List ℕ) × IsRead world path octets × IsKeytab stash octets

-- the same for the files of a command
pub record HasRealm (before : Option World) (from : DumpArgs) (new : Principals) : Type 0 where
  pub text : List ℕ
  pub dump_read : IsRead before from.dump.now text
  pub found : List DumpedPrincipal
  pub dumped : IsDump text found
  pub stash : List KeytabEntry
  pub stash_read : IsStash before from.stash.now stash
  pub made : IsDatabaseOf found stash from.skip new
