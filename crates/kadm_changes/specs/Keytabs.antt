-- The keytab that a command writes.
use Rattle.std.specs.Prelude.{◌≡◌, ◌⊎◌, ◌+◌, ◌<◌, ◌≤◌, ℕ, Bool, true}
use Rattle.std.specs.Prelude.{false, List, [], ◌∷◌, ◌++◌, drop, map, flat_map, codes}
use Rattle.std.specs.Prelude.{Option, Some, None, IfSome, Ok, ⊤}
use Rattle.std.specs.FinMap.{get}
use Rattle.enctypes.specs.Key.{ProtocolKey}
use Rattle.krb_elements.specs.Spells.{Items}
use Rattle.cred_files.specs.Keytab.{IsEnd, IsPart, keytab_text, part_text}
use Rattle.cred_files.specs.declared.keytab_entry.KeytabEntry.{KeytabEntry}
use Rattle.file_store.specs.World.{World, HasSeed, IsRead, IsThere}
use Rattle.krb_fields.specs.Name.{Components}
use Rattle.krb_fields.specs.PrincipalName.{Name}
use Rattle.principal_keys.specs.Keys.{drawn_keys, seeded}
use Rattle.principal_rows.specs.Versions.{current}
use Rattle.principal_rows.specs.declared.row.KeyVersion.{KeyVersion}
use Rattle.principal_rows.specs.declared.row.Row.{Row}
use Rattle.principals.specs.Database.{Principals}
use Rattle.principals_text.specs.Value.{text_database}
use Rattle.kadm_changes.specs.Owners.{IsOurs}
use Rattle.kadm_changes.specs.Realm.{IsOther}
use Rattle.kadm_changes.specs.Texts.{path_of}
use Rattle.kadm_changes.specs.declared.keytabs.KeytabArgs.{KeytabArgs}
use Rattle.kadm_changes.specs.declared.keytabs.KeytabContent.{KeytabContent}
use Rattle.kadm_changes.specs.declared.keytabs.KeytabContent.TheVariants.{Current, Appended, Next}

-- ---- where it may be written

-- the path of a file's lock
abbrev pub lock_of : List ℕ → List ℕ
lock_of path = path ++ codes ".lock"

-- the path has no database
abbrev pub IsNoDatabase : Option World → List ℕ → Type 0
IsNoDatabase world path =
    IfSome world (λ held. (text : List ℕ) → (p : Principals) → held.files path ≡ Some text → text_database text ≡ Ok p
    → ⊥)

-- how a file begins that a keytab may replace: it is empty, or has the first byte of a keytab
abbrev pub IsKeytabStart : Option ℕ → Type 0
IsKeytabStart None = ⊤
IsKeytabStart (Some octet) = octet ≡ 5

-- the path has no database, it has no lock beside it, and it is not a lock's path
pub record IsFreePath (world : Option World) (path : List ℕ) : Type 0 where
  pub no_database : IsNoDatabase world path
  pub no_lock : (other : List ℕ) → path ≡ lock_of other → ⊥
  pub alone : IsThere world (lock_of path) false

-- ---- its content

-- the entry for a key
abbrev pub entry_of : List ℕ → Name → ℕ → ProtocolKey → KeytabEntry
entry_of realm name number key = record { realm = realm; name = name; version = number; key = key }

-- an entry for each key of a version
abbrev pub entries_of : List ℕ → Name → KeyVersion → List KeytabEntry
entries_of realm name version = map (entry_of realm name version.number) version.keys

-- the same for several versions
abbrev pub all_entries : List ℕ → Name → List KeyVersion → List KeytabEntry
all_entries realm name versions = flat_map (entries_of realm name) versions

-- the version that is to follow this one: new keys of the same types, drawn from a seed in their order
pub record IsNextVersion (world : Option World) (named : Option (List ℕ)) (now next : KeyVersion) : Type 0 where
  pub follows : now.number < 4294967295
  pub number : next.number ≡ now.number + 1
  pub seed : List ℕ
  pub drawn : HasSeed world named seed
  pub keys : next.keys ≡ drawn_keys (seeded seed) (map (λ key. key.etype) now.keys)

-- the versions that a keytab gives out: the current one; or with it the next one, unless the principal is krbtgt/REALM
abbrev pub AreGivenOut : Option World → KeytabContent → List ℕ → Components → List KeyVersion → List KeyVersion → Type 0
AreGivenOut world Current realm who held versions = versions ≡ current held ∷ []
AreGivenOut world Appended realm who held versions = versions ≡ current held ∷ []
AreGivenOut world (Next seed) realm who held versions =
    (next : KeyVersion) × (versions ≡ current held ∷ next ∷ []) × IsNextVersion world (path_of seed) (current held) next
    × IsOther realm who

-- how many bytes a part has, by the number before it: as a signed one that is negative for a hole
abbrev pub IsSize : ℕ → ℕ → Type 0
IsSize number size = ((number < 2147483648) × (size ≡ number)) ⊎ ((2147483648 ≤ number) × (size + number ≡ 4294967296))

-- these bytes are parts of a keytab, and then this end
pub record EndsIn (octets end : List ℕ) : Type 0 where
  pub parts : List (Option KeytabEntry)
  pub text : List ℕ
  pub spells : Items IsPart parts text
  pub ends : IsEnd end
  pub all : octets ≡ text ++ end

-- a keytab up to its end: each of its parts, entries with other types and holes too
pub record IsKept (old front : List ℕ) : Type 0 where
  pub parts : List (Option KeytabEntry)
  pub text : List ℕ
  pub spells : Items IsPart parts text
  pub front_is : front ≡ 5 ∷ 2 ∷ text
  pub end : List ℕ
  pub ends : IsEnd end
  pub all : old ≡ 5 ∷ 2 ∷ (text ++ end)

abbrev pub appends : KeytabContent → Bool
appends Current = false
appends Appended = true
appends (Next seed) = false

-- what comes before the entries: the first bytes of a keytab, or the content of the one that is extended, which is ours
abbrev pub IsFront : Option World → Bool → List ℕ → List ℕ → Type 0
IsFront world false path front = front ≡ 5 ∷ 2 ∷ []
IsFront world true path front =
    (IsThere world path false × (front ≡ 5 ∷ 2 ∷ []))
    ⊎ (IsOurs world path × (old : List ℕ) × IsRead world path old × IsKept old front)

-- the keytab that is extended, up to its end, if there is one, and it is ours
abbrev pub IsOldKeytab : Option World → Bool → List ℕ → Option (List ℕ) → Type 0
IsOldKeytab world append path (Some front) =
    (append ≡ true) × IsOurs world path × (old : List ℕ) × IsRead world path old × IsKept old front
IsOldKeytab world true path None = IsThere world path false
IsOldKeytab world false path None = ⊤

-- a keytab with keys of a principal that exists
abbrev pub IsNewKeytab : Option World → KeytabContent → Principals → Name → List ℕ → Type 0
IsNewKeytab world content p name octets =
    (row : Row) × (get p.rows name.components ≡ Some row) × (versions : List KeyVersion)
    × AreGivenOut world content p.realm name.components row.versions versions
    × (octets ≡ keytab_text (all_entries p.realm name versions))

-- the entries of a new keytab after those of an old one
abbrev pub IsBehind : Option (List ℕ) → List ℕ → List ℕ → Type 0
IsBehind None new octets = octets ≡ new
IsBehind (Some front) new octets = octets ≡ front ++ drop 2 new

-- the keys that are given out of a principal that exists, after what comes before them
pub record IsKeytabFor (world : Option World) (to : KeytabArgs) (who : Components) (p : Principals)
    (octets : List ℕ) : Type 0 where
  pub row : Row
  pub found : get p.rows who ≡ Some row
  pub versions : List KeyVersion
  pub given : AreGivenOut world to.content p.realm who row.versions versions
  pub name : Name
  pub named : name.components ≡ who
  pub front : List ℕ
  pub starts : IsFront world (appends to.content) to.out.now front
  pub holds : octets ≡ front ++ flat_map part_text (all_entries p.realm name versions)
