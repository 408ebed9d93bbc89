-- A keytab.
use Rattle.std.specs.Prelude.{◌≡◌, ◌⊎◌, ℕ, ℤ, pos, negsuc, ◌-◌, ◌^◌, ◌%◌, ◌<◌, ◌≤◌, ◌==◌, ◌&&◌}
use Rattle.std.specs.Prelude.{Bool, true, nat_lt, unsigned_abs, All}
use Rattle.std.specs.Prelude.{List, [], ◌∷◌, ◌++◌, length, take, flat_map, option_to_list, if◌then◌else◌, Option, Some}
use Rattle.std.specs.Prelude.{None, Result, Ok, Err, refl}
use Rattle.std.specs.Ordering.{eq_by_cmp}
use Rattle.std.specs.Int.{w32, to_be_bytes, from_be_bytes}
use Rattle.enctypes.specs.declared.etype.Etype.{Etype}
use Rattle.enctypes.specs.Etype.{key_len, number, is_same}
use Rattle.enctypes.specs.Key.{ProtocolKey}
use Rattle.enctypes.specs.Numbered.{type_numbered}
use Rattle.krb_elements.specs.Spells.{Items}
use Rattle.krb_fields.specs.Name.{Components, name_cmp}
use Rattle.cred_files.specs.declared.fault.CredError.{CredError}
use Rattle.cred_files.specs.declared.fault.CredError.TheVariants.{BadEntry, Memory}
use Rattle.cred_files.specs.declared.keytab_entry.EntryFields.{EntryFields}
use Rattle.cred_files.specs.declared.keytab_entry.KeyFields.{KeyFields}
use Rattle.cred_files.specs.declared.keytab_entry.KeytabEntry.{KeytabEntry}
use Rattle.cred_files.specs.declared.keytab.Miss.{Miss}
use Rattle.cred_files.specs.declared.keytab.Miss.TheVariants.{NoService, NoEtype, NoVersion}
use Rattle.cred_files.specs.declared.width.Width.TheVariants.{Two}
use Rattle.cred_files.specs.Format.{Format, ◌>>◌, octet, word16, signed32, blank, counted_octets, after_count}
use Rattle.cred_files.specs.Format.{structure}

-- ---- an entry

-- a time, the key version, the encryption type, the key
abbrev pub key_fields : Format KeyFields
key_fields = structure (blank 4 >> octet >> word16 >> counted_octets Two)
    (λ v. record { version = v.1.0; key_type = v.1.1.0; octets = v.1.1.1 })
    (λ k. (tt, (k.version, (k.key_type, k.octets))))
    (λ v. refl) (λ k. refl)

-- the fields of an entry's key
abbrev pub key_fields_of : EntryFields → KeyFields
key_fields_of e = record { version = e.version; key_type = e.key_type; octets = e.key }

-- the number of components, the realm, the components, the name-type, the fields of the key
unfoldable pub entry_fields : Format EntryFields
entry_fields =
    structure (after_count Two (counted_octets Two) (counted_octets Two) >> signed32 >> key_fields)
    (λ v. record {
      realm = v.0.0;
      name = record { name_type = v.1.0; components = v.0.1 };
      version = v.1.1.version;
      key_type = v.1.1.key_type;
      key = v.1.1.octets;
    })
    (λ e. ((e.realm, e.name.components), (e.name.name_type, key_fields_of e)))
    (λ v. refl) (λ e. refl)

-- a version of four bytes counts if it is there and not zero
abbrev pub unless_zero : ℕ → ℕ → ℕ
unless_zero short long = if long == 0 then short else long

abbrev pub version_of : ℕ → List ℕ → ℕ
version_of short more = if nat_lt (length more) 4 then short else unless_zero short (from_be_bytes w32 (take 4 more))

-- an entry with an unsupported encryption type counts as none; a key must have the length for its encryption type
abbrev pub entry_of : EntryFields → ℕ → Option Etype → Result (Option KeytabEntry) CredError
entry_of fields version None = Ok None
entry_of fields version (Some etype) =
    if length fields.key == key_len etype
    then Ok (Some (record {
      realm = fields.realm;
      name = fields.name;
      version = version;
      key = record { etype = etype; bytes = fields.key };
    }))
    else Err BadEntry

-- what the bytes of an entry mean: its fields, a version or none, and bytes that are ignored
pub record IsEntry (found : Option KeytabEntry) (content : List ℕ) : Type 0 where
  pub fields : EntryFields
  pub front : List ℕ
  pub more : List ℕ
  pub spells : entry_fields.form.Spells fields front
  pub all : content ≡ front ++ more
  pub says : entry_of fields (version_of fields.version more) (type_numbered (pos fields.key_type)) ≡ Ok found

-- ---- the keytab and its bytes

-- an entry after its length
abbrev pub IsHeld : Option KeytabEntry → List ℕ → Type 0
IsHeld found bytes =
    (content : List ℕ) × (0 < length content) × (length content < 2 ^ 31) × IsEntry found content
    × (bytes ≡ to_be_bytes w32 (length content) ++ content)

-- a hole after its length, which is written as a negative number
abbrev pub IsHole : List ℕ → Type 0
IsHole bytes =
    (content : List ℕ) × (0 < length content) × (length content ≤ 2 ^ 31)
    × (bytes ≡ to_be_bytes w32 (2 ^ 32 - length content) ++ content)

abbrev pub IsPart : Option KeytabEntry → List ℕ → Type 0
IsPart found bytes = IsHeld found bytes ⊎ (IsHole bytes × (found ≡ None))

-- nothing, or a length of zero, which ends the reading
abbrev pub IsEnd : List ℕ → Type 0
IsEnd bytes = (bytes ≡ []) ⊎ ((rest : List ℕ) × (bytes ≡ 0 ∷ 0 ∷ 0 ∷ 0 ∷ rest))

-- 05 02, the parts, and the end
pub record IsKeytab (entries : List KeytabEntry) (bytes : List ℕ) : Type 0 where
  pub parts : List (Option KeytabEntry)
  pub front : List ℕ
  pub end : List ℕ
  pub spells : Items IsPart parts front
  pub ends : IsEnd end
  pub all : bytes ≡ 5 ∷ 2 ∷ (front ++ end)
  pub held : entries ≡ flat_map option_to_list parts

-- ---- what is written

-- the fields of an entry, with the last byte of the version and no time
abbrev pub written_fields : KeytabEntry → EntryFields
written_fields e = record {
  realm = e.realm;
  name = e.name;
  version = e.version % 256;
  key_type = unsigned_abs (number e.key.etype);
  key = e.key.bytes;
}

-- the fields, followed by the version in four bytes
abbrev pub entry_text : KeytabEntry → List ℕ
entry_text e = entry_fields.form.text (written_fields e) ++ to_be_bytes w32 e.version

-- an entry after its length
abbrev pub part_text : KeytabEntry → List ℕ
part_text e = to_be_bytes w32 (length (entry_text e)) ++ entry_text e

abbrev pub keytab_text : List KeytabEntry → List ℕ
keytab_text entries = 5 ∷ 2 ∷ flat_map part_text entries

-- the lengths and the count of an entry's texts fit in two bytes each
abbrev pub HasCounts : KeytabEntry → Type 0
HasCounts e =
    (length e.name.components < 2 ^ 16) × (length e.realm < 2 ^ 16) × All (λ c. length c < 2 ^ 16) e.name.components

-- the same, and the length of the entry is below those that mean holes
abbrev pub HasRoom : KeytabEntry → Type 0
HasRoom e = HasCounts e × (length (entry_text e) < 2 ^ 31)

-- why something is not written: it doesn't fit, or memory ran out
abbrev pub IsNotWritten : Type 0 → CredError → Type 0
IsNotWritten Room BadEntry = Room → ⊥
IsNotWritten Room Memory = Unit {0}
IsNotWritten Room fault = ⊥

-- ---- finding entries

-- a service is known by its realm and the components of its name
abbrev pub is_of : Components → KeytabEntry → Bool
is_of service e = eq_by_cmp name_cmp (e.realm ∷ e.name.components) service

-- the key has this encryption type, if one is given
abbrev pub is_typed : Option Etype → ProtocolKey → Bool
is_typed None key = true
is_typed (Some etype) key = is_same key.etype etype

-- the number is this key version, if one is given
abbrev pub is_numbered : Option ℕ → ℕ → Bool
is_numbered None number = true
is_numbered (Some version) number = number == version

abbrev pub passes : Components → Option Etype → Option ℕ → KeytabEntry → Bool
passes service etype version e = is_of service e && (is_typed etype e.key && is_numbered version e.version)

-- the one with the higher key version; if they are equal, the later one
abbrev pub newer : KeytabEntry → Option KeytabEntry → KeytabEntry
newer e None = e
newer e (Some later) = if nat_lt later.version e.version then e else later

-- of the entries that pass, the last one with the highest key version
unfoldable pub newest : (KeytabEntry → Bool) → List KeytabEntry → Option KeytabEntry
newest test [] = None
newest test (e ∷ es) = if test e then Some (newer e (newest test es)) else newest test es

-- The entry that an encrypted part names by its encryption type and key version: without a version the one with the
-- highest, and the last one if there are several. No entry has a negative version.
abbrev pub entry_for : List KeytabEntry → Components → Option Etype → Option ℤ → Option KeytabEntry
entry_for entries service (Some etype) (Some (pos version)) =
    newest (passes service (Some etype) (Some version)) entries
entry_for entries service (Some etype) (Some (negsuc n)) = None
entry_for entries service (Some etype) None = newest (passes service (Some etype) None) entries
entry_for entries service None kvno = None

-- what is missing, if there is no such entry: the first of service, encryption type and key version
abbrev pub miss_of : Option KeytabEntry → Option KeytabEntry → Miss
miss_of None typed = NoService
miss_of (Some e) None = NoEtype
miss_of (Some e) (Some f) = NoVersion

abbrev pub missing : List KeytabEntry → Components → Etype → Miss
missing entries service etype =
    miss_of (newest (passes service None None) entries) (newest (passes service (Some etype) None) entries)
