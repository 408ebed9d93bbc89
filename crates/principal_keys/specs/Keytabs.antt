-- The keys of a principal in a keytab, in all their versions.
use Rattle.std.specs.Prelude.{◌≡◌, ◌==◌, ◌&&◌, ◌⊎◌, ◌<◌, ℕ, max, Bool, true, nat_lt, [], ◌∷◌, ◌++◌, List, All, AllPairs}
use Rattle.std.specs.Prelude.{if◌then◌else◌, IsTrue, filter_map, length}
use Rattle.std.specs.Prelude.{Option, Some, None, option_map}
use Rattle.std.specs.List.{list_any}
use Rattle.enctypes.specs.declared.etype.Etype.{Etype}
use Rattle.enctypes.specs.Key.{ProtocolKey}
use Rattle.cred_files.specs.Keytab.{is_of, newest, passes}
use Rattle.cred_files.specs.declared.keytab_entry.KeytabEntry.{KeytabEntry}
use Rattle.krb_fields.specs.Name.{Components}
use Rattle.principal_rows.specs.KeyList.{has_type_twice}
use Rattle.principal_rows.specs.Versions.{IsVersions}
use Rattle.principal_rows.specs.declared.row.KeyVersion.{KeyVersion}

-- the key with a version and a type: of several the last one in the file
abbrev pub key_at : List KeytabEntry → Components → ℕ → Etype → Option ProtocolKey
key_at entries service number etype = option_map (λ e. e.key)
    (newest (passes service (Some etype) (Some number)) entries)

-- the keys with a version and these types, in the order of the types
abbrev pub keys_at : List KeytabEntry → Components → List Etype → ℕ → List ProtocolKey
keys_at entries service etypes number = filter_map (key_at entries service number) etypes

abbrev pub has_number : ℕ → List KeyVersion → Bool
has_number number versions = list_any (λ v. v.number == number) versions

-- a principal's version is there, if the keytab has a key of it with one of these types
abbrev pub IsThereIfHeld : List KeytabEntry → Components → List Etype → List KeyVersion → ℕ → Type 0
IsThereIfHeld entries service etypes versions number =
    (keys_at entries service etypes number ≡ []) ⊎ IsTrue (has_number number versions)

abbrev pub IsComplete : List KeytabEntry → Components → List Etype → List KeyVersion → Type 0
IsComplete entries service etypes versions =
    All (λ e. IsTrue (is_of service e) → IsThereIfHeld entries service etypes versions e.version) entries

-- ---- one version after another, the greatest number first

abbrev pub is_below : Option ℕ → ℕ → Bool
is_below None number = true
is_below (Some bound) number = nat_lt number bound

abbrev pub greater : ℕ → Option ℕ → ℕ
greater number None = number
greater number (Some other) = max number other

-- the greatest number below a bound among a principal's versions, if there is one
abbrev pub next_number : Components → Option ℕ → List KeytabEntry → Option ℕ
next_number service bound [] = None
next_number service bound (e ∷ es) =
    if is_of service e && is_below bound e.version then Some (greater e.version (next_number service bound es))
    else next_number service bound es

-- with one more version, if it has a key
abbrev pub with_version : ℕ → List ProtocolKey → List KeyVersion → List KeyVersion
with_version number [] versions = versions
with_version number (key ∷ keys) versions = versions ++ record { number = number; keys = key ∷ keys } ∷ []

-- the numbers are descending, and each version has a key
abbrev pub AreOrdered : List KeyVersion → Type 0
AreOrdered versions = AllPairs (λ v w. w.number < v.number) versions × All (λ v. 0 < length v.keys) versions

-- ---- all of them

-- each version with its keys in the keytab
abbrev pub AreTaken : List KeytabEntry → Components → List Etype → List KeyVersion → Type 0
AreTaken entries service etypes versions =
    All (λ v. v.keys ≡ keys_at entries service etypes v.number) versions × IsComplete entries service etypes versions

-- each version of a principal with its keys in the keytab, the greatest number first
pub record AreVersionsOf (entries : List KeytabEntry) (service : Components) (etypes : List Etype)
    (versions : List KeyVersion) : Type 0 where
  pub fit : IsVersions versions
  pub taken : AreTaken entries service etypes versions

-- ---- why there are none

-- no version of the principal has a key with one of these types
abbrev pub HasNoKeys : List KeytabEntry → Components → List Etype → Type 0
HasNoKeys entries service etypes =
    All (λ e. IsTrue (is_of service e) → keys_at entries service etypes e.version ≡ []) entries

-- version 0 has such a key; no row can have that version
abbrev pub HasKeyOfZero : List KeytabEntry → Components → List Etype → Type 0
HasKeyOfZero entries service etypes = ¬ (keys_at entries service etypes 0 ≡ [])

-- the keys of some version have an encryption type twice
abbrev pub IsDoubled : List KeytabEntry → Components → List Etype → Type 0
IsDoubled entries service etypes = (number : ℕ) × IsTrue (has_type_twice (keys_at entries service etypes number))
