-- The keys of a principal, decrypted with the realm's master key.
use Rattle.std.specs.Prelude.{◌≡◌, ◌==◌, ◌&&◌, ◌+◌, ◌*◌, ◌++◌, not, ℕ, pos, nat_le, List, [], ◌∷◌, length, take, Option}
use Rattle.std.specs.Prelude.{Some, None}
use Rattle.std.specs.Prelude.{if◌then◌else◌}
use Rattle.std.specs.List.{filter}
use Rattle.enctypes.specs.declared.etype.Etype.{Etype}
use Rattle.enctypes.specs.Etype.{is_same, key_len}
use Rattle.enctypes.specs.Key.{ProtocolKey}
use Rattle.enctypes.specs.Numbered.{type_numbered}
use Rattle.enctypes.specs.Sealing.{opened}
use Rattle.cred_files.specs.declared.keytab_entry.KeytabEntry.{KeytabEntry}
use Rattle.mit_dump.specs.Master.{master_key}
use Rattle.mit_dump.specs.declared.principal.DumpedPrincipal.{DumpedPrincipal}
use Rattle.mit_dump.specs.declared.stored_key.StoredKey.{StoredKey}

-- the encryption type of a key that has a place in a row: the key has one of the four types, and its version is not 0
abbrev pub place_of : StoredKey → Option Etype
place_of k = if k.version == 0 then None else type_numbered (pos k.key.tag)

-- ---- a key

-- the key in the first bytes of a text, if there are as many as its type requires
abbrev pub key_within : Etype → ℕ → List ℕ → Option ProtocolKey
key_within etype size text =
    if nat_le size (length text)
    && size == key_len etype then Some (record { etype = etype; bytes = take size text }) else None

abbrev pub key_in : Etype → ℕ → Option (List ℕ) → Option ProtocolKey
key_in etype size (Some text) = key_within etype size text
key_in etype size None = None

-- two bytes with the key's length, the lower first, and then the key, encrypted with the master key for key usage 0
abbrev pub key_from : ProtocolKey → Etype → List ℕ → Option ProtocolKey
key_from master etype (low ∷ high ∷ cipher) =
    key_in etype (low + 256 * high) (opened master.etype master.bytes 0 cipher)
key_from master etype _ = None

-- ---- all keys

-- the entries with that of one more key, if it has a place
abbrev pub IsPushedBy : DumpedPrincipal → ProtocolKey → StoredKey → Option Etype → List KeytabEntry → List KeytabEntry
    → Type 0
IsPushedBy p master k None old new = new ≡ old
IsPushedBy p master k (Some etype) old new =
    (e : KeytabEntry) × (new ≡ old ++ e ∷ []) × (e.realm ≡ p.realm) × (e.name ≡ p.name) × (e.version ≡ k.version)
    × (key_from master etype k.key.octets ≡ Some e.key)

abbrev pub IsPushed : DumpedPrincipal → ProtocolKey → StoredKey → List KeytabEntry → List KeytabEntry → Type 0
IsPushed p master k old new = IsPushedBy p master k (place_of k) old new

-- the entries of keys, the last key first
abbrev pub ArePushed : DumpedPrincipal → ProtocolKey → List StoredKey → List KeytabEntry → Type 0
ArePushed p master [] entries = entries ≡ []
ArePushed p master (k ∷ ks) entries =
    (later : List KeytabEntry) × ArePushed p master ks later × IsPushed p master k later entries

-- the entries of a principal, decrypted with its master key in the stash file
abbrev pub AreEntries : List KeytabEntry → DumpedPrincipal → List KeytabEntry → Type 0
AreEntries stash p entries =
    (master : ProtocolKey) × (master_key stash p ≡ Some master) × ArePushed p master p.keys.items entries

-- ---- the types

-- the types, with this one moved to the front
abbrev pub with_first : Option Etype → List Etype → List Etype
with_first None etypes = etypes
with_first (Some etype) etypes = etype ∷ filter (λ other. not (is_same other etype)) etypes

-- the types of the keys that have a place: each once, in the order of the keys
abbrev pub preference : List StoredKey → List Etype
preference [] = []
preference (k ∷ ks) = with_first (place_of k) (preference ks)
