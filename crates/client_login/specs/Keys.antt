-- The keys of a client, from its password or its keytab, that a KDC names.
use Rattle.std.specs.Prelude.{◌≡◌, ℕ, ℤ, nat_lt, Bool, false, if◌then◌else◌, List, [], ◌∷◌, ◌++◌}
use Rattle.std.specs.Prelude.{Option, Some, None, option_map, is_some, Ok}
use Rattle.client_core.specs.Passwords as passwords
use Rattle.cred_files.specs.Keytab.{newest, passes}
use Rattle.cred_files.specs.declared.keytab_entry.KeytabEntry.{KeytabEntry}
use Rattle.cred_files.specs.declared.principal.Principal.{Principal}
use Rattle.enctypes.specs.Etype.{default_count}
use Rattle.enctypes.specs.declared.etype.Etype.{Etype}
use Rattle.enctypes.specs.declared.etype.Etype.TheVariants.{Aes128CtsHmacSha1_96, Aes256CtsHmacSha1_96}
use Rattle.enctypes.specs.declared.etype.Etype.TheVariants.{Aes128CtsHmacSha256_128, Aes256CtsHmacSha384_192}
use Rattle.enctypes.specs.declared.key.Key.{Key}
use Rattle.krb_fields.specs.Name.{Components}
use Rattle.krb_fields.specs.PrincipalName.{Name}
use Rattle.krb_types.specs.EtypeInfo2Entry.{EtypeInfo2Entry}
use Rattle.client_login.specs.declared.secrets.Secret.{Secret}
use Rattle.client_login.specs.declared.secrets.Secret.TheVariants as secrets
use Rattle.client_login.specs.declared.secrets.Password.{Password}
use Rattle.encrypted_data.specs.Keys.{type_numbered}

-- ---- a keytab

-- a principal is its realm and the components of its name; of its keys with one type this is the one with the greatest
-- version
abbrev pub key_typed : List KeytabEntry → Components → Option Etype → Option Key
key_typed keytab who (Some etype) = option_map (λ e. e.key) (newest (passes who (Some etype) None) keytab)
key_typed keytab who None = None

abbrev pub key_numbered : List KeytabEntry → Components → ℤ → Option Key
key_numbered keytab who number = key_typed keytab who (type_numbered number)

-- the first of two that is present
abbrev pub or_later : Option Key → Option Key → Option Key
or_later (Some key) later = Some key
or_later None later = later

-- the key with the first type that the KDC names and the keytab has
abbrev pub key_named : List KeytabEntry → Components → List EtypeInfo2Entry → Option Key
key_named keytab who [] = None
key_named keytab who (entry ∷ entries) = or_later (key_numbered keytab who entry.etype) (key_named keytab who entries)

-- a key of the keytab, with one of the four types
pub record IsKeytabKey (keytab : List KeytabEntry) (who : Components) (key : Key) : Type 0 where
  pub number : ℤ
  pub held : key_numbered keytab who number ≡ Some key

-- ---- a password, and the least count of iterations

-- the least count: the one that was chosen, or else the type's default
abbrev pub least_count : Option ℕ → Etype → ℕ
least_count (Some least) etype = least
least_count None etype = default_count etype

abbrev pub is_below : ℕ → Option ℕ → Bool
is_below least (Some count) = nat_lt count least
is_below least None = false

abbrev pub is_weak_as : Option ℕ → Option (List ℕ) → Option Etype → Bool
is_weak_as least params (Some etype) = is_below (least_count least etype) (passwords.count_of etype params)
is_weak_as least params None = false

abbrev pub is_weak_if : Option ℕ → Option EtypeInfo2Entry → Bool
is_weak_if least (Some entry) = is_weak_as least entry.s2kparams (type_numbered entry.etype)
is_weak_if least None = false

-- the entry that the key is derived from requests fewer iterations than the least count
abbrev pub is_weak : Option ℕ → List EtypeInfo2Entry → Bool
is_weak least info = is_weak_if least (passwords.entry_of info)

-- the password's key, given a KDC's information about the client's types; not a weak one
pub record IsPasswordKey (password : Password) (realm : List ℕ) (name : Name) (key : Key) : Type 0 where
  pub info : List EtypeInfo2Entry
  pub made : passwords.password_key password.octets realm name info ≡ Ok key
  pub strong : is_weak password.least_count info ≡ false

-- ---- either

-- a key of the client
abbrev pub IsOwnKey : Secret → List ℕ → Name → Key → Type 0
IsOwnKey (secrets.Password password) realm name key = IsPasswordKey password realm name key
IsOwnKey (secrets.Keytab keytab) realm name key = IsKeytabKey keytab (realm ∷ name.components) key

-- ---- the key that decrypts the reply to a request with a timestamp

-- for a password the timestamp's; for a keytab the one with the type that the reply is encrypted with
abbrev pub next_key : Secret → Components → Key → ℤ → Option Key
next_key (secrets.Password password) who key number = Some key
next_key (secrets.Keytab keytab) who key number = key_numbered keytab who number

-- ---- the requested types

-- those that a client accepts, the preferred one first
abbrev pub offered : List Etype
offered = Aes256CtsHmacSha1_96 ∷ Aes128CtsHmacSha1_96 ∷ Aes256CtsHmacSha384_192 ∷ Aes128CtsHmacSha256_128 ∷ []

-- these types, and after them this one if the keytab has a key with it
abbrev pub with_held : List KeytabEntry → Components → Etype → List Etype → List Etype
with_held keytab who etype etypes =
    if is_some (newest (passes who (Some etype) None) keytab) then etypes ++ (etype ∷ []) else etypes

-- the types for which the keytab has a key
abbrev pub held_types : List KeytabEntry → Components → List Etype
held_types keytab who =
    with_held keytab who Aes128CtsHmacSha256_128
    (with_held keytab who Aes256CtsHmacSha384_192
    (with_held keytab who Aes128CtsHmacSha1_96 (with_held keytab who Aes256CtsHmacSha1_96 [])))

abbrev pub etypes_for : Secret → Principal → List Etype
etypes_for (secrets.Password password) client = offered
etypes_for (secrets.Keytab keytab) client = held_types keytab (client.realm ∷ client.name.components)
