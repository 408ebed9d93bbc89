-- The key of a password, given a KDC's information about its types (RFC 4120, section 5.2.7.5).
use Rattle.std.specs.Prelude.{ℕ, ◌==◌, ◌&&◌, nat_le, if◌then◌else◌, List, length, Option, Some, None, Result, Ok, Err}
use Rattle.std.specs.Prelude.{find, is_some}
use Rattle.std.specs.Int.{w32, from_be_bytes}
use Rattle.std.specs.Option.{unwrap_or}
use Rattle.enctypes.specs.declared.etype.Etype.{Etype}
use Rattle.enctypes.specs.declared.key.Key.{Key}
use Rattle.enctypes.specs.Derivation.{string_key}
use Rattle.enctypes.specs.Etype.{default_count}
use Rattle.krb_fields.specs.PrincipalName.{Name}
use Rattle.krb_fields.specs.Salt.{default_salt}
use Rattle.krb_types.specs.EtypeInfo2Entry.{EtypeInfo2Entry}
use Rattle.encrypted_data.specs.Keys.{type_numbered}
use Rattle.client_core.specs.declared.fault.ReplyError.{ReplyError}
use Rattle.client_core.specs.declared.fault.ReplyError.TheVariants.{CannotOpen, CountTooLarge}

-- ---- the count of iterations: four bytes, the most significant first; without them the type's own

abbrev pub count_if : ℕ → Option ℕ
count_if n = if nat_le 1 n && nat_le n 1048576 then Some n else None

abbrev pub count_in : List ℕ → Option ℕ
count_in params = if length params == 4 then count_if (from_be_bytes w32 params) else None

abbrev pub count_of : Etype → Option (List ℕ) → Option ℕ
count_of etype (Some params) = count_in params
count_of etype None = Some (default_count etype)

abbrev pub salt_of : List ℕ → Name → EtypeInfo2Entry → List ℕ
salt_of realm name entry = unwrap_or entry.salt (default_salt realm name.components)

-- ---- the key

abbrev pub key_by : Etype → List ℕ → List ℕ → Option ℕ → Result Key ReplyError
key_by etype pass salt (Some count) = Ok (record { etype = etype; bytes = string_key etype pass salt count })
key_by etype pass salt None = Err CountTooLarge

abbrev pub key_as : List ℕ → List ℕ → Name → EtypeInfo2Entry → Option Etype → Result Key ReplyError
key_as pass realm name entry (Some etype) =
    key_by etype pass (salt_of realm name entry) (count_of etype entry.s2kparams)
key_as pass realm name entry None = Err CannotOpen

-- the first entry with one of the four types
abbrev pub entry_of : List EtypeInfo2Entry → Option EtypeInfo2Entry
entry_of info = find (λ entry. is_some (type_numbered entry.etype)) info

abbrev pub key_in : List ℕ → List ℕ → Name → Option EtypeInfo2Entry → Result Key ReplyError
key_in pass realm name (Some entry) = key_as pass realm name entry (type_numbered entry.etype)
key_in pass realm name None = Err CannotOpen

abbrev pub password_key : List ℕ → List ℕ → Name → List EtypeInfo2Entry → Result Key ReplyError
password_key pass realm name info = key_in pass realm name (entry_of info)
