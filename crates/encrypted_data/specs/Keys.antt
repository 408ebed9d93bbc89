-- Keys in messages (EncryptionKey: RFC 4120, section 5.2.9).
use Rattle.std.specs.Prelude.{ℕ, ℤ, nat_eq, if◌then◌else◌, List, length, Option, Some, None}
use Rattle.enctypes.specs.Etype.{number, key_len}
pub use Rattle.enctypes.specs.Numbered.{type_numbered}
use Rattle.enctypes.specs.declared.etype.Etype.{Etype}
use Rattle.enctypes.specs.declared.key.Key.{Key}
use Rattle.krb_fields.specs.Typed.{Typed}

-- the length must be right for the encryption type
abbrev pub key_if : Option Etype → List ℕ → Option Key
key_if (Some etype) octets =
    if nat_eq (length octets) (key_len etype) then Some (record { etype = etype; bytes = octets }) else None
key_if None octets = None

abbrev pub key_of : ℤ → List ℕ → Option Key
key_of n octets = key_if (type_numbered n) octets

-- the EncryptionKey that holds a key
abbrev pub key_part : Key → Typed
key_part key = record { number = number key.etype; octets = key.bytes }
