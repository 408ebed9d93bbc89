-- Bytes that are sealed, opened and checked with a key, as C hands it over.
use Rattle.std.specs.Prelude.{◌≡◌, ℕ, ℤ, Bool, true, false, nat_eq, List, length, take, Option, Some, None}
use Rattle.std.specs.Prelude.{option_and_then}
use Rattle.std.specs.Cmp.Lexicographic.{pointwise}
use Rattle.enctypes.specs.ApplicationUsage.{IsApplicationUsage}
use Rattle.enctypes.specs.Etype.{key_len}
use Rattle.enctypes.specs.Key.{ProtocolKey}
use Rattle.encrypted_data.specs.Keys.{key_of, type_numbered}
use Rattle.enctypes.specs.Sealing.{mac}
use Rattle.krb_fields.specs.declared.code.Code.TheVariants as codes
use Rattle.ap_accept.specs.Protection.{shared_key}
use Rattle.ap_accept.specs.declared.accepted.Accepted.{Accepted}
use Rattle.ap_accept_c.specs.Buffers.{IsGiven}
use Rattle.ap_accept_c.specs.declared.raw_key.RawKey.{RawKey}
use Rattle.ap_accept_c.specs.declared.service.Service.{Service}
use Rattle.ap_accept_c.specs.declared.status.Status.{Status}
use Rattle.ap_accept_c.specs.declared.status.Status.TheVariants.{Done, NoMemory, BadArgument, Closed, Absent, Failed}

-- ---- keys

-- the key of the encryption type with this number: the first of the bytes, as many as it has
abbrev pub key_in : ℤ → List ℕ → Option ProtocolKey
key_in number octets = option_and_then (λ e. key_of number (take (key_len e) octets)) (type_numbered number)

-- it is the key that the service shares with the client that it accepted last, if it accepted one; else nothing changes
abbrev pub IsSharedKeyOf : Status → Option Accepted → RawKey → RawKey → Type 0
IsSharedKeyOf status (Some accepted) old new = (status ≡ Done)
    × (key_in new.number new.octets ≡ Some (shared_key accepted))
IsSharedKeyOf status None old new = (status ≡ Absent) × (new ≡ old)

abbrev pub IsSharedKey : Status → Option Service → RawKey → RawKey → Type 0
IsSharedKey status (Some service) old new = IsSharedKeyOf status service.last.accepted old new
IsSharedKey status None old new = (status ≡ Closed) × (new ≡ old)

-- ---- what a key and a usage are for

-- a mistake of the caller, which changes nothing
abbrev pub IsRefused : Status → List ℕ → List ℕ → ℕ → Type 0
IsRefused status old new len = (status ≡ BadArgument) × (new ≡ old) × (len ≡ 0)

-- with a key and the number of a usage this is done; without a key, or with another number, nothing
pub record IsDone (key : Option ProtocolKey) (usage : ℕ) (Nothing : Type 0) (Did : ProtocolKey → Type 0) : Type 0 where
  pub no_key : key ≡ None → Nothing
  pub no_usage : (IsApplicationUsage usage → ⊥) → Nothing
  pub did : (k : ProtocolKey) → key ≡ Some k → IsApplicationUsage usage → Did k

-- the bytes are copied to the buffer, unless memory ran out
abbrev pub IsMade : Status → List ℕ → List ℕ → List ℕ → ℕ → Type 0
IsMade NoMemory made old new len = (new ≡ old) × (len ≡ 0)
IsMade status made old new len = IsGiven status made old new × (len ≡ length made)

-- the text is copied to the buffer, if one was sealed to the cipher, unless memory ran out
abbrev pub IsUnsealed : Status → Option (List ℕ) → List ℕ → List ℕ → ℕ → Type 0
IsUnsealed NoMemory text old new len = (new ≡ old) × (len ≡ 0)
IsUnsealed status (Some text) old new len = IsGiven status text old new × (len ≡ length text)
IsUnsealed status None old new len = (status ≡ Failed codes.KrbApErrBadIntegrity) × (new ≡ old) × (len ≡ 0)

abbrev pub status_if : Bool → Status
status_if true = Done
status_if false = Failed codes.KrbApErrModified

-- whether the bytes are the checksum of the text
abbrev pub verified : ProtocolKey → ℕ → List ℕ → List ℕ → Status
verified key usage text octets = status_if (pointwise nat_eq octets (mac key.etype key.bytes usage text))
