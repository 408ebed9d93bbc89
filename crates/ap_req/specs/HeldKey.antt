-- The key that decrypts a ticket (RFC 4120, section 3.2.3).
use Rattle.std.specs.Prelude.{Bool, not, ◌&&◌, ◌||◌, is_some, is_none, Option}
use Rattle.enctypes.specs.declared.key.Key.{Key}
use Rattle.krb_fields.specs.EncryptedData.{EncryptedData}

-- What a server holds for a ticket: whether it is for one of its services, whether that service has a key of the
-- ticket's encryption type, and the service's key of that type. The key is that of the version that the ticket names,
-- or else of the current one.
pub record HeldKey : Type 0 where
  pub is_for_us : Bool
  pub has_type : Bool
  pub key : Option Key

-- no version has a key of the encryption type, or the ticket names no version and the current one has none
abbrev pub lacks_key : HeldKey → EncryptedData → Bool
lacks_key held sealed = not held.has_type || (is_none sealed.kvno && is_none held.key)

-- the ticket names a key version that has no key of the encryption type
abbrev pub lacks_version : HeldKey → EncryptedData → Bool
lacks_version held sealed = is_some sealed.kvno && is_none held.key
