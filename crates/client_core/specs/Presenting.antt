-- How a client presents a ticket (RFC 4120, section 5.5.1).
use Rattle.std.specs.Prelude.{ℕ, ℤ, pos, ◌≤◌, IfSome, List, length, Option, Some, None}
use Rattle.cred_files.specs.declared.principal.Principal.{Principal}
use Rattle.enctypes.specs.declared.key.Key.{Key}
use Rattle.krb_types.specs.ApReq.{ApReq}
use Rattle.krb_fields.specs.declared.numbers.TheConstants.{PVNO, AP_REQ}
use Rattle.krb_fields.specs.Typed.{Typed}
use Rattle.krb_fields.specs.declared.moment.Moment.{Moment}
use Rattle.krb_types.specs.Authenticator.{Authenticator, authenticator}
use Rattle.encrypted_data.specs.Encrypted.{encrypted}
use Rattle.encrypted_data.specs.Keys.{key_part}
use Rattle.client_core.specs.declared.sessions.Session.{Session}

-- a checksum of at most 16777216 bytes
abbrev pub IsShortChecksum : Option Typed → Type 0
IsShortChecksum checksum = IfSome checksum (λ c. length c.octets ≤ 16777216)

-- EncryptionKey (section 5.2.9) of a key that the client chose
abbrev pub subkey_part : Option Key → Option Typed
subkey_part (Some key) = Some (key_part key)
subkey_part None = None

abbrev pub number_part : Option ℕ → Option ℤ
number_part (Some number) = Some (pos number)
number_part None = None

-- the authenticator of this client at this moment, without authorization data
abbrev pub authenticator_of : Principal → Moment → Option Typed → Option Key → Option ℕ → Authenticator
authenticator_of client at cksum subkey seq_number = record {
  crealm = client.realm;
  cname = client.name;
  cksum = cksum;
  cusec = at.usec;
  ctime = at.sec;
  subkey = subkey_part subkey;
  seq_number = number_part seq_number;
  authorization_data = None;
}

-- the session's ticket, and the authenticator encrypted with its key; the options are bits, and `usage` is the key
-- usage
abbrev pub presents : Session → ℕ → ℕ → List ℕ → Authenticator → ApReq
presents session options usage confounder auth = record {
  pvno = PVNO;
  msg_type = pos AP_REQ;
  ap_options = options;
  ticket = session.ticket;
  authenticator = encrypted authenticator session.key usage None confounder auth;
}
