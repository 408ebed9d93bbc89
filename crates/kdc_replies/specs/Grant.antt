-- What is granted, as it stands in the ticket and in the part of the reply that the client decrypts (RFC 4120, sections
-- 5.3 and 5.4.2).
use Rattle.std.specs.Prelude.{ℕ, ℤ, ◌<◌, ◌≤◌, IfSome, List, [], ◌∷◌, length, take, Some, None}
use Rattle.enctypes.specs.declared.key.Key.{Key}
use Rattle.enctypes.specs.Etype.{key_len}
use Rattle.enctypes.specs.declared.etype.Etype.{Etype}
use Rattle.krb_elements.specs.Codec.{list_of}
use Rattle.krb_fields.specs.declared.numbers.TheConstants.{DOMAIN_X500_COMPRESS, LR_NONE}
use Rattle.krb_fields.specs.NameLimits.{IsWithinLimits}
use Rattle.krb_fields.specs.Typed.{Typed, typed}
use Rattle.krb_types.specs.EncKdcRepPart.{EncKdcRepPart}
use Rattle.krb_types.specs.EncTicketPart.{EncTicketPart}
use Rattle.encrypted_data.specs.Keys.{key_part}
use Rattle.kdc_replies.specs.declared.grant.Grant.{Grant}

-- A realm and names that have rows, whose encodings are short. What is copied from a ticket came in a request.
pub record IsShort (grant : Grant) : Type 0 where
  pub realm : length grant.realm ≤ 255
  pub client : IsWithinLimits grant.client.components
  pub service : IsWithinLimits grant.service.components
  pub authorization : IfSome grant.authorization_data (λ list. length ((list_of typed).text list) < 2147483648)

-- the first random bytes, as many as a key of the encryption type has, unchanged
abbrev pub session_key : Etype → List ℕ → Key
session_key etype random = record { etype = etype; bytes = take (key_len etype) (take 32 random) }

-- the realms between the client's and the service's: none, in the form DOMAIN-X500-COMPRESS (section 3.3.3.2)
abbrev pub no_realms : Typed
no_realms = record { number = DOMAIN_X500_COMPRESS; octets = [] }

abbrev pub ticket_part : Grant → EncTicketPart
ticket_part grant = record {
  flags = grant.flags;
  key = key_part grant.session_key;
  crealm = grant.realm;
  cname = grant.client;
  transited = no_realms;
  authtime = grant.authtime;
  starttime = Some grant.times.start;
  endtime = grant.times.end;
  renew_till = grant.times.renew_till;
  caddr = None;
  authorization_data = grant.authorization_data;
}

-- `nonce` is the request's, and `now` is the second of the answer
abbrev pub reply_part : Grant → ℤ → ℤ → EncKdcRepPart
reply_part grant nonce now = record {
  key = key_part grant.session_key;
  last_req = record { lr_type = LR_NONE; lr_value = now } ∷ [];
  nonce = nonce;
  key_expiration = None;
  flags = grant.flags;
  authtime = grant.authtime;
  starttime = Some grant.times.start;
  endtime = grant.times.end;
  renew_till = grant.times.renew_till;
  srealm = grant.realm;
  sname = grant.service;
  caddr = None;
}
