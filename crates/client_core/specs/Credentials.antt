-- The credential in a reply (RFC 4120, section 3.1.5): its ticket, and the KDC's description of it.
use Rattle.std.specs.Prelude.{ℕ, ℤ, pos, ◌%◌, unsigned_abs, int_le, int_lt, Bool, true, ◌&&◌, List, [], map, Option}
use Rattle.std.specs.Prelude.{Some, None}
use Rattle.std.specs.Bool.{then_some}
use Rattle.std.specs.List.{list_all}
use Rattle.std.specs.Option.{unwrap_or}
use Rattle.client_core.specs.declared.credentials.Parties.{Parties}
use Rattle.cred_files.specs.declared.credential.Credential.{Credential}
use Rattle.cred_files.specs.declared.credential.SessionKey.{SessionKey}
use Rattle.cred_files.specs.declared.credential.Times.{Times}
use Rattle.cred_files.specs.declared.credential.TypedOctets.{TypedOctets}
use Rattle.krb_elements.specs.Codec.{written}
use Rattle.krb_fields.specs.Typed.{Typed}
use Rattle.krb_types.specs.EncKdcRepPart.{EncKdcRepPart}
use Rattle.krb_types.specs.KdcRep.{KdcRep}
use Rattle.krb_types.specs.Ticket.{ticket}

-- ---- the type of a key or of an address, for which a credential has 16 bits

abbrev pub has_16_bits : ℤ → Bool
has_16_bits number = int_le (pos 0) number && int_lt number (pos 65536)

-- the number itself, if it fits in 16 bits
abbrev pub in_16_bits : ℤ → ℕ
in_16_bits number = unsigned_abs number % 65536

abbrev pub is_short_type : Typed → Bool
is_short_type typed = has_16_bits typed.number

abbrev pub are_short_types : Option (List Typed) → Bool
are_short_types (Some list) = list_all is_short_type list
are_short_types None = true

abbrev pub has_room : EncKdcRepPart → Bool
has_room part = is_short_type part.key && are_short_types part.caddr

-- ---- the credential

abbrev pub address_of : Typed → TypedOctets
address_of address = record { data_type = in_16_bits address.number; octets = address.octets }

-- no addresses if none are sent
abbrev pub addresses_of : Option (List Typed) → List TypedOctets
addresses_of (Some list) = map address_of list
addresses_of None = []

abbrev pub key_of : Typed → SessionKey
key_of key = record { key_type = in_16_bits key.number; octets = key.octets }

abbrev pub parties_of : (type : ℕ) → KdcRep type → EncKdcRepPart → Parties
parties_of type reply part = record {
  client = record { realm = reply.crealm; name = reply.cname };
  server = record { realm = part.srealm; name = part.sname };
  key = key_of part.key;
}

-- a time that is absent is the start of 1970
abbrev pub times_of : EncKdcRepPart → Times
times_of part = record {
  auth_time = part.authtime;
  start_time = unwrap_or part.starttime (pos 0);
  end_time = part.endtime;
  renew_till = unwrap_or part.renew_till (pos 0);
}

abbrev pub credential_of : (type : ℕ) → KdcRep type → EncKdcRepPart → Credential
credential_of type reply part = record {
  client = record { realm = reply.crealm; name = reply.cname };
  server = record { realm = part.srealm; name = part.sname };
  key = key_of part.key;
  times = times_of part;
  flags = part.flags;
  addresses = addresses_of part.caddr;
  authorization = [];
  ticket = written ticket reply.ticket;
  second_ticket = [];
}

-- the credential, if each type fits in 16 bits
abbrev pub credential_in : (type : ℕ) → KdcRep type → EncKdcRepPart → Option Credential
credential_in type reply part = then_some (has_room part) (credential_of type reply part)
