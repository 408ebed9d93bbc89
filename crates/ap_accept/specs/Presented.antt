-- The decrypted contents of an AP-REQ, or the first rule that refuses it (RFC 4120, section 3.2.3).
use Rattle.std.specs.Prelude.{ℕ, List, ◌∷◌, Option, Result, Ok}
use Rattle.enctypes.specs.declared.key.Key.{Key}
use Rattle.enctypes.specs.declared.key_usage.KeyUsage.TheVariants.{ApReqAuthenticator}
use Rattle.krb_types.specs.ApReq.{ApReq}
use Rattle.krb_fields.specs.PrincipalName.{Name}
use Rattle.krb_types.specs.Authenticator.{Authenticator}
use Rattle.krb_types.specs.EncTicketPart.{EncTicketPart}
use Rattle.cred_files.specs.declared.keytab_entry.KeytabEntry.{KeytabEntry}
use Rattle.rule_lists.specs.Stages.{◌>>=◌}
use Rattle.ap_req.specs.Authenticators.{authenticator_of, session_key_of}
use Rattle.ap_req.specs.Keytab.{held_in}
use Rattle.ap_req.specs.Tickets.{shown_ticket}
use Rattle.ap_req.specs.declared.authenticated.Authenticated.{Authenticated}
use Rattle.ap_req.specs.declared.refusal.ApRefusal.{ApRefusal}
use Rattle.ap_accept.specs.Authenticators.{subkey_of}
use Rattle.ap_accept.specs.declared.presented.Presented.{Presented}

-- the service's name with its realm as the first component
abbrev pub full_name : List ℕ → Name → Name
full_name realm name = record { name_type = name.name_type; components = realm ∷ name.components }

abbrev pub presented_as : ApReq → EncTicketPart → Key → Authenticator → Option Key → Presented
presented_as ap part key auth subkey = record {
  service = full_name ap.ticket.realm ap.ticket.sname;
  sname = ap.ticket.sname;
  ticket = part;
  session_key = key;
  authenticator = auth;
  subkey = subkey;
}

-- the proof that the sender has the ticket's session key
abbrev pub authenticated : ApReq → EncTicketPart → Result Authenticated ApRefusal
authenticated ap part = do
  key ← session_key_of ap.ticket.realm part
  auth ← authenticator_of ApReqAuthenticator key ap.authenticator
  subkey ← subkey_of part auth
  Ok (record { session_key = key; authenticator = auth; subkey = subkey })

-- the request's ticket and authenticator, decrypted and checked
abbrev pub presented : List KeytabEntry → ApReq → Result Presented ApRefusal
presented keytab ap = do
  part ← shown_ticket (held_in keytab ap.ticket) ap
  shown ← authenticated ap part
  Ok (presented_as ap part shown.session_key shown.authenticator shown.subkey)
