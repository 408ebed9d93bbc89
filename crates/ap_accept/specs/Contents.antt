-- What an AP-REQ contains, as far as the keys of a keytab decrypt it (RFC 4120, section 3.2.3). A part is `None` if it
-- can't be decrypted, or if a part that it hangs on is `None`.
use Rattle.std.specs.Prelude.{ℤ, ⊤, List, ◌∷◌, Option, Some, None, if◌then◌else◌, option_and_then}
use Rattle.std.specs.Ordering.{int_eq}
use Rattle.cred_files.specs.Keytab.{entry_for}
use Rattle.cred_files.specs.declared.keytab_entry.KeytabEntry.{KeytabEntry}
use Rattle.enctypes.specs.Etype.{number}
use Rattle.enctypes.specs.KeyUsage.{usage_number}
use Rattle.enctypes.specs.declared.key.Key.{Key}
use Rattle.enctypes.specs.declared.key_usage.KeyUsage.TheVariants.{ApReqAuthenticator, Ticket as TicketUsage}
use Rattle.krb_types.specs.ApReq.{ApReq}
use Rattle.krb_fields.specs.Name.{Components}
use Rattle.krb_types.specs.Authenticator.{Authenticator, authenticator}
use Rattle.krb_types.specs.EncTicketPart.{EncTicketPart, enc_ticket_part}
use Rattle.replay.specs.ReplayCache.{verdict}
use Rattle.replay.specs.declared.verdict.Verdict.{Verdict}
use Rattle.encrypted_data.specs.Encrypted.{decrypted}
use Rattle.encrypted_data.specs.Keys.{key_of, type_numbered}
use Rattle.ap_accept.specs.State.{cache_of}
use Rattle.ap_accept.specs.declared.presented.Presented.{Presented}
use Rattle.ap_accept.specs.declared.state.State.{State}

-- the service that the ticket is for: its realm, and the components of its name
abbrev pub service_of : ApReq → Components
service_of ap = ap.ticket.realm ∷ ap.ticket.sname.components

-- The keytab's entry for the ticket: of its service, encryption type and key version. Without a version it is the one
-- with the highest.
abbrev pub entry_in : List KeytabEntry → ApReq → Option KeytabEntry
entry_in keytab ap =
    entry_for keytab (service_of ap) (type_numbered ap.ticket.enc_part.etype) ap.ticket.enc_part.kvno

-- the ticket's encrypted part, decrypted with the entry's key
abbrev pub ticket_in : ApReq → Option KeytabEntry → Option EncTicketPart
ticket_in ap (Some entry) = decrypted enc_ticket_part entry.key (usage_number TicketUsage) ap.ticket.enc_part
ticket_in ap None = None

-- the key in the ticket, if it is one of the four encryption types
abbrev pub session_key_in : Option EncTicketPart → Option Key
session_key_in (Some ticket) = key_of ticket.key.number ticket.key.octets
session_key_in None = None

-- the authenticator, decrypted with the session key, if it names the encryption type of that key
abbrev pub authenticator_in : ApReq → Option Key → Option Authenticator
authenticator_in ap (Some key) =
    if int_eq ap.authenticator.etype (number key.etype)
    then decrypted authenticator key (usage_number ApReqAuthenticator) ap.authenticator
    else None
authenticator_in ap None = None

-- the authenticator's subkey, if it has one that is a key of the four encryption types
abbrev pub subkey_of : Authenticator → Option Key
subkey_of auth = option_and_then (λ subkey. key_of subkey.number subkey.octets) auth.subkey

-- the verdict of the replay cache of this service and client on the authenticator's time
abbrev pub verdict_in : State → ℤ → ApReq → Option EncTicketPart → Option Authenticator → Option (Verdict ⊤)
verdict_in state now ap (Some ticket) (Some auth) =
    Some (verdict (cache_of state (service_of ap) ticket.cname.components) now (auth.ctime, auth.cusec)
    state.options.remembered)
verdict_in state now ap (Some ticket) None = None
verdict_in state now ap None auth = None

pub record Contents : Type 0 where
  pub entry : Option KeytabEntry
  pub ticket : Option EncTicketPart
  pub session_key : Option Key
  pub authenticator : Option Authenticator
  pub verdict : Option (Verdict ⊤)

-- each part is found by means of the part before it
abbrev pub with_authenticator : State → ℤ → ApReq → Option KeytabEntry → Option EncTicketPart → Option Key
    → Option Authenticator → Contents
with_authenticator state now ap entry ticket key auth = record {
  entry = entry;
  ticket = ticket;
  session_key = key;
  authenticator = auth;
  verdict = verdict_in state now ap ticket auth;
}

abbrev pub with_key : State → ℤ → ApReq → Option KeytabEntry → Option EncTicketPart → Option Key → Contents
with_key state now ap entry ticket key =
    with_authenticator state now ap entry ticket key (authenticator_in ap key)

abbrev pub with_ticket : State → ℤ → ApReq → Option KeytabEntry → Option EncTicketPart → Contents
with_ticket state now ap entry ticket = with_key state now ap entry ticket (session_key_in ticket)

abbrev pub contents : State → ℤ → ApReq → Contents
contents state now ap =
    with_ticket state now ap (entry_in state.keytab ap) (ticket_in ap (entry_in state.keytab ap))

-- ---- all of it

-- the ticket, its session key and the authenticator, if all are there
abbrev pub presented_if : ApReq → Option EncTicketPart → Option Key → Option Authenticator → Option Presented
presented_if ap (Some ticket) (Some key) (Some auth) = Some (record {
  service = record { name_type = ap.ticket.sname.name_type; components = service_of ap };
  sname = ap.ticket.sname;
  ticket = ticket;
  session_key = key;
  authenticator = auth;
  subkey = subkey_of auth;
})
presented_if ap (Some ticket) (Some key) None = None
presented_if ap (Some ticket) None auth = None
presented_if ap None key auth = None

abbrev pub presented_in : ApReq → Contents → Option Presented
presented_in ap c = presented_if ap c.ticket c.session_key c.authenticator
