-- The session of a credential: a ticket, and the session key in the ticket.
use Rattle.std.specs.Prelude.{ℕ, pos, Bool, ◌&&◌, nat_le, IsTrue, List, length, Option, Some, None, is_some}
use Rattle.cred_files.specs.declared.credential.Credential.{Credential}
use Rattle.enctypes.specs.declared.key.Key.{Key}
use Rattle.krb_elements.specs.Format.{whole}
use Rattle.krb_fields.specs.NameLimits.{is_component, is_within_limits}
use Rattle.krb_types.specs.Ticket.{Ticket, ticket}
use Rattle.encrypted_data.specs.Keys.{key_of}
use Rattle.encrypted_data.specs.Parts.{ok_of}
use Rattle.client_core.specs.declared.sessions.Session.{Session}

-- the key, if its type is one of the four
abbrev pub session_key : Credential → Option Key
session_key credential = key_of (pos credential.key.key_type) credential.key.octets

-- the Ticket that bytes encode
abbrev pub ticket_in : List ℕ → Option Ticket
ticket_in octets = ok_of (whole ticket.at octets)

abbrev pub session_by : Option Ticket → Option Key → Option Session
session_by (Some t) (Some key) = Some (record { ticket = t; key = key })
session_by _ _ = None

abbrev pub session : Credential → Option Session
session credential = session_by (ticket_in credential.ticket) (session_key credential)

-- a credential that can be presented: it has a session, its client is within the limits of names, and its ticket has at
-- most 16777216 bytes
abbrev pub is_presentable : Credential → Bool
is_presentable credential =
    is_some (session_key credential)
    && is_some (ticket_in credential.ticket)
    && is_component credential.client.realm
    && is_within_limits credential.client.name.components
    && nat_le (length credential.ticket) 16777216

abbrev pub IsPresentable : Credential → Type 0
IsPresentable credential = IsTrue (is_presentable credential)
