-- The key of a keytab that decrypts a ticket (RFC 4120, section 5.3).
use Rattle.std.specs.Prelude.{is_some, List, ◌∷◌, Option, None, option_map}
use Rattle.cred_files.specs.Keytab.{entry_for, newest, passes}
use Rattle.cred_files.specs.declared.keytab_entry.KeytabEntry.{KeytabEntry}
use Rattle.enctypes.specs.declared.key.Key.{Key}
use Rattle.krb_fields.specs.Name.{Components}
use Rattle.krb_types.specs.Ticket.{Ticket}
use Rattle.encrypted_data.specs.Keys.{type_numbered}
use Rattle.ap_req.specs.HeldKey.{HeldKey}

-- a service is known by its realm and the components of its name
abbrev pub service_of : Ticket → Components
service_of ticket = ticket.realm ∷ ticket.sname.components

-- the key with the ticket's encryption type and key version
abbrev pub ticket_key : List KeytabEntry → Ticket → Option Key
ticket_key keytab ticket =
    option_map (λ e. e.key)
    (entry_for keytab (service_of ticket) (type_numbered ticket.enc_part.etype) ticket.enc_part.kvno)

-- what the keytab holds for a ticket: an entry for the service, one of the ticket's encryption type, and the key
abbrev pub held_in : List KeytabEntry → Ticket → HeldKey
held_in keytab ticket = record {
  is_for_us = is_some (newest (passes (service_of ticket) None None) keytab);
  has_type = is_some (entry_for keytab (service_of ticket) (type_numbered ticket.enc_part.etype) None);
  key = ticket_key keytab ticket;
}
