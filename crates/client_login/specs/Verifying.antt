-- A service ticket that the service's keytab decrypts, with the client and the session key of the credential (RFC 4120,
-- section 5.3).
use Rattle.std.specs.Prelude.{◌≡◌, ℕ, ℤ, pos, nat_eq, Bool, true, not, ◌&&◌, if◌then◌else◌, List, Option, Some, None}
use Rattle.std.specs.Prelude.{Result, Ok, Err}
use Rattle.std.specs.Cmp.Lexicographic.{pointwise}
use Rattle.std.specs.Ordering.{int_eq}
use Rattle.std.specs.declared.net.socket_addr.SocketAddr.{SocketAddr}
use Rattle.ap_req.specs.Keytab.{ticket_key}
use Rattle.ap_req.specs.Validity.{has_ended, has_not_started, ticket_terms}
use Rattle.client_core.specs.Replies.{is_principal}
use Rattle.client_core.specs.Sessions.{ticket_in}
use Rattle.client_core.specs.Taken.{AreSame}
use Rattle.client_core.specs.declared.asked.Asked.{Asked}
use Rattle.cred_files.specs.declared.credential.Credential.{Credential}
use Rattle.cred_files.specs.declared.credential.SessionKey.{SessionKey}
use Rattle.cred_files.specs.declared.keytab_entry.KeytabEntry.{KeytabEntry}
use Rattle.enctypes.specs.KeyUsage.{usage_number}
use Rattle.enctypes.specs.declared.key.Key.{Key}
use Rattle.enctypes.specs.declared.key_usage.KeyUsage.TheVariants as usages
use Rattle.krb_fields.specs.Typed.{Typed}
use Rattle.krb_fields.specs.declared.ticket_flag.TicketFlag.TheVariants.{Invalid}
use Rattle.krb_types.specs.Ticket.{Ticket}
use Rattle.krb_types.specs.EncTicketPart.{EncTicketPart, enc_ticket_part}
use Rattle.rule_lists.specs.Refusals.{unless_found}
use Rattle.encrypted_data.specs.Parts.{opened_as}
use Rattle.ticket_times.specs.TicketTerms.{has_flag}
use Rattle.client_login.specs.Faults.{IsFurtherFault}
use Rattle.client_login.specs.Logins.{IsFurther}
use Rattle.client_login.specs.declared.faults.LoginError.{LoginError}
use Rattle.client_login.specs.declared.faults.LoginError.TheVariants.{NoServiceKey, OtherTicket}
use Rattle.client_login.specs.declared.faults.LoginError.TheVariants.{TicketNotOpened, TicketNotValid}

-- ---- what a keytab decrypts a ticket to

-- with the key usage of tickets
abbrev pub part_under : Key → Ticket → Option EncTicketPart
part_under key ticket =
    opened_as enc_ticket_part key.etype key.bytes (usage_number usages.Ticket) ticket.enc_part.cipher

abbrev pub part_by : Option Key → Ticket → Result EncTicketPart LoginError
part_by (Some key) ticket = unless_found (part_under key ticket) TicketNotOpened
part_by None ticket = Err NoServiceKey

-- with the keytab's key of the ticket's encryption type and key version
abbrev pub part_in : List KeytabEntry → Option Ticket → Result EncTicketPart LoginError
part_in keytab (Some ticket) = part_by (ticket_key keytab ticket) ticket
part_in keytab None = Err TicketNotOpened

-- ---- the credential's own ticket

abbrev pub is_session_key : SessionKey → Typed → Bool
is_session_key key typed = int_eq typed.number (pos key.key_type) && pointwise nat_eq typed.octets key.octets

-- it has the credential's client and session key
abbrev pub is_of : Credential → EncTicketPart → Bool
is_of credential part =
    is_principal part.crealm part.cname credential.client.realm credential.client.name
    && is_session_key credential.key part.key

abbrev pub if_of : Credential → Result EncTicketPart LoginError → Result EncTicketPart LoginError
if_of credential (Ok part) = if is_of credential part then Ok part else Err OtherTicket
if_of credential (Err doubt) = Err doubt

abbrev pub opened : List KeytabEntry → Credential → Result EncTicketPart LoginError
opened keytab credential = if_of credential (part_in keytab (ticket_in credential.ticket))

-- the bytes encode a ticket, the keytab's key for it decrypts it, and what is decrypted has the client and the session
-- key that the KDC's reply named
pub record IsTicketOf (keytab : List KeytabEntry) (credential : Credential) : Type 0 where
  pub ticket : Ticket
  pub key : Key
  pub part : EncTicketPart
  pub spelled : ticket_in credential.ticket ≡ Some ticket
  pub named : ticket_key keytab ticket ≡ Some key
  pub opens : part_under key ticket ≡ Some part
  pub client : AreSame part.crealm part.cname credential.client.realm credential.client.name
  pub key_type : part.key.number ≡ pos credential.key.key_type
  pub key_octets : part.key.octets ≡ credential.key.octets

-- ---- at a moment

-- it has started and has not ended, up to the clock skew, and needs no validation
abbrev pub is_valid : ℤ → EncTicketPart → Bool
is_valid now part =
    not (has_not_started (ticket_terms part) now)
    && not (has_flag (ticket_terms part) Invalid)
    && not (has_ended (ticket_terms part) now)

abbrev pub if_valid : ℤ → Result EncTicketPart LoginError → Result EncTicketPart LoginError
if_valid now (Ok part) = if is_valid now part then Ok part else Err TicketNotValid
if_valid now (Err doubt) = Err doubt

abbrev pub verified : List KeytabEntry → ℤ → Credential → Result EncTicketPart LoginError
verified keytab now credential = if_valid now (opened keytab credential)

-- what the keytab decrypts is valid at this second
pub record IsValidAt (now : ℤ) (keytab : List KeytabEntry) (credential : Credential) : Type 0 where
  pub part : EncTicketPart
  pub opens : opened keytab credential ≡ Ok part
  pub valid : is_valid now part ≡ true

-- ---- why a login is not verified

-- a ticket came, and is doubted
pub record IsDoubted (answers : SocketAddr → List ℕ → List ℕ → Type 0) (keytab : List KeytabEntry)
    (granting : Credential) (asked : Asked) (now : ℤ) (doubt : LoginError) : Type 0 where
  pub credential : Credential
  pub came : IsFurther answers granting asked now credential
  pub doubted : verified keytab now credential ≡ Err doubt

-- a ticket came and is doubted, or none came
abbrev pub IsUnverified : (SocketAddr → List ℕ → List ℕ → Type 0) → List KeytabEntry → Credential → Asked → ℤ
    → LoginError
    → Option SocketAddr → Type 0
IsUnverified answers keytab granting asked now NoServiceKey kdc =
    (kdc ≡ None) × IsDoubted answers keytab granting asked now NoServiceKey
IsUnverified answers keytab granting asked now TicketNotOpened kdc =
    (kdc ≡ None) × IsDoubted answers keytab granting asked now TicketNotOpened
IsUnverified answers keytab granting asked now OtherTicket kdc =
    (kdc ≡ None) × IsDoubted answers keytab granting asked now OtherTicket
IsUnverified answers keytab granting asked now TicketNotValid kdc =
    (kdc ≡ None) × IsDoubted answers keytab granting asked now TicketNotValid
IsUnverified answers keytab granting asked now why kdc = IsFurtherFault answers granting asked now why kdc
