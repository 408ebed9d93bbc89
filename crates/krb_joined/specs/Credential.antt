-- The credential of an issued ticket.
use Rattle.std.specs.Prelude.{◌≡◌, length, Some}
use Rattle.cred_files.specs.declared.credential.Credential.{Credential}
use Rattle.enctypes.specs.Etype.{key_len}
use Rattle.enctypes.specs.KeyUsage.{usage_number}
use Rattle.enctypes.specs.declared.key_usage.KeyUsage.TheVariants.{Ticket as TicketUsage}
use Rattle.encrypted_data.specs.Encrypted.{decrypted}
use Rattle.kdc_replies.specs.Issue.{Issue, issued_part, issued_reply, issued_ticket, issued_ticket_part, reply_type}
use Rattle.krb_types.specs.EncTicketPart.{enc_ticket_part}
use Rattle.client_core.specs.Credentials.{credential_of}
use Rattle.client_core.specs.Sessions.{session, session_key}
use Rattle.client_core.specs.declared.sessions.Session.{Session}

-- what a client keeps of the reply and its encrypted part
abbrev pub issued_credential : Issue → Credential
issued_credential issue = credential_of (reply_type issue.exchange) (issued_reply issue) (issued_part issue)

abbrev pub issued_session : Issue → Session
issued_session issue = record { ticket = issued_ticket issue; key = issue.grant.session_key }

-- The credential is the ticket's. It yields the ticket and its session key, whose size is right for its encryption
-- type, and the service's key decrypts the ticket to what was granted.
pub record IsCredentialOf (issue : Issue) (credential : Credential) : Type 0 where
  pub is : credential ≡ issued_credential issue
  pub session : session credential ≡ Some (issued_session issue)
  pub key : session_key credential ≡ Some issue.grant.session_key
  pub size : length issue.grant.session_key.bytes ≡ key_len issue.grant.session_key.etype
  pub service_reads : decrypted enc_ticket_part issue.service_key.key (usage_number TicketUsage)
      (issued_ticket issue).enc_part ≡ Some (issued_ticket_part issue)
