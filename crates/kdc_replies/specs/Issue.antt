-- A ticket that is issued with the reply that carries it, and what the reply is to those who have its keys (RFC 4120,
-- sections 3.1.3 and 3.3.3).
use Rattle.std.specs.Prelude.{◌≡◌, ◌⊎◌, ℕ, ℤ, List, length, Option, Some}
use Rattle.enctypes.specs.Etype.{key_len}
use Rattle.enctypes.specs.KeyUsage.{usage_number}
use Rattle.enctypes.specs.declared.key_usage.KeyUsage.TheVariants.{Ticket as TicketUsage}
use Rattle.krb_fields.specs.declared.numbers.TheConstants.{AS_REP, TGS_REP, ENC_AS_REP_PART, ENC_TGS_REP_PART}
use Rattle.krb_fields.specs.PaData.{PaData}
use Rattle.krb_types.specs.EncKdcRepPart.{EncKdcRepPart, enc_kdc_rep_part}
use Rattle.krb_types.specs.EncTicketPart.{EncTicketPart, enc_ticket_part}
use Rattle.krb_types.specs.KdcRep.{KdcRep, kdc_rep}
use Rattle.krb_types.specs.Under.{under}
use Rattle.krb_types.specs.declared.kdc_req.Exchange.{Exchange}
use Rattle.krb_types.specs.declared.kdc_req.Exchange.TheVariants.{As, Tgs}
use Rattle.krb_types.specs.KrbError.{KrbError, krb_error}
use Rattle.krb_types.specs.Ticket.{Ticket}
use Rattle.kdc_replies.specs.declared.grant.Grant.{Grant}
use Rattle.encrypted_data.specs.declared.encrypting.PartKey.{PartKey}
use Rattle.kdc_replies.specs.declared.tickets.ServiceKey.{ServiceKey}
use Rattle.encrypted_data.specs.Encrypted.{decrypted}
use Rattle.kdc_replies.specs.Grant.{ticket_part, reply_part}
use Rattle.kdc_replies.specs.Reply.{reply_of, granted_ticket}

-- the message type of an exchange's replies, and the tag of their encrypted part
abbrev pub reply_type : Exchange → ℕ
reply_type As = AS_REP
reply_type Tgs = TGS_REP

abbrev pub part_tag : Exchange → ℕ
part_tag As = ENC_AS_REP_PART
part_tag Tgs = ENC_TGS_REP_PART

-- All that a reply with a ticket is made from: its exchange, the grant, the service's key and the reply key, what it
-- copies from the request, the second of the answer, and the random bytes.
pub record Issue : Type 0 where
  pub exchange : Exchange
  pub grant : Grant
  pub service_key : ServiceKey
  pub reply_key : PartKey
  pub padata : Option (List PaData)
  pub nonce : ℤ
  pub now : ℤ
  pub random : List ℕ

abbrev pub issued_reply : (issue : Issue) → KdcRep (reply_type issue.exchange)
issued_reply i =
    reply_of (reply_type i.exchange)
    (part_tag i.exchange) i.grant i.service_key i.reply_key i.padata i.nonce i.now i.random

abbrev pub issued_ticket : Issue → Ticket
issued_ticket i = granted_ticket i.grant i.service_key i.random

-- what the reply key decrypts, and what the service's key decrypts
abbrev pub issued_part : Issue → EncKdcRepPart
issued_part i = reply_part i.grant i.nonce i.now

abbrev pub issued_ticket_part : Issue → EncTicketPart
issued_ticket_part i = ticket_part i.grant

-- These bytes are the reply: they encode it, the reply key decrypts its part and the service's key its ticket, to what
-- was granted. The session key has the length for its encryption type.
pub record IsIssued (issue : Issue) (octets : List ℕ) : Type 0 where
  pub spelled : (kdc_rep (reply_type issue.exchange)).Spells (issued_reply issue) octets
  pub client_reads : decrypted (under (part_tag issue.exchange) enc_kdc_rep_part) issue.reply_key.key
      (usage_number issue.reply_key.usage) (issued_reply issue).enc_part ≡ Some (issued_part issue)
  pub service_reads : decrypted enc_ticket_part issue.service_key.key (usage_number TicketUsage)
      (issued_ticket issue).enc_part ≡ Some (issued_ticket_part issue)
  pub session_key : length issue.grant.session_key.bytes ≡ key_len issue.grant.session_key.etype

-- these bytes are an error
abbrev pub IsError : List ℕ → Type 0
IsError octets = (error : KrbError) × krb_error.Spells error octets

-- the reply, or an error instead of a reply that doesn't fit
abbrev pub IsIssuedOrError : Issue → List ℕ → Type 0
IsIssuedOrError issue octets = IsIssued issue octets ⊎ IsError octets
