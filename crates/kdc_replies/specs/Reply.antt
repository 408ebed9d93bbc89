-- Replies with a ticket (RFC 4120, section 5.4.2). The last 32 random bytes are the two confounders.
use Rattle.std.specs.Prelude.{◌≡◌, ℕ, ℤ, pos, List, take, drop, Option, Some}
use Rattle.enctypes.specs.declared.key.Key.{Key}
use Rattle.enctypes.specs.KeyUsage.{usage_number}
use Rattle.enctypes.specs.declared.key_usage.KeyUsage.TheVariants.{Ticket as TicketUsage}
use Rattle.krb_fields.specs.declared.numbers.TheConstants.{PVNO}
use Rattle.krb_fields.specs.EncryptedData.{EncryptedData}
use Rattle.krb_fields.specs.PaData.{PaData}
use Rattle.krb_types.specs.EncKdcRepPart.{EncKdcRepPart, enc_kdc_rep_part}
use Rattle.krb_types.specs.EncTicketPart.{EncTicketPart, enc_ticket_part}
use Rattle.krb_types.specs.KdcRep.{KdcRep}
use Rattle.krb_types.specs.Under.{under}
use Rattle.krb_types.specs.Ticket.{Ticket}
use Rattle.preauth.specs.Keys.{key_named}
use Rattle.principal_rows.specs.declared.row.Row.{Row}
use Rattle.kdc_replies.specs.declared.grant.Grant.{Grant}
use Rattle.encrypted_data.specs.declared.encrypting.PartKey.{PartKey}
use Rattle.kdc_replies.specs.declared.tickets.ServiceKey.{ServiceKey}
use Rattle.encrypted_data.specs.Encrypted.{encrypted, decrypted}
use Rattle.kdc_replies.specs.Grant.{ticket_part, reply_part}

abbrev pub ticket_confounder : List ℕ → List ℕ
ticket_confounder random = take 16 (drop 32 random)

abbrev pub reply_confounder : List ℕ → List ℕ
reply_confounder random = take 16 (drop 48 random)

-- Ticket (section 5.3), encrypted with the service's key
abbrev pub granted_ticket : Grant → ServiceKey → List ℕ → Ticket
granted_ticket grant service random = record {
  tkt_vno = PVNO;
  realm = grant.realm;
  sname = grant.service;
  enc_part =
      encrypted enc_ticket_part service.key (usage_number TicketUsage) (Some (pos service.version))
      (ticket_confounder random)
      (ticket_part grant);
}

-- the encrypted part, in the tag of its exchange
abbrev pub sealed_part : ℕ → Grant → PartKey → ℤ → ℤ → List ℕ → EncryptedData
sealed_part tag grant reply nonce now random =
    encrypted (under tag enc_kdc_rep_part) reply.key (usage_number reply.usage) reply.kvno (reply_confounder random)
    (reply_part grant nonce now)

-- the reply of an exchange: `type` is its message type, and `tag` the tag of its encrypted part
abbrev pub reply_of : (type tag : ℕ) → Grant → ServiceKey → PartKey → Option (List PaData) → ℤ → ℤ → List ℕ
    → KdcRep type
reply_of type tag grant service reply padata nonce now random = record {
  padata = padata;
  crealm = grant.realm;
  cname = grant.client;
  ticket = granted_ticket grant service random;
  enc_part = sealed_part tag grant reply nonce now random;
}

-- the key is the one that the encrypted part names, by encryption type and key version, in the row
abbrev pub NamesKey : Option Row → EncryptedData → Key → Type 0
NamesKey row sealed key = key_named row sealed.etype sealed.kvno ≡ Some key

-- The two encrypted parts agree on session key, flags and times.
pub record SayTheSame (part : EncKdcRepPart) (ticket : EncTicketPart) : Type 0 where
  pub key : part.key ≡ ticket.key
  pub flags : part.flags ≡ ticket.flags
  pub authtime : part.authtime ≡ ticket.authtime
  pub starttime : part.starttime ≡ ticket.starttime
  pub endtime : part.endtime ≡ ticket.endtime
  pub renew_till : part.renew_till ≡ ticket.renew_till

-- The client's key decrypts the reply to `part`, the service's key decrypts the ticket to `ticket`, and the two agree.
pub record OpensAlike (type tag : ℕ) (reply_key : Key) (usage : ℕ) (service_key : Key) (reply : KdcRep type)
    (part : EncKdcRepPart)
    (ticket : EncTicketPart) : Type 0 where
  pub client_reads : decrypted (under tag enc_kdc_rep_part) reply_key usage reply.enc_part ≡ Some part
  pub service_reads : decrypted enc_ticket_part service_key
      (usage_number TicketUsage) reply.ticket.enc_part ≡ Some ticket
  pub same : SayTheSame part ticket
