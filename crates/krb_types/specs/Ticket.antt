-- Ticket (RFC 4120, section 5.3).
use Rattle.std.proofs.Common.{ℕ, List, refl}
use Rattle.krb_elements.specs.Codec.{Codec, Record, field, end, sequence, application, int32, string}
use Rattle.krb_fields.specs.declared.numbers.TheConstants.{TICKET}
use Rattle.krb_fields.specs.PrincipalName.{Name, name}
use Rattle.krb_fields.specs.EncryptedData.{EncryptedData, encrypted_data}
use Rattle.krb_types.specs.declared.ticket.Ticket as trees

abbrev pub Ticket : Type 0
Ticket = trees.Ticket (List ℕ) Name EncryptedData

unfoldable pub ticket_form : {S N E : Type 0} → Codec S → Codec N → Codec E → Record (trees.Ticket S N E)
ticket_form s n e = record {
  fields =
      field 0 (λ x. x.tkt_vno) int32
      (field 1 (λ x. x.realm) s
      (field 2 (λ x. x.sname) n
      (field 3 (λ x. x.enc_part) e
      end)));
  to = λ (number, (realm, (sname, (enc_part, _)))).
      record { tkt_vno = number; realm = realm; sname = sname; enc_part = enc_part };
  there = λ v. refl;
  back = λ x. refl;
  rising = refl;
}

abbrev pub ticket_of : {S N E : Type 0} → Codec S → Codec N → Codec E → Codec (trees.Ticket S N E)
ticket_of s n e = application TICKET (sequence (ticket_form s n e))

abbrev pub ticket : Codec Ticket
ticket = ticket_of string name encrypted_data
