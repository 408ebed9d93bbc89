-- AP-REQ (RFC 4120, section 5.5.1).
use Rattle.std.proofs.Common.{ℕ, ◌<◌, List, length, refl}
use Rattle.krb_elements.specs.Codec.{Codec, Record, field, end, sequence, application, int32, flags}
use Rattle.krb_fields.specs.declared.numbers.TheConstants.{AP_REQ}
use Rattle.krb_fields.specs.EncryptedData.{EncryptedData, encrypted_data}
use Rattle.krb_types.specs.Ticket.{Ticket, ticket}
use Rattle.krb_types.specs.declared.ap_req.ApReq as trees

abbrev pub ApReq : Type 0
ApReq = trees.ApReq Ticket EncryptedData

unfoldable pub ap_req_form : {T E : Type 0} → Codec T → Codec E → Record (trees.ApReq T E)
ap_req_form t e = record {
  fields =
      field 0 (λ x. x.pvno) int32
      (field 1 (λ x. x.msg_type) int32
      (field 2 (λ x. x.ap_options) flags
      (field 3 (λ x. x.ticket) t
      (field 4 (λ x. x.authenticator) e
      end))));
  to = λ (pvno, (msg_type, (ap_options, (ticket, (authenticator, _))))). record {
    pvno = pvno;
    msg_type = msg_type;
    ap_options = ap_options;
    ticket = ticket;
    authenticator = authenticator;
  };
  there = λ v. refl;
  back = λ x. refl;
  rising = refl;
}

abbrev pub ap_req_of : {T E : Type 0} → Codec T → Codec E → Codec (trees.ApReq T E)
ap_req_of t e = application AP_REQ (sequence (ap_req_form t e))

abbrev pub ap_req : Codec ApReq
ap_req = ap_req_of ticket encrypted_data

-- the texts of the ticket and of the authenticator, and their ciphers, are shorter than these bytes
pub record HasShorterParts (bytes : List ℕ) (x : ApReq) : Type 0 where
  pub ticket_text : length (ticket.text x.ticket) < length bytes
  pub ticket_cipher : length x.ticket.enc_part.cipher < length bytes
  pub authenticator_text : length (encrypted_data.text x.authenticator) < length bytes
  pub authenticator_cipher : length x.authenticator.cipher < length bytes
