-- KDC-REQ-BODY (RFC 4120, section 5.4.1).
use Rattle.std.proofs.Common.{ℕ, ℤ, List, refl}
use Rattle.krb_elements.specs.Codec.{Codec, Record, field, optional, end, sequence, list_of, int32, uint32, time}
use Rattle.krb_elements.specs.Codec.{string, flags}
use Rattle.krb_fields.specs.PrincipalName.{Name, name}
use Rattle.krb_fields.specs.EncryptedData.{EncryptedData, encrypted_data}
use Rattle.krb_fields.specs.Typed.{Typed, typed}
use Rattle.krb_types.specs.Ticket.{Ticket, ticket}
use Rattle.krb_types.specs.declared.req_body.ReqBody as trees

abbrev pub ReqBody : Type 0
ReqBody = trees.ReqBody (List ℕ) Name (List ℤ) (List Typed) EncryptedData (List Ticket)

unfoldable pub req_body_form : {S N L A E T : Type 0} → Codec S → Codec N → Codec L → Codec A → Codec E → Codec T
    → Record (trees.ReqBody S N L A E T)
req_body_form s n l a e t = record {
  fields =
      field 0 (λ x. x.kdc_options) flags
      (optional 1 (λ x. x.cname) n
      (field 2 (λ x. x.realm) s
      (optional 3 (λ x. x.sname) n
      (optional 4 (λ x. x.from) time
      (field 5 (λ x. x.till) time
      (optional 6 (λ x. x.rtime) time
      (field 7 (λ x. x.nonce) uint32
      (field 8 (λ x. x.etype) l
      (optional 9 (λ x. x.addresses) a
      (optional 10 (λ x. x.enc_authorization_data) e
      (optional 11 (λ x. x.additional_tickets) t
      end)))))))))));
  to = λ (
    options,
    (
      cname,
      (
        realm,
        (
          sname,
          (from, (till, (rtime, (nonce, (etype, (addresses, (authorization, (tickets, _)))))))),
        ),
      ),
    ),
  ). record {
    kdc_options = options;
    cname = cname;
    realm = realm;
    sname = sname;
    from = from;
    till = till;
    rtime = rtime;
    nonce = nonce;
    etype = etype;
    addresses = addresses;
    enc_authorization_data = authorization;
    additional_tickets = tickets;
  };
  there = λ v. refl;
  back = λ x. refl;
  rising = refl;
}

abbrev pub req_body_of : {S N L A E T : Type 0} → Codec S → Codec N → Codec L → Codec A → Codec E → Codec T
    → Codec (trees.ReqBody S N L A E T)
req_body_of s n l a e t = sequence (req_body_form s n l a e t)

abbrev pub req_body : Codec ReqBody
req_body = req_body_of string name (list_of int32) (list_of typed) encrypted_data (list_of ticket)
