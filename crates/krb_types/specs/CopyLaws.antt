-- A copy is the same value: the copy of a list, or of an optional value, consists of copies.
use Rattle.std.proofs.Common.{◌≡◌, ℕ, ℤ, List, map, Option, refl}
use Rattle.std.specs.Prelude.{option_map}
use Rattle.krb_elements.specs.CopyLaws.{map_all, option_all}
use Rattle.krb_fields.specs.NameCopyLaws.{same_name, name_copied}
use Rattle.krb_fields.specs.PaData.{PaData}
use Rattle.krb_types.specs.Ticket.{Ticket}
use Rattle.krb_types.specs.ReqBody.{ReqBody}
use Rattle.krb_types.specs.KrbError.{KrbError}

abbrev pub same_ticket : Ticket → Ticket
same_ticket t = record { tkt_vno = t.tkt_vno; realm = t.realm; sname = same_name t.sname; enc_part = t.enc_part }

pub ticket_copied : (t : Ticket) → same_ticket t ≡ t
ticket_copied t = rw (map_all (λ (x : List ℕ). x) (λ x. refl) t.sname.components) refl

abbrev pub same_body : ReqBody → ReqBody
same_body b = record {
  kdc_options = b.kdc_options;
  cname = option_map same_name b.cname;
  realm = b.realm;
  sname = option_map same_name b.sname;
  from = b.from;
  till = b.till;
  rtime = b.rtime;
  nonce = b.nonce;
  etype = map (λ x. x) b.etype;
  addresses = option_map (map (λ x. x)) b.addresses;
  enc_authorization_data = option_map (λ x. x) b.enc_authorization_data;
  additional_tickets = option_map (map same_ticket) b.additional_tickets;
}

pub body_copied : (b : ReqBody) → same_body b ≡ b
body_copied b =
    rw (
      option_all same_name name_copied b.cname,
      option_all same_name name_copied b.sname,
      map_all (λ (x : ℤ). x) (λ x. refl) b.etype,
      option_all _ (map_all _ (λ x. refl)) b.addresses,
      option_all _ (λ x. refl) b.enc_authorization_data,
      option_all (map same_ticket) (map_all same_ticket ticket_copied) b.additional_tickets,
    ) refl

pub data_copied : (o : Option (List PaData)) → option_map (map (λ x. x)) o ≡ o
data_copied o = option_all (map (λ x. x)) (map_all (λ x. x) (λ x. refl)) o

abbrev pub same_error : KrbError → KrbError
same_error e = record {
  ctime = e.ctime;
  cusec = e.cusec;
  stime = e.stime;
  susec = e.susec;
  error_code = e.error_code;
  crealm = option_map (λ x. x) e.crealm;
  cname = option_map same_name e.cname;
  realm = e.realm;
  sname = same_name e.sname;
  e_text = option_map (λ x. x) e.e_text;
  e_data = option_map (λ x. x) e.e_data;
}

pub error_copied : (e : KrbError) → same_error e ≡ e
error_copied e =
    rw (
      option_all (λ (x : List ℕ). x) (λ x. refl) e.crealm,
      option_all same_name name_copied e.cname,
      map_all (λ (x : List ℕ). x) (λ x. refl) e.sname.components,
      option_all (λ (x : List ℕ). x) (λ x. refl) e.e_text,
      option_all (λ (x : List ℕ). x) (λ x. refl) e.e_data,
    ) refl
