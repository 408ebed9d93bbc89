-- EncTicketPart (RFC 4120, section 5.3).
use Rattle.std.proofs.Common.{ℕ, List, refl}
use Rattle.krb_elements.specs.Codec.{Codec, Record, field, optional, end, sequence, application, list_of, flags, time}
use Rattle.krb_elements.specs.Codec.{string}
use Rattle.krb_fields.specs.declared.numbers.TheConstants.{ENC_TICKET_PART}
use Rattle.krb_fields.specs.PrincipalName.{Name, name}
use Rattle.krb_fields.specs.Typed.{Typed, typed}
use Rattle.krb_types.specs.declared.enc_ticket_part.EncTicketPart as trees

abbrev pub EncTicketPart : Type 0
EncTicketPart = trees.EncTicketPart Typed (List ℕ) Name (List Typed)

unfoldable pub enc_ticket_part_form : {T S N L : Type 0} → Codec T → Codec S → Codec N → Codec L
    → Record (trees.EncTicketPart T S N L)
enc_ticket_part_form t s n l = record {
  fields =
      field 0 (λ x. x.flags) flags
      (field 1 (λ x. x.key) t
      (field 2 (λ x. x.crealm) s
      (field 3 (λ x. x.cname) n
      (field 4 (λ x. x.transited) t
      (field 5 (λ x. x.authtime) time
      (optional 6 (λ x. x.starttime) time
      (field 7 (λ x. x.endtime) time
      (optional 8 (λ x. x.renew_till) time
      (optional 9 (λ x. x.caddr) l
      (optional 10 (λ x. x.authorization_data) l
      end))))))))));
  to = λ (
    flags,
    (
      key,
      (
        crealm,
        (
          cname,
          (
            transited,
            (authtime, (starttime, (endtime, (renew_till, (caddr, (authorization_data, _)))))),
          ),
        ),
      ),
    ),
  ). record {
    flags = flags;
    key = key;
    crealm = crealm;
    cname = cname;
    transited = transited;
    authtime = authtime;
    starttime = starttime;
    endtime = endtime;
    renew_till = renew_till;
    caddr = caddr;
    authorization_data = authorization_data;
  };
  there = λ v. refl;
  back = λ x. refl;
  rising = refl;
}

abbrev pub enc_ticket_part_of : {T S N L : Type 0} → Codec T → Codec S → Codec N → Codec L
    → Codec (trees.EncTicketPart T S N L)
enc_ticket_part_of t s n l = application ENC_TICKET_PART (sequence (enc_ticket_part_form t s n l))

abbrev pub enc_ticket_part : Codec EncTicketPart
enc_ticket_part = enc_ticket_part_of typed string name (list_of typed)
