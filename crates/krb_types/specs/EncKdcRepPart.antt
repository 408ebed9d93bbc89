-- EncKDCRepPart (RFC 4120, section 5.4.2).
use Rattle.std.proofs.Common.{ℕ, List, refl}
use Rattle.krb_elements.specs.Codec.{Codec, Record, field, optional, end, sequence, list_of, flags, time, uint32}
use Rattle.krb_elements.specs.Codec.{string}
use Rattle.krb_fields.specs.PrincipalName.{Name, name}
use Rattle.krb_fields.specs.Typed.{Typed, typed}
use Rattle.krb_types.specs.LastReq.{LastReq, last_req}
use Rattle.krb_types.specs.declared.enc_kdc_rep_part.EncKdcRepPart as trees

abbrev pub EncKdcRepPart : Type 0
EncKdcRepPart = trees.EncKdcRepPart Typed (List LastReq) (List ℕ) Name (List Typed)

unfoldable pub enc_kdc_rep_part_form : {T R S N L : Type 0} → Codec T → Codec R → Codec S → Codec N → Codec L
    → Record (trees.EncKdcRepPart T R S N L)
enc_kdc_rep_part_form t r s n l = record {
  fields =
      field 0 (λ x. x.key) t
      (field 1 (λ x. x.last_req) r
      (field 2 (λ x. x.nonce) uint32
      (optional 3 (λ x. x.key_expiration) time
      (field 4 (λ x. x.flags) flags
      (field 5 (λ x. x.authtime) time
      (optional 6 (λ x. x.starttime) time
      (field 7 (λ x. x.endtime) time
      (optional 8 (λ x. x.renew_till) time
      (field 9 (λ x. x.srealm) s
      (field 10 (λ x. x.sname) n
      (optional 11 (λ x. x.caddr) l
      end)))))))))));
  to = λ (
    key,
    (
      last_req,
      (
        nonce,
        (
          key_expiration,
          (flags, (authtime, (starttime, (endtime, (renew_till, (srealm, (sname, (caddr, _)))))))),
        ),
      ),
    ),
  ). record {
    key = key;
    last_req = last_req;
    nonce = nonce;
    key_expiration = key_expiration;
    flags = flags;
    authtime = authtime;
    starttime = starttime;
    endtime = endtime;
    renew_till = renew_till;
    srealm = srealm;
    sname = sname;
    caddr = caddr;
  };
  there = λ v. refl;
  back = λ x. refl;
  rising = refl;
}

abbrev pub enc_kdc_rep_part_of : {T R S N L : Type 0} → Codec T → Codec R → Codec S → Codec N → Codec L
    → Codec (trees.EncKdcRepPart T R S N L)
enc_kdc_rep_part_of t r s n l = sequence (enc_kdc_rep_part_form t r s n l)

abbrev pub enc_kdc_rep_part : Codec EncKdcRepPart
enc_kdc_rep_part = enc_kdc_rep_part_of typed (list_of last_req) string name (list_of typed)
