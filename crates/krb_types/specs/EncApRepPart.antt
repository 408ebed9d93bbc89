-- EncAPRepPart (RFC 4120, section 5.5.2).
use Rattle.std.proofs.Common.{refl}
use Rattle.krb_elements.specs.Codec.{Codec, Record, field, optional, end, sequence, application, microseconds, time}
use Rattle.krb_elements.specs.Codec.{uint32}
use Rattle.krb_fields.specs.declared.numbers.TheConstants.{ENC_AP_REP_PART}
use Rattle.krb_fields.specs.Typed.{Typed, typed}
use Rattle.krb_types.specs.declared.enc_ap_rep_part.EncApRepPart as trees

abbrev pub EncApRepPart : Type 0
EncApRepPart = trees.EncApRepPart Typed

unfoldable pub enc_ap_rep_part_form : {T : Type 0} → Codec T → Record (trees.EncApRepPart T)
enc_ap_rep_part_form t = record {
  fields =
      field 0 (λ x. x.ctime) time
      (field 1 (λ x. x.cusec) microseconds
      (optional 2 (λ x. x.subkey) t
      (optional 3 (λ x. x.seq_number) uint32
      end)));
  to = λ (ctime, (cusec, (subkey, (seq_number, _)))).
      record { ctime = ctime; cusec = cusec; subkey = subkey; seq_number = seq_number };
  there = λ v. refl;
  back = λ x. refl;
  rising = refl;
}

abbrev pub enc_ap_rep_part_of : {T : Type 0} → Codec T → Codec (trees.EncApRepPart T)
enc_ap_rep_part_of t = application ENC_AP_REP_PART (sequence (enc_ap_rep_part_form t))

abbrev pub enc_ap_rep_part : Codec EncApRepPart
enc_ap_rep_part = enc_ap_rep_part_of typed
