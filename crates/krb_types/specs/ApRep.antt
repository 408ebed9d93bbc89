-- AP-REP (RFC 4120, section 5.5.2).
use Rattle.std.proofs.Common.{pos, refl}
use Rattle.krb_elements.specs.Codec.{Codec, Record, field, end, sequence, application, fixed}
use Rattle.krb_elements.specs.OneSpellingLaws.{HasOneSpelling}
use Rattle.krb_fields.specs.declared.numbers.TheConstants.{PVNO, AP_REP}
use Rattle.krb_fields.specs.EncryptedData.{EncryptedData, encrypted_data, encrypted_data_form}
use Rattle.krb_types.specs.declared.ap_rep.ApRep as trees

abbrev pub ApRep : Type 0
ApRep = trees.ApRep EncryptedData

-- pvno and msg-type are fixed, so the value doesn't contain them
unfoldable pub ap_rep_form : {E : Type 0} → Codec E → Record (trees.ApRep E)
ap_rep_form e = record {
  fields =
      field 0 (λ x. tt) (fixed PVNO refl refl)
      (field 1 (λ x. tt) (fixed (pos AP_REP) refl refl)
      (field 2 (λ x. x.enc_part) e
      end));
  to = λ (_, (_, (enc_part, _))). record { enc_part = enc_part };
  there = λ v. refl;
  back = λ x. refl;
  rising = refl;
}

abbrev pub ap_rep_of : {E : Type 0} → Codec E → Codec (trees.ApRep E)
ap_rep_of e = application AP_REP (sequence (ap_rep_form e))

abbrev pub ap_rep : Codec ApRep
ap_rep = ap_rep_of encrypted_data

pub ap_rep_one : HasOneSpelling ap_rep.Spells ap_rep.tag ap_rep.text
unfolding ap_rep_form encrypted_data_form
ap_rep_one = ap_rep.laws.one refl
