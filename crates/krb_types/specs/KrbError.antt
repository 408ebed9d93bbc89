-- KRB-ERROR (RFC 4120, section 5.9.1).
use Rattle.std.proofs.Common.{ℕ, pos, List, refl}
use Rattle.krb_elements.specs.Codec.{Codec, Record, field, optional, end, sequence, application, int32, microseconds}
use Rattle.krb_elements.specs.Codec.{fixed, time, octets, string}
use Rattle.krb_elements.specs.OneSpellingLaws.{HasOneSpelling}
use Rattle.krb_fields.specs.declared.numbers.TheConstants.{PVNO, KRB_ERROR}
use Rattle.krb_fields.specs.PrincipalName.{Name, name, name_form}
use Rattle.krb_types.specs.declared.krb_error.KrbError as trees

abbrev pub KrbError : Type 0
KrbError = trees.KrbError (List ℕ) Name (List ℕ)

-- pvno and msg-type are fixed, so the value doesn't contain them
unfoldable pub krb_error_form : {S N O : Type 0} → Codec S → Codec N → Codec O → Record (trees.KrbError S N O)
krb_error_form s n o = record {
  fields =
      field 0 (λ x. tt) (fixed PVNO refl refl)
      (field 1 (λ x. tt) (fixed (pos KRB_ERROR) refl refl)
      (optional 2 (λ x. x.ctime) time
      (optional 3 (λ x. x.cusec) microseconds
      (field 4 (λ x. x.stime) time
      (field 5 (λ x. x.susec) microseconds
      (field 6 (λ x. x.error_code) int32
      (optional 7 (λ x. x.crealm) s
      (optional 8 (λ x. x.cname) n
      (field 9 (λ x. x.realm) s
      (field 10 (λ x. x.sname) n
      (optional 11 (λ x. x.e_text) s
      (optional 12 (λ x. x.e_data) o
      end))))))))))));
  to = λ (
    _,
    (
      _,
      (
        ctime,
        (
          cusec,
          (
            stime,
            (susec, (error_code, (crealm, (cname, (realm, (sname, (e_text, (e_data, _)))))))),
          ),
        ),
      ),
    ),
  ). record {
    ctime = ctime;
    cusec = cusec;
    stime = stime;
    susec = susec;
    error_code = error_code;
    crealm = crealm;
    cname = cname;
    realm = realm;
    sname = sname;
    e_text = e_text;
    e_data = e_data;
  };
  there = λ v. refl;
  back = λ x. refl;
  rising = refl;
}

abbrev pub krb_error_of : {S N O : Type 0} → Codec S → Codec N → Codec O → Codec (trees.KrbError S N O)
krb_error_of s n o = application KRB_ERROR (sequence (krb_error_form s n o))

abbrev pub krb_error : Codec KrbError
krb_error = krb_error_of string name octets

pub krb_error_one : HasOneSpelling krb_error.Spells krb_error.tag krb_error.text
unfolding krb_error_form name_form
krb_error_one = krb_error.laws.one refl
