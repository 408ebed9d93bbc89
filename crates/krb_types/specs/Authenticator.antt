-- Authenticator (RFC 4120, section 5.5.1).
use Rattle.std.proofs.Common.{ℕ, List, refl}
use Rattle.krb_elements.specs.Codec.{Codec, Record, field, optional, end, sequence, application, list_of, fixed}
use Rattle.krb_elements.specs.Codec.{microseconds, time, uint32, string}
use Rattle.krb_fields.specs.declared.numbers.TheConstants.{PVNO, AUTHENTICATOR}
use Rattle.krb_fields.specs.PrincipalName.{Name, name}
use Rattle.krb_fields.specs.Typed.{Typed, typed}
use Rattle.krb_types.specs.declared.authenticator.Authenticator as trees

abbrev pub Authenticator : Type 0
Authenticator = trees.Authenticator (List ℕ) Name Typed (List Typed)

unfoldable pub authenticator_form : {S N T L : Type 0} → Codec S → Codec N → Codec T → Codec L
    → Record (trees.Authenticator S N T L)
authenticator_form s n t l = record {
  fields =
      field 0 (λ x. tt) (fixed PVNO refl refl)
      (field 1 (λ x. x.crealm) s
      (field 2 (λ x. x.cname) n
      (optional 3 (λ x. x.cksum) t
      (field 4 (λ x. x.cusec) microseconds
      (field 5 (λ x. x.ctime) time
      (optional 6 (λ x. x.subkey) t
      (optional 7 (λ x. x.seq_number) uint32
      (optional 8 (λ x. x.authorization_data) l
      end))))))));
  to = λ (_, (crealm, (cname, (cksum, (cusec, (ctime, (subkey, (seq_number, (authorization_data, _))))))))). record {
    crealm = crealm;
    cname = cname;
    cksum = cksum;
    cusec = cusec;
    ctime = ctime;
    subkey = subkey;
    seq_number = seq_number;
    authorization_data = authorization_data;
  };
  there = λ v. refl;
  back = λ x. refl;
  rising = refl;
}

abbrev pub authenticator_of : {S N T L : Type 0} → Codec S → Codec N → Codec T → Codec L
    → Codec (trees.Authenticator S N T L)
authenticator_of s n t l = application AUTHENTICATOR (sequence (authenticator_form s n t l))

abbrev pub authenticator : Codec Authenticator
authenticator = authenticator_of string name typed (list_of typed)
