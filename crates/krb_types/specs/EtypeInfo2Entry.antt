-- ETYPE-INFO2-ENTRY (RFC 4120, section 5.2.7.5).
use Rattle.std.proofs.Common.{ℕ, List, refl}
use Rattle.krb_elements.specs.Codec.{Codec, Record, field, optional, end, sequence, int32, string, octets}
use Rattle.krb_types.specs.declared.etype_info2_entry.EtypeInfo2Entry as trees

abbrev pub EtypeInfo2Entry : Type 0
EtypeInfo2Entry = trees.EtypeInfo2Entry (List ℕ) (List ℕ)

unfoldable pub etype_info2_entry_form : {S O : Type 0} → Codec S → Codec O → Record (trees.EtypeInfo2Entry S O)
etype_info2_entry_form s o = record {
  fields =
      field 0 (λ x. x.etype) int32
      (optional 1 (λ x. x.salt) s
      (optional 2 (λ x. x.s2kparams) o
      end));
  to = λ (etype, (salt, (s2kparams, _))). record { etype = etype; salt = salt; s2kparams = s2kparams };
  there = λ v. refl;
  back = λ x. refl;
  rising = refl;
}

abbrev pub etype_info2_entry_of : {S O : Type 0} → Codec S → Codec O → Codec (trees.EtypeInfo2Entry S O)
etype_info2_entry_of s o = sequence (etype_info2_entry_form s o)

abbrev pub etype_info2_entry : Codec EtypeInfo2Entry
etype_info2_entry = etype_info2_entry_of string octets
