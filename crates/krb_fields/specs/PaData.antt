-- PaData (RFC 4120, section 5.2.7).
use Rattle.std.proofs.Common.{ℕ, List, refl}
use Rattle.krb_elements.specs.Codec.{Codec, Record, field, end, sequence, int32, octets}
use Rattle.krb_fields.specs.declared.pa_data.PaData as trees

abbrev pub PaData : Type 0
PaData = trees.PaData (List ℕ)

-- generic in what differs between the owned and the borrowed form
unfoldable pub pa_data_form : {V : Type 0} → Codec V → Record (trees.PaData V)
pa_data_form c = record {
  fields = field 1 (λ x. x.padata_type) int32 (field 2 (λ x. x.padata_value) c end);
  to = λ (number, (value, _)). record { padata_type = number; padata_value = value };
  there = λ v. refl;
  back = λ x. refl;
  rising = refl;
}

abbrev pub pa_data_of : {V : Type 0} → Codec V → Codec (trees.PaData V)
pa_data_of c = sequence (pa_data_form c)

abbrev pub pa_data : Codec PaData
pa_data = pa_data_of octets
