-- Bytes with a numbered type: HostAddress (RFC 4120, section 5.2.5).
use Rattle.std.proofs.Common.{ℕ, List, refl}
use Rattle.krb_elements.specs.Codec.{Codec, Record, field, end, sequence, int32, octets}
use Rattle.krb_fields.specs.declared.typed.Typed as trees

abbrev pub Typed : Type 0
Typed = trees.Typed (List ℕ)

-- generic in what differs between the owned and the borrowed form
unfoldable pub typed_form : {O : Type 0} → Codec O → Record (trees.Typed O)
typed_form c = record {
  fields = field 0 (λ x. x.number) int32 (field 1 (λ x. x.octets) c end);
  to = λ (number, (value, _)). record { number = number; octets = value };
  there = λ v. refl;
  back = λ x. refl;
  rising = refl;
}

abbrev pub typed_of : {O : Type 0} → Codec O → Codec (trees.Typed O)
typed_of c = sequence (typed_form c)

abbrev pub typed : Codec Typed
typed = typed_of octets
