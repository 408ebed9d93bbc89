-- PrincipalName (RFC 4120, section 5.2.2).
use Rattle.std.proofs.Common.{ℕ, List, refl}
use Rattle.krb_elements.specs.Codec.{Codec, Record, field, end, sequence, list_of, int32, string}
use Rattle.krb_elements.specs.OneSpellingLaws.{HasOneSpelling}
use Rattle.krb_fields.specs.declared.name.Name as trees

abbrev pub Name : Type 0
Name = trees.Name (List (List ℕ))

-- generic in what differs between the owned and the borrowed form
unfoldable pub name_form : {C : Type 0} → Codec C → Record (trees.Name C)
name_form c = record {
  fields = field 0 (λ x. x.name_type) int32 (field 1 (λ x. x.components) c end);
  to = λ (number, (components, _)). record { name_type = number; components = components };
  there = λ v. refl;
  back = λ x. refl;
  rising = refl;
}

abbrev pub name_of : {C : Type 0} → Codec C → Codec (trees.Name C)
name_of c = sequence (name_form c)

abbrev pub name : Codec Name
name = name_of (list_of string)

-- a name has one encoding
pub name_one : HasOneSpelling name.Spells name.tag name.text
unfolding name_form
name_one = name.laws.one refl
