-- The value of a request's PA-TGS-REQ is no longer than the request.
use Rattle.std.proofs.Common.{◌≡◌, ℕ, ℤ, ◌<◌, ◌≤◌, Bool, true, false, cond, List, [], ◌∷◌, ◌++◌, length, Option}
use Rattle.std.proofs.Common.{Some, None, refl, subst, ap, arith}
use Rattle.std.specs.Prelude.{IfSome, option_map, find}
use Rattle.std.specs.Ordering.{int_eq}
use Rattle.std.proofs.lemmas.List.{length-append}
use Rattle.krb_der.specs.Spelling.{IsBytes}
use Rattle.krb_der.specs.StepLaws.{IsBytes-back, IsBytes-front}
use Rattle.krb_elements.specs.Codec.{sequence, list_of, octets}
use Rattle.krb_elements.specs.Spells.{Items}
use Rattle.krb_elements.specs.WrittenLaws.{tlv_longer}
use Rattle.krb_fields.specs.declared.numbers.TheConstants.{PA_TGS_REQ}
use Rattle.krb_fields.specs.PaData.{PaData, pa_data, pa_data_form}
use Rattle.krb_types.specs.KdcReq.{Received, SpellsReceived, received_form, message_tag}
use Rattle.krb_types.specs.declared.kdc_req.Exchange.{Exchange}
use Rattle.preauth.specs.Timestamp.{first_of}
use Rattle.krb_elements.specs.InsideLaws.{IsAtMost, IsInside, in_contents, in_field, in_optional, past_field, part_of}
use Rattle.tgs_opening.specs.Tickets.{tgs_data}

octets_inside : IsInside length octets.Spells (λ value. Some value)
octets_inside = record {
  is = λ value bytes fits s.
      omega (arith, ap length ((octets.laws.one refl).is value bytes fits s), tlv_longer 4 value);
}

value_inside : IsInside length pa_data.Spells (λ p. Some p.padata_value)
unfolding pa_data_form
value_inside =
    let fields = (pa_data_form octets).fields in
    in_contents length 48 fields.Spells (λ y. Some y.1.0) fields.of
    (past_field length 161 _ _ (λ y. Some y.0) (in_field length 162 _ _ (λ value. Some value) octets_inside))

-- the value of the first of these padata that has this type
abbrev first_value : ℤ → List PaData → Option (List ℕ)
first_value number list = option_map (λ p. p.padata_value) (find (λ p. int_eq p.padata_type number) list)

longer : (o : Option (List ℕ)) (front back bytes : List ℕ) → bytes ≡ front ++ back → IsAtMost length o back
    → IsAtMost length o bytes
longer (Some v) front back bytes e h = omega (arith, h, ap length e, length-append front back)
longer None front back bytes e h = tt

by_type : (b : Bool) (p : PaData) (o : Option PaData) (front back bytes : List ℕ) → bytes ≡ front ++ back
    → length p.padata_value ≤ length front → IsAtMost length (option_map (λ p. p.padata_value) o) back
    → IsAtMost length (option_map (λ p. p.padata_value) (cond b (Some p) o)) bytes
by_type true p o front back bytes e here there = omega (arith, here, ap length e, length-append front back)
by_type false p o front back bytes e here there = longer (option_map (λ p. p.padata_value) o) front back bytes e there

first_inside : (number : ℤ) (list : List PaData) (bytes : List ℕ) → IsBytes bytes → Items pa_data.Spells list bytes
    → IsAtMost length (first_value number list) bytes
first_inside number [] bytes fits s = tt
first_inside number (p ∷ ps) bytes fits s =
    let both : IsBytes (s.0 ++ s.1) = subst IsBytes s.4 fits in
    by_type (int_eq p.padata_type number) p (find (λ p. int_eq p.padata_type number) ps) s.0 s.1 bytes s.4
    (value_inside.is p s.0 (IsBytes-front s.0 s.1 both) s.2)
    (first_inside number ps s.1 (IsBytes-back s.0 s.1 both) s.3)

list_inside : (number : ℤ) → IsInside length (list_of pa_data).Spells (first_value number)
list_inside number =
    in_contents length 48 (Items pa_data.Spells) (first_value number) (λ (list : List PaData). list)
    (record { is = λ list bytes fits s. first_inside number list bytes fits s })

in_fields : (number : ℤ) → IsInside length (sequence received_form).Spells (λ r. part_of (first_value number) r.padata)
unfolding received_form
in_fields number =
    in_contents length 48 received_form.fields.Spells (λ y. part_of (first_value number) y.1.1.0)
    received_form.fields.of
    (past_field length 161 _ _ (λ y. part_of (first_value number) y.1.0)
    (past_field length 162 _ _ (λ y. part_of (first_value number) y.0)
    (in_optional length 163 _ _ (first_value number) (list_inside number))))

short : (number : ℤ) (o : Option (List PaData)) (bytes : List ℕ) → length bytes ≤ 2147483647
    → IsAtMost length (part_of (first_value number) o) bytes
    → IfSome (first_of number o) (λ value. length value < 2147483648)
short number (Some list) bytes le h = few (first_value number list) h
  where
    few : (o : Option (List ℕ)) → IsAtMost length o bytes → IfSome o (λ value. length value < 2147483648)
    few (Some v) h = omega (arith, h, le)
    few None h = tt
short number None bytes le h = tt

pub value_short : (exchange : Exchange) (r : Received) (bytes : List ℕ) → IsBytes bytes → length bytes ≤ 2147483647
    → SpellsReceived (exchange, r) bytes → IfSome (tgs_data r) (λ value. length value < 2147483648)
value_short exchange r bytes fits le s =
    short PA_TGS_REQ r.padata bytes le
    ((in_contents length (message_tag exchange) (sequence received_form).Spells
    (λ r. part_of (first_value PA_TGS_REQ) r.padata) (λ (r : Received). r) (in_fields PA_TGS_REQ)).is r bytes fits s)
