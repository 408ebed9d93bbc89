-- Suppose that a property holds of each name with all bytes that encode it, and with longer ones. Then it holds of the
-- service that a request names, with the bytes of the request.
use Rattle.std.proofs.Common.{ℕ, ◌≤◌, List, length, Option, Some, None, subst, ap, arith}
use Rattle.std.specs.Prelude.{IfSome}
use Rattle.std.proofs.lemmas.List.{length-append}
use Rattle.krb_der.specs.Spelling.{IsBytes}
use Rattle.krb_der.specs.StepLaws.{IsBytes-back, IsBytes-front}
use Rattle.krb_elements.specs.Codec.{sequence, list_of, int32, string}
use Rattle.krb_elements.specs.Spells.{Inside, Field, Optional, OptionalOf}
use Rattle.krb_elements.specs.WrittenLaws.{tlv_longer, inside_fits}
use Rattle.krb_fields.specs.EncryptedData.{encrypted_data}
use Rattle.krb_fields.specs.PrincipalName.{Name, name}
use Rattle.krb_fields.specs.Typed.{typed}
use Rattle.krb_types.specs.Ticket.{ticket}
use Rattle.krb_types.specs.ReqBody.{req_body, req_body_form}
use Rattle.krb_types.specs.KdcReq.{KdcReq, SpellsKdcReq, kdc_req_form, message_tag}
use Rattle.krb_types.specs.declared.kdc_req.Exchange.{Exchange}

-- the property holds of each name with all bytes that encode it, and with longer ones
pub record HoldsOfNames (Holds : List ℕ → Name → Type 0) : Type 0 where
  pub spelled : (n : Name) (bytes : List ℕ) → IsBytes bytes → name.Spells n bytes → Holds bytes n
  pub longer : (n : Name) (short long : List ℕ) → length short ≤ length long → Holds short n → Holds long n

longer_each : (Holds : List ℕ → Name → Type 0) → HoldsOfNames Holds → (short long : List ℕ) → length short ≤ length long
    → (o : Option Name) → IfSome o (Holds short) → IfSome o (Holds long)
longer_each Holds of short long le (Some n) h = of.longer n short long le h
longer_each Holds of short long le None h = tt

-- it holds of the name in a value, with the bytes that encode the value
record HoldsIn {A : Type 0} (Holds : List ℕ → Name → Type 0) (S : A → List ℕ → Type 0)
    (name_of : A → Option Name) : Type 0 where
  holds : (x : A) (bytes : List ℕ) → IsBytes bytes → S x bytes → IfSome (name_of x) (Holds bytes)

in_contents : {A B : Type 0} (Holds : List ℕ → Name → Type 0) → HoldsOfNames Holds
    → (tag : ℕ) (S : A → List ℕ → Type 0) (name_of : A → Option Name) (from : B → A)
    → HoldsIn Holds S name_of → HoldsIn Holds (Inside tag (λ y. S (from y))) (λ y. name_of (from y))
in_contents Holds of tag S name_of from h = record {
  holds = λ y bytes fits s. longer_each Holds of s.0 bytes (omega (arith, ap length s.3, tlv_longer tag s.0))
      (name_of (from y)) (h.holds (from y) s.0 (inside_fits tag bytes s.0 fits s.3) s.2);
}

in_field : {A B : Type 0} (Holds : List ℕ → Name → Type 0) → HoldsOfNames Holds
    → (tag : ℕ) (S : A → List ℕ → Type 0) (G : B → List ℕ → Type 0) (name_of : A → Option Name)
    → HoldsIn Holds S name_of → HoldsIn Holds (Field tag S G) (λ x. name_of x.0)
in_field Holds of tag S G name_of h = record {
  holds = λ x bytes fits s.
      let front : IsBytes s.0 = IsBytes-front s.0 s.1 (subst IsBytes s.4 fits) in
      longer_each Holds of s.2.0 bytes (omega (
        arith,
        ap length s.4,
        length-append s.0 s.1,
        ap length s.2.3,
        tlv_longer tag s.2.0,
      )) (name_of x.0) (h.holds x.0 s.2.0 (inside_fits tag s.0 s.2.0 front s.2.3) s.2.2);
}

past_field : {A B : Type 0} (Holds : List ℕ → Name → Type 0) → HoldsOfNames Holds
    → (tag : ℕ) (S : A → List ℕ → Type 0) (G : B → List ℕ → Type 0) (name_of : B → Option Name)
    → HoldsIn Holds G name_of → HoldsIn Holds (Field tag S G) (λ x. name_of x.1)
past_field Holds of tag S G name_of h = record {
  holds = λ x bytes fits s.
      longer_each Holds of s.1 bytes (omega (arith, ap length s.4, length-append s.0 s.1)) (name_of x.1)
      (h.holds x.1 s.1 (IsBytes-back s.0 s.1 (subst IsBytes s.4 fits)) s.3);
}

past_each : {A B : Type 0} (Holds : List ℕ → Name → Type 0) → HoldsOfNames Holds
    → (tag : ℕ) (S : A → List ℕ → Type 0) (G : B → List ℕ → Type 0) (name_of : B → Option Name)
    → HoldsIn Holds G name_of → (o : Option A) (y : B) (bytes : List ℕ) → IsBytes bytes → OptionalOf tag S G o y bytes
    → IfSome (name_of y) (Holds bytes)
past_each Holds of tag S G name_of h None y bytes fits s = h.holds y bytes fits s
past_each Holds of tag S G name_of h (Some x) y bytes fits s =
    (past_field Holds of tag S G name_of h).holds (x, y) bytes fits s

past_optional : {A B : Type 0} (Holds : List ℕ → Name → Type 0) → HoldsOfNames Holds
    → (tag : ℕ) (S : A → List ℕ → Type 0) (G : B → List ℕ → Type 0) (name_of : B → Option Name)
    → HoldsIn Holds G name_of → HoldsIn Holds (Optional tag S G) (λ x. name_of x.1)
past_optional Holds of tag S G name_of h = record {
  holds = λ x bytes fits s. past_each Holds of tag S G name_of h x.0 x.1 bytes fits s;
}

name_here : {B : Type 0} (Holds : List ℕ → Name → Type 0) → HoldsOfNames Holds
    → (tag : ℕ) (G : B → List ℕ → Type 0) (o : Option Name) (y : B) (bytes : List ℕ) → IsBytes bytes
    → OptionalOf tag name.Spells G o y bytes → IfSome o (Holds bytes)
name_here Holds of tag G None y bytes fits s = tt
name_here Holds of tag G (Some n) y bytes fits s =
    let front : IsBytes s.0 = IsBytes-front s.0 s.1 (subst IsBytes s.4 fits) in
    of.longer n s.2.0 bytes (omega (arith, ap length s.4, length-append s.0 s.1, ap length s.2.3, tlv_longer tag s.2.0))
    (of.spelled n s.2.0 (inside_fits tag s.0 s.2.0 front s.2.3) s.2.2)

here : {B : Type 0} (Holds : List ℕ → Name → Type 0) → HoldsOfNames Holds → (tag : ℕ) (G : B → List ℕ → Type 0)
    → HoldsIn Holds (Optional tag name.Spells G) (λ x. x.0)
here Holds of tag G = record { holds = λ x bytes fits s. name_here Holds of tag G x.0 x.1 bytes fits s }

in_body : (Holds : List ℕ → Name → Type 0) → HoldsOfNames Holds → HoldsIn Holds req_body.Spells (λ b. b.sname)
unfolding req_body_form
in_body Holds of =
    let fields = (req_body_form string name (list_of int32) (list_of typed) encrypted_data (list_of ticket)).fields in
    in_contents Holds of 48 fields.Spells (λ y. y.1.1.1.0) fields.of
    (past_field Holds of 160 _ _ (λ y. y.1.1.0) (past_optional Holds of 161 _ _
    (λ y. y.1.0) (past_field Holds of 162 _ _ (λ y. y.0) (here Holds of 163 _))))

in_fields : (Holds : List ℕ → Name → Type 0) → HoldsOfNames Holds
    → HoldsIn Holds (sequence kdc_req_form).Spells (λ x. x.body.sname)
unfolding kdc_req_form
in_fields Holds of =
    in_contents Holds of 48 kdc_req_form.fields.Spells (λ y. y.1.1.1.0.sname) kdc_req_form.fields.of
    (past_field Holds of 161 _ _ (λ y. y.1.1.0.sname)
    (past_field Holds of 162 _ _ (λ y. y.1.0.sname)
    (past_optional Holds of 163 _ _ (λ y. y.0.sname)
    (in_field Holds of 164 _ _ (λ y. y.sname) (in_body Holds of)))))

-- it holds of the service that a request names, with the bytes of the request
pub in_request : (Holds : List ℕ → Name → Type 0) → HoldsOfNames Holds
    → (exchange : Exchange) (x : KdcReq) (bytes : List ℕ) → IsBytes bytes → SpellsKdcReq (exchange, x) bytes
    → IfSome x.body.sname (Holds bytes)
in_request Holds of exchange x bytes fits s =
    (in_contents Holds of (message_tag exchange) (sequence kdc_req_form).Spells (λ y. y.body.sname)
    (λ (y : KdcReq). y) (in_fields Holds of)).holds x bytes fits s
