-- A part of a value is no longer than the bytes that encode the value.
use Rattle.std.proofs.Common.{ℕ, ◌≤◌, List, length, Option, Some, None, subst, ap, arith}
use Rattle.std.specs.Prelude.{IfSome}
use Rattle.std.proofs.lemmas.List.{length-append}
use Rattle.krb_der.specs.Spelling.{IsBytes}
use Rattle.krb_der.specs.StepLaws.{IsBytes-back, IsBytes-front}
use Rattle.krb_elements.specs.Spells.{Inside, Field, Optional, OptionalOf}
use Rattle.krb_elements.specs.WrittenLaws.{tlv_longer, inside_fits}

-- the part's size is at most the number of these bytes
abbrev pub IsAtMost : {X : Type 0} → (X → ℕ) → Option X → List ℕ → Type 0
IsAtMost size part bytes = IfSome part (λ x. size x ≤ length bytes)

longer : {X : Type 0} (size : X → ℕ) (part : Option X) (short long : List ℕ) → length short ≤ length long
    → IsAtMost size part short → IsAtMost size part long
longer size (Some x) short long le h = omega (arith, le, h)
longer size None short long le h = tt

-- the part of each value is at most as large as the value's encoding
pub record IsInside {A X : Type 0} (size : X → ℕ) (S : A → List ℕ → Type 0) (part : A → Option X) : Type 0 where
  pub is : (a : A) (bytes : List ℕ) → IsBytes bytes → S a bytes → IsAtMost size (part a) bytes

-- the part of an optional value, if it is there
abbrev pub part_of : {A X : Type 0} → (A → Option X) → Option A → Option X
part_of part (Some a) = part a
part_of part None = None

module _ {X : Type 0} (size : X → ℕ) where
  pub in_contents : {A B : Type 0} (tag : ℕ) (S : A → List ℕ → Type 0) (part : A → Option X) (from : B → A)
      → IsInside size S part → IsInside size (Inside tag (λ y. S (from y))) (λ y. part (from y))
  in_contents tag S part from h = record {
    is = λ y bytes fits s. longer size (part (from y)) s.0 bytes (omega (arith, ap length s.3, tlv_longer tag s.0))
        (h.is (from y) s.0 (inside_fits tag bytes s.0 fits s.3) s.2);
  }

  pub in_field : {A B : Type 0} (tag : ℕ) (S : A → List ℕ → Type 0) (G : B → List ℕ → Type 0) (part : A → Option X)
      → IsInside size S part → IsInside size (Field tag S G) (λ x. part x.0)
  in_field tag S G part h = record {
    is = λ x bytes fits s.
        let front : IsBytes s.0 = IsBytes-front s.0 s.1 (subst IsBytes s.4 fits) in
        longer size (part x.0) s.2.0 bytes (omega (
          arith,
          ap length s.4,
          length-append s.0 s.1,
          ap length s.2.3,
          tlv_longer tag s.2.0,
        )) (h.is x.0 s.2.0 (inside_fits tag s.0 s.2.0 front s.2.3) s.2.2);
  }

  pub past_field : {A B : Type 0} (tag : ℕ) (S : A → List ℕ → Type 0) (G : B → List ℕ → Type 0) (part : B → Option X)
      → IsInside size G part → IsInside size (Field tag S G) (λ x. part x.1)
  past_field tag S G part h = record {
    is = λ x bytes fits s. longer size (part x.1) s.1 bytes (omega (arith, ap length s.4, length-append s.0 s.1))
        (h.is x.1 s.1 (IsBytes-back s.0 s.1 (subst IsBytes s.4 fits)) s.3);
  }

  past_each : {A B : Type 0} (tag : ℕ) (S : A → List ℕ → Type 0) (G : B → List ℕ → Type 0) (part : B → Option X)
      → IsInside size G part → (o : Option A) (y : B) (bytes : List ℕ) → IsBytes bytes → OptionalOf tag S G o y bytes
      → IsAtMost size (part y) bytes
  past_each tag S G part h None y bytes fits s = h.is y bytes fits s
  past_each tag S G part h (Some x) y bytes fits s = (past_field tag S G part h).is (x, y) bytes fits s

  pub past_optional : {A B : Type 0} (tag : ℕ) (S : A → List ℕ → Type 0) (G : B → List ℕ → Type 0) (part : B → Option X)
      → IsInside size G part → IsInside size (Optional tag S G) (λ x. part x.1)
  past_optional tag S G part h = record { is = λ x bytes fits s. past_each tag S G part h x.0 x.1 bytes fits s }

  in_each : {A B : Type 0} (tag : ℕ) (S : A → List ℕ → Type 0) (G : B → List ℕ → Type 0) (part : A → Option X)
      → IsInside size S part → (o : Option A) (y : B) (bytes : List ℕ) → IsBytes bytes → OptionalOf tag S G o y bytes
      → IsAtMost size (part_of part o) bytes
  in_each tag S G part h None y bytes fits s = tt
  in_each tag S G part h (Some x) y bytes fits s = (in_field tag S G part h).is (x, y) bytes fits s

  pub in_optional : {A B : Type 0} (tag : ℕ) (S : A → List ℕ → Type 0) (G : B → List ℕ → Type 0) (part : A → Option X)
      → IsInside size S part → IsInside size (Optional tag S G) (λ x. part_of part x.0)
  in_optional tag S G part h = record { is = λ x bytes fits s. in_each tag S G part h x.0 x.1 bytes fits s }
