-- The encoding that is written is at most three times as long as any other. So what was read can be written.
use Rattle.std.specs.Prelude.{nat_lt}
use Rattle.std.proofs.Common.{◌≡◌, ℕ, ◌+◌, ◌*◌, ◌^◌, ◌≤◌, true, List, [], ◌∷◌, ◌++◌, length, Option, Some, None, refl}
use Rattle.std.proofs.Common.{ap, subst, arith, inl, inr}
use Rattle.std.proofs.lemmas.Bool.{cases_Bool}
use Rattle.std.proofs.lemmas.List.{length-append}
use Rattle.krb_der.specs.Spelling.{tlv, length_octets, IsBytes}
use Rattle.krb_der.specs.Bits.{is_bits}
use Rattle.krb_der.specs.StepLaws.{IsBytes-back, IsBytes-front}
use Rattle.krb_elements.specs.Simple.{KerberosFlags, flags_text}
use Rattle.krb_elements.specs.Spells.{Inside, End, Field, OptionalOf, Optional}
use Rattle.krb_elements.specs.Written.{field_text, maybe_text, field_then, optional_then, no_more}
use Rattle.krb_elements.specs.WrittenLaws.{inside_fits}
use Rattle.krb_elements.specs.OneSpellingLaws.{HasOneSpelling}

-- a value with its own tag
pub record IsShort {A : Type 0} (S : A → List ℕ → Type 0) (tag : ℕ) (text : A → List ℕ) : Type 0 where
  pub is : (x : A) (bytes : List ℕ) → IsBytes bytes → S x bytes → length (tlv tag (text x)) ≤ 3 * length bytes

-- the contents of a value
pub record AreShort {A : Type 0} (G : A → List ℕ → Type 0) (text : A → List ℕ) : Type 0 where
  pub are : (x : A) (bytes : List ℕ) → IsBytes bytes → G x bytes → length (text x) ≤ 3 * length bytes

length_bounds : (n : ℕ) → (1 ≤ length (length_octets n)) × (length (length_octets n) ≤ 5)
unfolding length_octets
length_bounds n =
    elim (cases_Bool (nat_lt n (2 ^ 7))) [
      | inl p ↦ rw p (omega arith, omega arith)
      | inr p ↦ elim (cases_Bool (nat_lt n (2 ^ 8))) [
        | inl q ↦ rw (p, q) (omega arith, omega arith)
        | inr q ↦ elim (cases_Bool (nat_lt n (2 ^ 16))) [
          | inl r ↦ rw (p, q, r) (omega arith, omega arith)
          | inr r ↦ elim (cases_Bool (nat_lt n (2 ^ 24))) [
            | inl s ↦ rw (p, q, r, s) (omega arith, omega arith)
            | inr s ↦ rw (p, q, r, s) (omega arith, omega arith)
          ]
        ]
      ]
    ]

pub tlv_short : (tag : ℕ) (contents : List ℕ) → length (tlv tag contents) ≤ length contents + 6
unfolding tlv
tlv_short tag contents =
    omega (arith, length-append (length_octets (length contents)) contents, (length_bounds (length contents)).1)

pub tlv_long : (tag : ℕ) (contents : List ℕ) → length contents + 2 ≤ length (tlv tag contents)
unfolding tlv
tlv_long tag contents =
    omega (arith, length-append (length_octets (length contents)) contents, (length_bounds (length contents)).0)

-- a value with only one encoding is written in it
pub one_short : {A : Type 0} (S : A → List ℕ → Type 0) (tag : ℕ) (text : A → List ℕ) → HasOneSpelling S tag text
    → IsShort S tag text
one_short S tag text one = record { is = λ x bytes fits s. omega (arith, ap length (one.is x bytes fits s)) }

-- the contents of a BIT STRING are not empty
bits_some : (contents : List ℕ) → is_bits contents ≡ true → 1 ≤ length contents
unfolding is_bits
bits_some [] e = absurd cc
bits_some (unused ∷ octets) e = omega arith

flags_length : (bits : ℕ) → length (tlv 3 (flags_text bits)) ≡ 7
unfolding tlv length_octets
flags_length bits = refl

pub flags_short : IsShort KerberosFlags 3 flags_text
flags_short = record {
  is = λ bits bytes fits s. omega (
    arith,
    flags_length bits,
    ap length s.1.3,
    tlv_long 3 s.1.0,
    bits_some s.1.0 s.1.2.passes,
  );
}

-- the contents, and all that is inside them
pub inside_short : {A B : Type 0} (tag : ℕ) (G : A → List ℕ → Type 0) (text : A → List ℕ) (from : B → A)
    → AreShort G text → IsShort (Inside tag (λ y. G (from y))) tag (λ y. text (from y))
inside_short tag G text from short = record {
  is = λ y bytes fits s. omega (
    arith,
    tlv_short tag (text (from y)),
    short.are (from y) s.0 (inside_fits tag bytes s.0 fits s.3) s.2,
    tlv_long tag s.0,
    ap length s.3,
  );
}

-- a value inside another
pub round_short : {A : Type 0} (outer tag : ℕ) (S : A → List ℕ → Type 0) (text : A → List ℕ) → IsShort S tag text
    → IsShort (Inside outer S) outer (λ x. tlv tag (text x))
round_short outer tag S text short = record {
  is = λ x bytes fits s. omega (
    arith,
    tlv_short outer (tlv tag (text x)),
    short.is x s.0 (inside_fits outer bytes s.0 fits s.3) s.2,
    tlv_long outer s.0,
    ap length s.3,
  );
}

pub end_short : AreShort End no_more
end_short = record { are = λ x bytes fits s. omega arith }

pub field_short : {A B : Type 0} (outer tag : ℕ) (S : A → List ℕ → Type 0) (text : A → List ℕ) (G : B → List ℕ → Type 0)
    (others : B → List ℕ)
    → IsShort S tag text → AreShort G others → AreShort (Field outer S G) (field_then outer tag text others)
field_short outer tag S text G others short all = record {
  are = λ x bytes fits s.
      let both : IsBytes (s.0 ++ s.1) = subst IsBytes s.4 fits in
      let here : length (field_text outer tag (text x.0)) ≤ 3 * length s.0 =
      (round_short outer tag S text short).is x.0 s.0 (IsBytes-front s.0 s.1 both) s.2 in
      let later : length (others x.1) ≤ 3 * length s.1 = all.are x.1 s.1 (IsBytes-back s.0 s.1 both) s.3 in
      omega (
        arith,
        here,
        later,
        length-append (field_text outer tag (text x.0)) (others x.1),
        ap length s.4,
        length-append s.0 s.1,
      );
}

each_short : {A B : Type 0} (outer tag : ℕ) (S : A → List ℕ → Type 0) (text : A → List ℕ) (G : B → List ℕ → Type 0)
    (others : B → List ℕ)
    → IsShort S tag text → AreShort G others → (o : Option A) (y : B) (bytes : List ℕ) → IsBytes bytes
    → OptionalOf outer S G o y bytes → length (maybe_text outer tag text o ++ others y) ≤ 3 * length bytes
each_short outer tag S text G others short all None y bytes fits s = all.are y bytes fits s
each_short outer tag S text G others short all (Some x) y bytes fits s =
    (field_short outer tag S text G others short all).are (x, y) bytes fits s

pub optional_short : {A B : Type 0} (outer tag : ℕ) (S : A → List ℕ → Type 0) (text : A → List ℕ)
    (G : B → List ℕ → Type 0) (others : B → List ℕ)
    → IsShort S tag text → AreShort G others → AreShort (Optional outer S G) (optional_then outer tag text others)
optional_short outer tag S text G others short all = record {
  are = λ x bytes fits s. each_short outer tag S text G others short all x.0 x.1 bytes fits s;
}
