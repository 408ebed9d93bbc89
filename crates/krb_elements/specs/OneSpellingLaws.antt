-- A value without bit strings has one encoding: the one that is written.
use Rattle.std.proofs.Common.{◌≡◌, ℕ, ℤ, pos, true, List, [], ◌∷◌, ◌++◌, Option, Some, None, sym, ap, subst, ◌∙◌, arith}
use Rattle.std.proofs.lemmas.Int.{ints}
use Rattle.krb_der.specs.Spelling.{tlv, IsBytes}
use Rattle.krb_der.specs.Int.{int_octets}
use Rattle.krb_der.specs.IntLaws.{int_unique}
use Rattle.krb_der.specs.StepLaws.{IsBytes-back, IsBytes-front}
use Rattle.krb_der.specs.Time.{Time, time_octets}
use Rattle.krb_der.proofs.TimeSpellings.{time_unique}
use Rattle.krb_elements.specs.Spells.{Inside, End, Field, OptionalOf, Optional, Items, ListOf}
use Rattle.krb_elements.specs.Written.{field_text, maybe_text, field_then, optional_then, no_more, items_text}
use Rattle.krb_elements.specs.WrittenLaws.{inside_fits}
use Rattle.krb_elements.specs.Simple.{is_within, Int32, UInt32, Microseconds, microseconds_text, Fixed, fixed_text}
use Rattle.krb_elements.specs.Simple.{ByteString, as_they_are}
use Rattle.krb_elements.specs.SimpleLaws.{within_million}

-- a value with its own tag
pub record HasOneSpelling {A : Type 0} (S : A → List ℕ → Type 0) (tag : ℕ) (text : A → List ℕ) : Type 0 where
  pub is : (x : A) (bytes : List ℕ) → IsBytes bytes → S x bytes → bytes ≡ tlv tag (text x)

-- the contents of a value
pub record HaveOneText {A : Type 0} (G : A → List ℕ → Type 0) (text : A → List ℕ) : Type 0 where
  pub are : (x : A) (bytes : List ℕ) → IsBytes bytes → G x bytes → bytes ≡ text x

pub int32_one : HasOneSpelling Int32 2 int_octets
int32_one = record { is = λ z bytes fits s. int_unique z bytes fits s.1 }

pub uint32_one : HasOneSpelling UInt32 2 int_octets
uint32_one = record { is = λ z bytes fits s. int_unique z bytes fits s.1 }

pub microseconds_one : HasOneSpelling Microseconds 2 microseconds_text
microseconds_one = record {
  is = λ n bytes fits s.
      let same : s.0 ≡ pos n = sym (within_million s.0 s.1.0).1 ∙ ap (λ (m : ℕ). pos m) s.2 in
      int_unique s.0 bytes fits s.1.1 ∙ ap (λ (z : ℤ). tlv 2 (int_octets z)) same;
}

within_one : (n z : ℤ) → is_within n n z ≡ true → z ≡ n
within_one n z e = grind (arith, ints)

pub fixed_one : (n : ℤ) → HasOneSpelling (Fixed n) 2 (fixed_text n)
fixed_one n = record {
  is = λ x bytes fits s. int_unique s.0 bytes fits s.1.1 ∙ ap
      (λ (z : ℤ). tlv 2 (int_octets z)) (within_one n s.0 s.1.0);
}

pub time_one : HasOneSpelling Time 24 time_octets
time_one = record { is = λ z bytes fits s. time_unique z bytes s }

pub byte_string_one : (tag : ℕ) → HasOneSpelling (ByteString tag) tag as_they_are
byte_string_one tag = record { is = λ x bytes fits s. s.1 }

pub inside_one : {A B : Type 0} (tag : ℕ) (G : A → List ℕ → Type 0) (text : A → List ℕ) (from : B → A)
    → HaveOneText G text → HasOneSpelling (Inside tag (λ y. G (from y))) tag (λ y. text (from y))
inside_one tag G text from one = record {
  is = λ y bytes fits s. s.3 ∙ ap (tlv tag) (one.are (from y) s.0 (inside_fits tag bytes s.0 fits s.3) s.2);
}

pub end_one : HaveOneText End no_more
end_one = record { are = λ x bytes fits s. s }

field_same : {A B : Type 0} (outer tag : ℕ) (S : A → List ℕ → Type 0) (text : A → List ℕ) (G : B → List ℕ → Type 0)
    (others : B → List ℕ)
    → HasOneSpelling S tag text → HaveOneText G others → (x : A) (y : B) (bytes : List ℕ) → IsBytes bytes
    → Field outer S G (x, y) bytes → bytes ≡ field_text outer tag (text x) ++ others y
field_same outer tag S text G others one all x y bytes fits s =
    let both : IsBytes (s.0 ++ s.1) = subst IsBytes s.4 fits in
    let inner : IsBytes s.2.0 = inside_fits outer s.0 s.2.0 (IsBytes-front s.0 s.1 both) s.2.3 in
    s.4 ∙ ap (λ (l : List ℕ). l ++ s.1) (s.2.3 ∙ ap (tlv outer) (one.is x s.2.0 inner s.2.2)) ∙ ap
    (λ (l : List ℕ). field_text outer tag (text x) ++ l) (all.are y s.1 (IsBytes-back s.0 s.1 both) s.3)

pub field_one : {A B : Type 0} (outer tag : ℕ) (S : A → List ℕ → Type 0) (text : A → List ℕ) (G : B → List ℕ → Type 0)
    (others : B → List ℕ)
    → HasOneSpelling S tag text → HaveOneText G others
    → HaveOneText (Field outer S G) (field_then outer tag text others)
field_one outer tag S text G others one all = record {
  are = λ x bytes fits s. field_same outer tag S text G others one all x.0 x.1 bytes fits s;
}

optional_same : {A B : Type 0} (outer tag : ℕ) (S : A → List ℕ → Type 0) (text : A → List ℕ) (G : B → List ℕ → Type 0)
    (others : B → List ℕ)
    → HasOneSpelling S tag text → HaveOneText G others → (o : Option A) (y : B) (bytes : List ℕ) → IsBytes bytes
    → OptionalOf outer S G o y bytes → bytes ≡ maybe_text outer tag text o ++ others y
optional_same outer tag S text G others one all None y bytes fits s = all.are y bytes fits s
optional_same outer tag S text G others one all (Some x) y bytes fits s =
    field_same outer tag S text G others one all x y bytes fits s

pub optional_one : {A B : Type 0} (outer tag : ℕ) (S : A → List ℕ → Type 0) (text : A → List ℕ)
    (G : B → List ℕ → Type 0) (others : B → List ℕ)
    → HasOneSpelling S tag text → HaveOneText G others
    → HaveOneText (Optional outer S G) (optional_then outer tag text others)
optional_one outer tag S text G others one all = record {
  are = λ x bytes fits s. optional_same outer tag S text G others one all x.0 x.1 bytes fits s;
}

items_same : {A : Type 0} (S : A → List ℕ → Type 0) (tag : ℕ) (text : A → List ℕ) → HasOneSpelling S tag text
    → (xs : List A) (bytes : List ℕ) → IsBytes bytes → Items S xs bytes → bytes ≡ items_text tag text xs
items_same S tag text one [] bytes fits s = s
items_same S tag text one (x ∷ xs) bytes fits s =
    let both : IsBytes (s.0 ++ s.1) = subst IsBytes s.4 fits in
    s.4 ∙ ap (λ (l : List ℕ). l ++ s.1) (one.is x s.0 (IsBytes-front s.0 s.1 both) s.2) ∙ ap
    (λ (l : List ℕ). tlv tag (text x) ++ l) (items_same S tag text one xs s.1 (IsBytes-back s.0 s.1 both) s.3)

-- a value inside another
pub round_one : {A : Type 0} (outer tag : ℕ) (S : A → List ℕ → Type 0) (text : A → List ℕ) → HasOneSpelling S tag text
    → HasOneSpelling (Inside outer S) outer (λ x. tlv tag (text x))
round_one outer tag S text one = record {
  is = λ x bytes fits s. s.3 ∙ ap (tlv outer) (one.is x s.0 (inside_fits outer bytes s.0 fits s.3) s.2);
}

pub list_one : {A : Type 0} (S : A → List ℕ → Type 0) (tag : ℕ) (text : A → List ℕ) → HasOneSpelling S tag text
    → HasOneSpelling (ListOf S) 48 (items_text tag text)
list_one S tag text one = record {
  is = λ xs bytes fits s. s.3 ∙ ap (tlv 48) (items_same S tag text one xs s.0 (inside_fits 48 bytes s.0 fits s.3) s.2);
}
