-- A value in range has the encoding that is written. Each way to combine writings preserves this.
use Rattle.std.proofs.Common.{◌≡◌, ℕ, ℤ, pos, ◌^◌, ◌<◌, true, List, [], ◌∷◌, ◌++◌, length, Option, Some, None, refl}
use Rattle.std.proofs.Common.{arith, w64, FitsSigned}
use Rattle.std.specs.Prelude.{IfSome}
use Rattle.std.proofs.lemmas.List.{length-append}
use Rattle.std.proofs.lemmas.Int.{ints}
use Rattle.krb_der.specs.Spelling.{tlv}
use Rattle.krb_der.specs.Int.{int_octets}
use Rattle.krb_der.specs.IntLaws.{int_spelled}
use Rattle.krb_der.specs.Civil.{IsCivilSecond}
use Rattle.krb_der.specs.Time.{Time, time_octets}
use Rattle.krb_der.proofs.TimeSpellings.{time_spelled}
use Rattle.krb_elements.specs.Spells.{Inside, End, Field, OptionalOf, Optional, Items, ListOf}
use Rattle.krb_elements.specs.Written.{field_text, maybe_text, field_then, optional_then, no_more, items_text}
use Rattle.krb_elements.specs.WrittenLaws.{tlv_longer}
use Rattle.krb_elements.specs.Simple.{is_within, IsInt32, Int32, IsMicrosecond, Microseconds, microseconds_text, Fixed}
use Rattle.krb_elements.specs.Simple.{fixed_text, ByteString, as_they_are}

-- a value with its own tag
pub record IsWritable {A : Type 0} (Fits : A → Type 0) (S : A → List ℕ → Type 0) (tag : ℕ)
    (text : A → List ℕ) : Type 0 where
  pub spells : (x : A) → Fits x → length (text x) < 2 ^ 32 → S x (tlv tag (text x))

-- the contents of a value
pub record AreWritable {A : Type 0} (Fit : A → Type 0) (G : A → List ℕ → Type 0) (text : A → List ℕ) : Type 0 where
  pub spell : (x : A) → Fit x → length (text x) < 2 ^ 32 → G x (text x)

-- every value is in range
abbrev pub Any : {A : Type 0} → A → Type 0
Any x = Unit {0}

-- ---- the simple types

int_fits : (z : ℤ) → IsInt32 z → FitsSigned w64 z
int_fits z e = grind (arith, ints)

microsecond_fits : (n : ℕ) → IsMicrosecond n → FitsSigned w64 (pos n)
microsecond_fits n lt = grind (arith, ints)

within_million : (n : ℕ) → IsMicrosecond n → is_within (pos 0) (pos 999999) (pos n) ≡ true
within_million n lt = grind (arith, ints)

pub int32_writable : IsWritable IsInt32 Int32 2 int_octets
int32_writable = record { spells = λ z fits lt. (fits, int_spelled z (int_fits z fits)) }

pub microseconds_writable : IsWritable IsMicrosecond Microseconds 2 microseconds_text
microseconds_writable = record {
  spells = λ n fits lt. (pos n, (within_million n fits, int_spelled (pos n) (microsecond_fits n fits)), refl);
}

pub fixed_writable : (n : ℤ) → is_within n n n ≡ true → IsInt32 n → IsWritable Any (Fixed n) 2 (fixed_text n)
fixed_writable n one fits = record { spells = λ x any lt. (n, (one, int_spelled n (int_fits n fits)), refl) }

pub time_writable : IsWritable IsCivilSecond Time 24 time_octets
time_writable = record { spells = λ z fits lt. time_spelled z fits }

pub byte_string_writable : (tag : ℕ) → IsWritable Any (ByteString tag) tag as_they_are
byte_string_writable tag = record { spells = λ x any lt. (lt, refl) }

-- ---- values that contain others

-- the contents, and all that is inside them
pub inside_writable : {A B : Type 0} (tag : ℕ) (Fit : A → Type 0) (G : A → List ℕ → Type 0) (text : A → List ℕ)
    (from : B → A)
    → AreWritable Fit G text → IsWritable (λ y. Fit (from y)) (Inside tag (λ y. G (from y))) tag (λ y. text (from y))
inside_writable tag Fit G text from w = record {
  spells = λ y fit lt. (text (from y), lt, w.spell (from y) fit lt, refl);
}

-- a value inside another
pub round_writable : {A : Type 0} (outer tag : ℕ) (Fits : A → Type 0) (S : A → List ℕ → Type 0) (text : A → List ℕ)
    → IsWritable Fits S tag text → IsWritable Fits (Inside outer S) outer (λ x. tlv tag (text x))
round_writable outer tag Fits S text w = record {
  spells = λ x fits lt. (tlv tag (text x), lt, w.spells x fits (omega (arith, tlv_longer tag (text x))), refl);
}

pub end_writable : AreWritable Any End no_more
end_writable = record { spell = λ x any lt. refl }

-- a field, followed by all later ones
pub field_writable : {A B : Type 0} (outer tag : ℕ) (Fits : A → Type 0) (S : A → List ℕ → Type 0) (text : A → List ℕ)
    (Fit : B → Type 0) (G : B → List ℕ → Type 0) (others : B → List ℕ)
    → IsWritable Fits S tag text → AreWritable Fit G others
    → AreWritable (λ x. Fits x.0 × Fit x.1) (Field outer S G) (field_then outer tag text others)
field_writable outer tag Fits S text Fit G others w v = record {
  spell = λ x fit lt.
      let front : List ℕ = field_text outer tag (text x.0) in
      let k : length (tlv tag (text x.0)) < 2 ^ 32 =
      omega (arith, tlv_longer outer (tlv tag (text x.0)), length-append front (others x.1)) in
      let m : length (others x.1) < 2 ^ 32 = omega (arith, length-append front (others x.1)) in (
        front,
        others x.1,
        (tlv tag (text x.0), k, w.spells x.0 fit.0 (omega (arith, tlv_longer tag (text x.0))), refl),
        v.spell x.1 fit.1 m,
        refl,
      );
}

each_spelled : {A B : Type 0} (outer tag : ℕ) (Fits : A → Type 0) (S : A → List ℕ → Type 0) (text : A → List ℕ)
    (Fit : B → Type 0) (G : B → List ℕ → Type 0) (others : B → List ℕ)
    → IsWritable Fits S tag text → AreWritable Fit G others → (o : Option A) (y : B) → IfSome o Fits → Fit y
    → length (maybe_text outer tag text o ++ others y) < 2 ^ 32
    → OptionalOf outer S G o y (maybe_text outer tag text o ++ others y)
each_spelled outer tag Fits S text Fit G others w v None y fits fit lt = v.spell y fit lt
each_spelled outer tag Fits S text Fit G others w v (Some x) y fits fit lt =
    (field_writable outer tag Fits S text Fit G others w v).spell (x, y) (fits, fit) lt

-- an optional field, followed by all later ones
pub optional_writable : {A B : Type 0} (outer tag : ℕ) (Fits : A → Type 0) (S : A → List ℕ → Type 0) (text : A → List ℕ)
    (Fit : B → Type 0) (G : B → List ℕ → Type 0) (others : B → List ℕ)
    → IsWritable Fits S tag text → AreWritable Fit G others
    → AreWritable (λ x. IfSome x.0 Fits × Fit x.1) (Optional outer S G) (optional_then outer tag text others)
optional_writable outer tag Fits S text Fit G others w v = record {
  spell = λ x fit lt. each_spelled outer tag Fits S text Fit G others w v x.0 x.1 fit.0 fit.1 lt;
}

items_spelled : {A : Type 0} (S : A → List ℕ → Type 0) (tag : ℕ) (text : A → List ℕ) → IsWritable Any S tag text
    → (xs : List A)
    → length (items_text tag text xs) < 2 ^ 32 → Items S xs (items_text tag text xs)
items_spelled S tag text w [] lt = refl
items_spelled S tag text w (x ∷ xs) lt =
    let k : length (text x) < 2 ^ 32 =
    omega (arith, tlv_longer tag (text x), length-append (tlv tag (text x)) (items_text tag text xs)) in
    let m : length (items_text tag text xs) < 2 ^ 32 =
    omega (arith, length-append (tlv tag (text x)) (items_text tag text xs)) in
    (tlv tag (text x), items_text tag text xs, w.spells x tt k, items_spelled S tag text w xs m, refl)

-- a list of values that are all in range
pub list_writable : {A : Type 0} (S : A → List ℕ → Type 0) (tag : ℕ) (text : A → List ℕ) → IsWritable Any S tag text
    → IsWritable Any (ListOf S) 48 (items_text tag text)
list_writable S tag text w = record {
  spells = λ xs any lt. (items_text tag text xs, lt, items_spelled S tag text w xs lt, refl);
}
