-- Upper bounds on the length of what is written: each piece adds up those of its parts.
use Rattle.std.proofs.Common.{ℕ, ℤ, pos, ◌+◌, ◌≤◌, List, [], ◌∷◌, ◌++◌, length, Option, Some, None, arith}
use Rattle.std.proofs.lemmas.List.{length-append}
use Rattle.krb_der.specs.Spelling.{tlv}
use Rattle.krb_der.specs.Int.{int_octets}
use Rattle.krb_der.specs.IntLaws.{int_short}
use Rattle.krb_der.specs.Time.{time_octets}
use Rattle.krb_der.proofs.TimeLaws.{length-time_octets}
use Rattle.krb_elements.specs.Simple.{microseconds_text, fixed_text, flags_text}
use Rattle.krb_elements.specs.Written.{field_text, maybe_text, field_then, optional_then, no_more, items_text}
use Rattle.krb_elements.specs.ShortTextLaws.{tlv_short}
use Rattle.krb_elements.specs.Sent.{WithOctets}

-- ---- the pieces: a tag and a length take at most 6 bytes

abbrev pub most_maybe : {A : Type 0} → (A → ℕ) → Option A → ℕ
most_maybe most None = 0
most_maybe most (Some x) = most x + 12

abbrev pub most_items : {A : Type 0} → (A → ℕ) → List A → ℕ
most_items most [] = 0
most_items most (x ∷ xs) = most x + 6 + most_items most xs

-- ---- the simple types

pub int_bounded : (z : ℤ) → length (int_octets z) ≤ 8
int_bounded z = int_short z

pub microseconds_bounded : (n : ℕ) → length (microseconds_text n) ≤ 8
microseconds_bounded n = int_short (pos n)

pub fixed_bounded : (n : ℤ) (x : Unit {0}) → length (fixed_text n x) ≤ 8
fixed_bounded n x = int_short n

pub time_bounded : (z : ℤ) → length (time_octets z) ≤ 15
time_bounded z = omega (arith, length-time_octets z)

pub flags_bounded : (bits : ℕ) → length (flags_text bits) ≤ 5
flags_bounded bits = omega arith

pub as_long : (octets : List ℕ) → length octets ≤ length octets
as_long octets = omega arith

-- ---- combinations

pub end_bounded : (x : Unit {0}) → length (no_more x) ≤ 0
end_bounded x = omega arith

pub round_bounded : {A : Type 0} (tag : ℕ) (text : A → List ℕ) (most : A → ℕ) → ((x : A) → length (text x) ≤ most x)
    → (x : A) → length (tlv tag (text x)) ≤ most x + 6
round_bounded tag text most b x = omega (arith, b x, tlv_short tag (text x))

field_bounded : (outer tag : ℕ) (contents : List ℕ) (m : ℕ) → length contents ≤ m
    → length (field_text outer tag contents) ≤ m + 12
field_bounded outer tag contents m le = omega (arith, tlv_short outer (tlv tag contents), tlv_short tag contents)

maybe_bounded : {A : Type 0} (outer tag : ℕ) (text : A → List ℕ) (most : A → ℕ) → ((x : A) → length (text x) ≤ most x)
    → (o : Option A) → length (maybe_text outer tag text o) ≤ most_maybe most o
maybe_bounded outer tag text most b None = omega arith
maybe_bounded outer tag text most b (Some x) = field_bounded outer tag (text x) (most x) (b x)

pub then_bounded : {A B : Type 0} (outer tag : ℕ) (text : A → List ℕ) (most : A → ℕ) (others : B → List ℕ)
    (rest : B → ℕ)
    → ((x : A) → length (text x) ≤ most x) → ((y : B) → length (others y) ≤ rest y) → (v : A × B)
    → length (field_then outer tag text others v) ≤ most v.0 + 12 + rest v.1
then_bounded outer tag text most others rest b bs v =
    omega (
      arith,
      length-append (field_text outer tag (text v.0)) (others v.1),
      field_bounded outer tag (text v.0) (most v.0) (b v.0),
      bs v.1,
    )

pub optional_bounded : {A B : Type 0} (outer tag : ℕ) (text : A → List ℕ) (most : A → ℕ) (others : B → List ℕ)
    (rest : B → ℕ)
    → ((x : A) → length (text x) ≤ most x) → ((y : B) → length (others y) ≤ rest y) → (v : Option A × B)
    → length (optional_then outer tag text others v) ≤ most_maybe most v.0 + rest v.1
optional_bounded outer tag text most others rest b bs v =
    omega (
      arith,
      length-append (maybe_text outer tag text v.0) (others v.1),
      maybe_bounded outer tag text most b v.0,
      bs v.1,
    )

pub sent_bounded : {A B : Type 0} (outer : ℕ) (others : B → List ℕ) (rest : B → ℕ)
    → ((y : B) → length (others y) ≤ rest y) → (v : WithOctets A × B)
    → length (tlv outer v.0.octets ++ others v.1) ≤ length v.0.octets + 6 + rest v.1
sent_bounded outer others rest bs v =
    omega (arith, length-append (tlv outer v.0.octets) (others v.1), tlv_short outer v.0.octets, bs v.1)

pub items_bounded : {A : Type 0} (tag : ℕ) (text : A → List ℕ) (most : A → ℕ) → ((x : A) → length (text x) ≤ most x)
    → (xs : List A) → length (items_text tag text xs) ≤ most_items most xs
items_bounded tag text most b [] = omega arith
items_bounded tag text most b (x ∷ xs) =
    omega (
      arith,
      length-append (tlv tag (text x)) (items_text tag text xs),
      tlv_short tag (text x),
      b x,
      items_bounded tag text most b xs,
    )
