-- The encoding of a type: one definition says which bytes encode a value, how it is read, and how it is written. A
-- message is one such definition, with one line for each field.
use Rattle.std.proofs.Common.{◌≤◌, length, refl}
use Rattle.std.specs.Prelude.{◌≡◌, ℕ, ℤ, ◌+◌, ◌&&◌, nat_lt, Bool, true, false, IsTrue, IfSome, List, ◌++◌, Option, Some}
use Rattle.std.specs.Prelude.{None, Result}
use Rattle.krb_der.specs.declared.fault.DerFault.{DerFault}
use Rattle.krb_der.specs.Spelling.{tlv}
use Rattle.krb_der.specs.Reading.{time_at, tlv_at}
use Rattle.krb_der.specs.Int.{int_octets}
use Rattle.krb_der.specs.Civil.{IsCivilSecond}
use Rattle.krb_der.specs.Time.{Time, time_octets}
use Rattle.krb_elements.specs.Spells.{Inside, Field, Optional, Sent, End, ListOf}
use Rattle.krb_elements.specs.Format as reading
use Rattle.krb_elements.specs.FieldReading.{nothing, then_field, then_maybe, then_sent}
use Rattle.krb_elements.specs.Written.{field_then, optional_then, no_more, items_text}
use Rattle.krb_elements.specs.Simple as simple
use Rattle.krb_elements.specs.Sent.{WithOctets}
use Rattle.krb_elements.specs.TextLengthLaws.{
  as_long,
  end_bounded,
  most_maybe,
  most_items,
  int_bounded,
  microseconds_bounded,
  fixed_bounded,
  time_bounded,
  flags_bounded,
  round_bounded,
  then_bounded,
  optional_bounded,
  sent_bounded,
  items_bounded,
}
use Rattle.krb_elements.specs.WritableLaws.{Any}
use Rattle.krb_elements.specs.CodecLaws.{
  Laws,
  FieldLaws,
  ended_onto,
  field_onto,
  maybe_onto,
  sent_then,
  sent_onto,
  sent_laws,
  AllFit,
  Is32Bits,
  int32_laws,
  uint32_laws,
  microseconds_laws,
  fixed_laws,
  time_laws,
  byte_string_laws,
  flags_laws,
  list_laws,
  end_laws,
  field_laws,
  optional_laws,
  sequence_laws,
  round_laws,
}

-- a type whose values have their own tag
pub record Codec (A : Type 0) : Type 1 where
  -- which bytes encode a value
  pub Spells : A → List ℕ → Type 0
  -- what reading returns at the front of bytes
  pub at : List ℕ → Result (A × List ℕ) DerFault
  -- the tag and the contents of the encoding that is written
  pub tag : ℕ
  pub text : A → List ℕ
  -- the values that have an encoding, if its length fits
  pub Fits : A → Type 0
  -- whether no value has two encodings
  pub has_one : Bool
  -- the laws that connect them
  pub laws : Laws Spells at tag text Fits has_one
  -- an upper bound on the length of the contents
  pub most : A → ℕ
  pub bounded : (x : A) → length (text x) ≤ most x

-- the bytes that are written for a value
abbrev pub written : {A : Type 0} → Codec A → A → List ℕ
written c x = tlv c.tag (c.text x)

-- fields in order. A list of them says, for each, its tag, its part of X, and its type
pub record Fields (X : Type 0) : Type 1 where
  -- the values of the fields
  pub Values : Type 0
  pub of : X → Values
  pub Spells : Values → List ℕ → Type 0
  pub at : List ℕ → Result (Values × List ℕ) DerFault
  pub text : Values → List ℕ
  -- the same, appended to earlier output
  pub onto : List ℕ → Values → List ℕ
  pub Fits : Values → Type 0
  pub has_one : Bool
  -- the first tag, and whether the tags are ascending
  pub low : ℕ
  pub rising : Bool
  pub laws : IsTrue rising → FieldLaws low Spells at text onto Fits has_one
  pub most : Values → ℕ
  pub bounded : (v : Values) → length (text v) ≤ most v

-- no more fields; the greatest tag of one byte is [30]
abbrev pub end : {X : Type 0} → Fields X
end = record {
  Values = Unit {0};
  of = λ x. tt;
  Spells = End;
  at = nothing;
  text = no_more;
  onto = ended_onto;
  Fits = Any;
  has_one = true;
  low = 191;
  rising = true;
  laws = λ up. end_laws 191;
  most = λ v. 0;
  bounded = end_bounded;
}

-- the field with the tag [n], followed by the later ones
abbrev pub field : {X A : Type 0} → ℕ → (X → A) → Codec A → Fields X → Fields X
field {X} {A} n get c rest = record {
  Values = A × rest.Values;
  of = λ x. (get x, rest.of x);
  Spells = Field (160 + n) c.Spells rest.Spells;
  at = then_field (160 + n) c.at rest.at;
  text = field_then (160 + n) c.tag c.text rest.text;
  onto = field_onto (160 + n) c.tag c.text rest.onto;
  Fits = λ v. c.Fits v.0 × rest.Fits v.1;
  has_one = c.has_one && rest.has_one;
  low = 160 + n;
  rising = nat_lt (160 + n) rest.low && rest.rising;
  laws = field_laws (160 + n) rest.low c.Spells c.at c.tag c.text c.Fits c.has_one rest.Spells rest.at rest.text
      rest.onto rest.Fits rest.has_one rest.rising c.laws rest.laws;
  most = λ v. c.most v.0 + 12 + rest.most v.1;
  bounded = then_bounded (160 + n) c.tag c.text c.most rest.text rest.most c.bounded rest.bounded;
}

-- the optional field with the tag [n], followed by the later ones
abbrev pub optional : {X A : Type 0} → ℕ → (X → Option A) → Codec A → Fields X → Fields X
optional {X} {A} n get c rest = record {
  Values = Option A × rest.Values;
  of = λ x. (get x, rest.of x);
  Spells = Optional (160 + n) c.Spells rest.Spells;
  at = then_maybe (160 + n) c.at rest.at;
  text = optional_then (160 + n) c.tag c.text rest.text;
  onto = maybe_onto (160 + n) c.tag c.text rest.onto;
  Fits = λ v. IfSome v.0 c.Fits × rest.Fits v.1;
  has_one = c.has_one && rest.has_one;
  low = 160 + n;
  rising = nat_lt (160 + n) rest.low && rest.rising;
  laws = optional_laws (160 + n) rest.low c.Spells c.at c.tag c.text c.Fits c.has_one rest.Spells rest.at rest.text
      rest.onto rest.Fits rest.has_one rest.rising c.laws rest.laws;
  most = λ v. most_maybe c.most v.0 + rest.most v.1;
  bounded = optional_bounded (160 + n) c.tag c.text c.most rest.text rest.most c.bounded rest.bounded;
}

-- the field with the tag [n] and its bytes as they were sent, followed by the later ones
abbrev pub sent_field : {X A : Type 0} → ℕ → (X → WithOctets A) → Codec A → Fields X → Fields X
sent_field {X} {A} n get c rest = record {
  Values = WithOctets A × rest.Values;
  of = λ x. (get x, rest.of x);
  Spells = Field (160 + n) (Sent c.Spells) rest.Spells;
  at = then_sent (160 + n) c.at rest.at;
  text = sent_then (160 + n) rest.text;
  onto = sent_onto (160 + n) rest.onto;
  Fits = λ v. c.Spells v.0.value v.0.octets × rest.Fits v.1;
  has_one = rest.has_one;
  low = 160 + n;
  rising = nat_lt (160 + n) rest.low && rest.rising;
  laws = sent_laws (160 + n) rest.low c.Spells c.at rest.Spells rest.at rest.text rest.onto rest.Fits rest.has_one
      rest.rising c.laws.element rest.laws;
  most = λ v. length v.0.octets + 6 + rest.most v.1;
  bounded = sent_bounded (160 + n) rest.text rest.most rest.bounded;
}

-- a type that consists of fields: they hold all of a value, and their tags are ascending
pub record Record (X : Type 0) : Type 1 where
  pub fields : Fields X
  pub to : fields.Values → X
  pub there : (v : fields.Values) → fields.of (to v) ≡ v
  pub back : (x : X) → to (fields.of x) ≡ x
  pub rising : IsTrue fields.rising

-- the encoding, reading and writing of its fields
abbrev pub SpellsFields : {X : Type 0} → Record X → X → List ℕ → Type 0
SpellsFields r x = r.fields.Spells (r.fields.of x)

abbrev pub fields_at : {X : Type 0} → Record X → List ℕ → Result (X × List ℕ) DerFault
fields_at r = reading.seen_as r.to r.fields.at

abbrev pub fields_text : {X : Type 0} → Record X → X → List ℕ
fields_text r x = r.fields.text (r.fields.of x)

abbrev pub fields_onto : {X : Type 0} → Record X → List ℕ → X → List ℕ
fields_onto r done x = r.fields.onto done (r.fields.of x)

pub onto_is : {X : Type 0} (r : Record X) (done : List ℕ) (x : X) → fields_onto r done x ≡ done ++ fields_text r x
onto_is r done x = (r.fields.laws r.rising).appends done (r.fields.of x)

abbrev pub FitFields : {X : Type 0} → Record X → X → Type 0
FitFields r x = r.fields.Fits (r.fields.of x)

-- the SEQUENCE of these fields
abbrev pub sequence : {X : Type 0} → Record X → Codec X
sequence r = record {
  Spells = Inside 48 (SpellsFields r);
  at = reading.inside 48 (reading.whole (fields_at r));
  tag = 48;
  text = fields_text r;
  Fits = FitFields r;
  has_one = r.fields.has_one;
  laws = sequence_laws r.fields.low r.fields.of r.to r.fields.Spells r.fields.at r.fields.text r.fields.onto
      r.fields.Fits r.fields.has_one r.there r.back (r.fields.laws r.rising);
  most = λ x. r.fields.most (r.fields.of x);
  bounded = λ x. r.fields.bounded (r.fields.of x);
}

-- the same inside a tag, if there is one
abbrev pub in_tag : {X : Type 0} → Option ℕ → Codec X → Codec X
in_tag None c = c
in_tag (Some tag) c = record {
  Spells = Inside tag c.Spells;
  at = reading.inside tag (reading.whole c.at);
  tag = tag;
  text = λ x. tlv c.tag (c.text x);
  Fits = c.Fits;
  has_one = c.has_one;
  laws = round_laws tag c.Spells c.at c.tag c.text c.Fits c.has_one c.laws;
  most = λ x. c.most x + 6;
  bounded = round_bounded c.tag c.text c.most c.bounded;
}

-- the two codecs read and write the same
pub record AreSame {X : Type 0} (c d : Codec X) : Type 0 where
  pub at : (bytes : List ℕ) → c.at bytes ≡ d.at bytes
  pub text : (x : X) → c.text x ≡ d.text x
  pub written : (x : X) → tlv c.tag (c.text x) ≡ tlv d.tag (d.text x)
  pub fits : (x : X) → d.Fits x → c.Fits x

pub itself : {X : Type 0} {c : Codec X} → AreSame c c
itself = record { at = λ bytes. refl; text = λ x. refl; written = λ x. refl; fits = λ x h. h }

-- inside the tag [APPLICATION n]
abbrev pub application : {X : Type 0} → ℕ → Codec X → Codec X
application n = in_tag (Some (96 + n))

-- a SEQUENCE OF
abbrev pub list_of : {A : Type 0} → Codec A → Codec (List A)
list_of c = record {
  Spells = ListOf c.Spells;
  at = reading.list_at c.at;
  tag = 48;
  text = items_text c.tag c.text;
  Fits = AllFit c.Fits;
  has_one = c.has_one;
  laws = list_laws c.Spells c.at c.tag c.text c.Fits c.has_one c.laws;
  most = most_items c.most;
  bounded = items_bounded c.tag c.text c.most c.bounded;
}

-- the same, with the known length of what is written
abbrev pub measured : {A : Type 0} → Codec A → Codec A
measured c = record c { most = λ x. length (c.text x); bounded = λ x. as_long (c.text x) }

-- ---- the simple types

abbrev pub int32 : Codec ℤ
int32 = record {
  Spells = simple.Int32;
  at = simple.int32_at;
  tag = 2;
  text = int_octets;
  Fits = simple.IsInt32;
  has_one = true;
  laws = int32_laws;
  most = λ z. 8;
  bounded = int_bounded;
}

abbrev pub uint32 : Codec ℤ
uint32 = record {
  Spells = simple.UInt32;
  at = simple.uint32_at;
  tag = 2;
  text = int_octets;
  Fits = simple.IsUInt32;
  has_one = true;
  laws = uint32_laws;
  most = λ z. 8;
  bounded = int_bounded;
}

abbrev pub microseconds : Codec ℕ
microseconds = record {
  Spells = simple.Microseconds;
  at = simple.microseconds_at;
  tag = 2;
  text = simple.microseconds_text;
  Fits = simple.IsMicrosecond;
  has_one = true;
  laws = microseconds_laws;
  most = λ n. 8;
  bounded = microseconds_bounded;
}

-- a fixed number
abbrev pub fixed : (n : ℤ) → IsTrue (simple.is_within n n n) → simple.IsInt32 n → Codec (Unit {0})
fixed n same fits = record {
  Spells = simple.Fixed n;
  at = simple.fixed_at n;
  tag = 2;
  text = simple.fixed_text n;
  Fits = Any;
  has_one = true;
  laws = fixed_laws n same fits;
  most = λ x. 8;
  bounded = fixed_bounded n;
}

abbrev pub time : Codec ℤ
time = record {
  Spells = Time;
  at = time_at;
  tag = 24;
  text = time_octets;
  Fits = IsCivilSecond;
  has_one = true;
  laws = time_laws;
  most = λ z. 15;
  bounded = time_bounded;
}

abbrev pub byte_string : ℕ → Codec (List ℕ)
byte_string tag = record {
  Spells = simple.ByteString tag;
  at = tlv_at tag;
  tag = tag;
  text = simple.as_they_are;
  Fits = Any;
  has_one = true;
  laws = byte_string_laws tag;
  most = length;
  bounded = as_long;
}

abbrev pub octets : Codec (List ℕ)
octets = byte_string 4

abbrev pub string : Codec (List ℕ)
string = byte_string 27

abbrev pub flags : Codec ℕ
flags = record {
  Spells = simple.KerberosFlags;
  at = simple.flags_at;
  tag = 3;
  text = simple.flags_text;
  Fits = Is32Bits;
  has_one = false;
  laws = flags_laws;
  most = λ bits. 5;
  bounded = flags_bounded;
}
