-- Laws of every type that is built from the pieces in Codec.
use Rattle.std.specs.Prelude.{IfSome, IsTrue, unsigned_abs, ◌&&◌, nat_lt}
use Rattle.std.proofs.Common.{◌≡◌, ℕ, ℤ, pos, negsuc, ◌*◌, ◌^◌, ◌<◌, ◌≤◌, Bool, true, false, cond, eqb, List, [], ◌∷◌}
use Rattle.std.proofs.Common.{◌++◌, length, Option, Some, None, Result, Ok, Err, refl, sym, ap, subst, ◌∙◌}
use Rattle.std.proofs.Common.{append_assoc, arith, w64, FitsSigned}
use Rattle.std.proofs.lemmas.Bool.{ltb-true, eq-eqb}
use Rattle.std.proofs.lemmas.Int.{ints}
use Rattle.std.proofs.lemmas.List.{length-append, append-nil}
use Rattle.krb_der.specs.declared.fault.DerFault.{DerFault}
use Rattle.krb_der.specs.Spelling.{tlv, IsBytes}
use Rattle.krb_der.specs.StepLaws.{IsBytes-back, IsBytes-front}
use Rattle.krb_der.specs.declared.fault.DerFault.TheVariants.{Trailing}
use Rattle.krb_der.specs.Reading.{◌>>=◌, time_at, tlv_at}
use Rattle.krb_der.specs.Int.{int_octets}
use Rattle.krb_der.specs.IntLaws.{int_spelled}
use Rattle.krb_der.specs.BitLaws.{bits_spelled}
use Rattle.krb_der.specs.Civil.{IsCivilSecond}
use Rattle.krb_der.specs.Time.{Time, time_octets}
use Rattle.krb_der.proofs.TimeLaws.{time_value_range}
use Rattle.krb_elements.specs.Format.{whole, inside, maybe, starts, sent, field, field_of, optional, end, seen_as}
use Rattle.krb_elements.specs.Format.{list_at}
use Rattle.krb_elements.specs.FieldReading.{then_field, then_maybe, then_sent, either_inside, nothing}
use Rattle.krb_elements.specs.FieldReading as reading
use Rattle.krb_elements.specs.Sent.{WithOctets}
use Rattle.krb_elements.specs.Spells.{Inside, InTagOf, SeenAs, Field, OptionalOf, Optional, Sent, End, Items, ListOf}
use Rattle.krb_elements.specs.Written.{field_text, maybe_text, field_then, optional_then, no_more, items_text}
use Rattle.krb_elements.specs.Simple.{
  is_within,
  IsInt32,
  Int32,
  int32_at,
  IsUInt32,
  UInt32,
  uint32_at,
  IsMicrosecond,
  Microseconds,
  microseconds_at,
  microseconds_text,
  Fixed,
  fixed_at,
  fixed_text,
  ByteString,
  as_they_are,
  KerberosFlags,
  flags_at,
  flags_text,
}
use Rattle.krb_elements.specs.Laws.{IsElement, IsWhole, AreFields, inside_ok, whole_ok, made_ok, seen_ok, sent_ok}
use Rattle.krb_elements.specs.Laws.{field_of_ok, inside_starts, field_ok, optional_ok, end_ok, list_ok}
use Rattle.krb_elements.specs.SimpleLaws.{int32_ok, uint32_ok, microseconds_ok, fixed_ok, byte_string_ok}
use Rattle.krb_elements.specs.SimpleLaws.{flags_ok, time_element, flags_fit}
use Rattle.krb_elements.specs.WrittenLaws.{tlv_longer, inside_fits}
use Rattle.krb_elements.specs.WritableLaws.{
  IsWritable,
  AreWritable,
  Any,
  int32_writable,
  microseconds_writable,
  fixed_writable,
  time_writable,
  byte_string_writable,
  inside_writable,
  round_writable,
  field_writable,
  optional_writable,
  end_writable,
}
use Rattle.krb_elements.specs.OneSpellingLaws.{HasOneSpelling, HaveOneText, int32_one, uint32_one, microseconds_one}
use Rattle.krb_elements.specs.OneSpellingLaws.{fixed_one, time_one, byte_string_one, inside_one, round_one}
use Rattle.krb_elements.specs.OneSpellingLaws.{field_one, optional_one, end_one, list_one}
use Rattle.krb_elements.specs.ShortTextLaws.{IsShort, AreShort, one_short, flags_short, inside_short, round_short}
use Rattle.krb_elements.specs.ShortTextLaws.{field_short, optional_short, end_short, tlv_short, tlv_long}

-- a value with an encoding is in range
pub record AreInRange {A : Type 0} (S : A → List ℕ → Type 0) (Fits : A → Type 0) : Type 0 where
  pub fits : (x : A) (bytes : List ℕ) → IsBytes bytes → S x bytes → Fits x

-- a value with its own tag
pub record Laws {A : Type 0} (S : A → List ℕ → Type 0) (at : List ℕ → Result (A × List ℕ) DerFault) (tag : ℕ)
    (text : A → List ℕ) (Fits : A → Type 0) (has_one : Bool) : Type 0 where
  -- bytes that are read as a value encode it, and bytes that encode a value are read as it
  pub element : IsElement S at
  -- a value with an encoding is in range
  pub range : AreInRange S Fits
  -- a value in range has the encoding that is written
  pub writable : IsWritable Fits S tag text
  -- the encoding that is written is at most three times as long as any other
  pub short : IsShort S tag text
  -- if no value has two encodings, it is the only one
  pub one : IsTrue has_one → HasOneSpelling S tag text

-- fields whose tags are not below low
pub record FieldLaws {V : Type 0} (low : ℕ) (G : V → List ℕ → Type 0) (g : List ℕ → Result (V × List ℕ) DerFault)
    (text : V → List ℕ) (onto : List ℕ → V → List ℕ) (Fit : V → Type 0) (has_one : Bool) : Type 0 where
  pub fields : AreFields low G (whole g)
  pub range : AreInRange G Fit
  pub writable : AreWritable Fit G text
  pub short : AreShort G text
  pub one : IsTrue has_one → HaveOneText G text
  -- writing them in order gives the text
  pub appends : (done : List ℕ) (v : V) → onto done v ≡ done ++ text v

both : (a b : Bool) → IsTrue (a && b) → IsTrue a × IsTrue b
both true b e = (refl, e)
both false b e = absurd cc

-- ---- the simple types

pub int32_laws : Laws Int32 int32_at 2 int_octets IsInt32 true
int32_laws = record {
  element = int32_ok;
  range = record { fits = λ x bytes fits s. s.0 };
  writable = int32_writable;
  short = one_short _ 2 _ int32_one;
  one = λ e. int32_one;
}

uint32_fits : (z : ℤ) → IsUInt32 z → FitsSigned w64 z
uint32_fits z e = grind (arith, ints)

pub uint32_laws : Laws UInt32 uint32_at 2 int_octets IsUInt32 true
uint32_laws = record {
  element = uint32_ok;
  range = record { fits = λ x bytes fits s. s.0 };
  writable = record { spells = λ z fits lt. (fits, int_spelled z (uint32_fits z fits)) };
  short = one_short _ 2 _ uint32_one;
  one = λ e. uint32_one;
}

below_million : (z : ℤ) (n : ℕ) → is_within (pos 0) (pos 999999) z ≡ true → unsigned_abs z ≡ n → IsMicrosecond n
below_million (pos m) n e same = subst IsMicrosecond same (grind (arith, ints))
below_million (negsuc m) n e same = absurd (grind (arith, ints))

pub microseconds_laws : Laws Microseconds microseconds_at 2 microseconds_text IsMicrosecond true
microseconds_laws = record {
  element = microseconds_ok;
  range = record { fits = λ n bytes fits s. below_million s.0 n s.1.0 s.2 };
  writable = microseconds_writable;
  short = one_short _ 2 _ microseconds_one;
  one = λ e. microseconds_one;
}

pub fixed_laws : (n : ℤ) → is_within n n n ≡ true → IsInt32 n → Laws (Fixed n) (fixed_at n) 2 (fixed_text n) Any true
fixed_laws n same fits = record {
  element = fixed_ok n;
  range = record { fits = λ x bytes fits s. tt };
  writable = fixed_writable n same fits;
  short = one_short _ 2 _ (fixed_one n);
  one = λ e. fixed_one n;
}

pub time_laws : Laws Time time_at 24 time_octets IsCivilSecond true
time_laws = record {
  element = time_element;
  range = record { fits = λ z bytes fits s. subst IsCivilSecond s.2.stands (time_value_range s.0 s.2.passes) };
  writable = time_writable;
  short = one_short _ 24 _ time_one;
  one = λ e. time_one;
}

pub byte_string_laws : (tag : ℕ) → Laws (ByteString tag) (tlv_at tag) tag as_they_are Any true
byte_string_laws tag = record {
  element = byte_string_ok tag;
  range = record { fits = λ x bytes fits s. tt };
  writable = byte_string_writable tag;
  short = one_short _ tag _ (byte_string_one tag);
  one = λ e. byte_string_one tag;
}

abbrev pub Is32Bits : ℕ → Type 0
Is32Bits bits = bits < 2 ^ 32

pub flags_laws : Laws KerberosFlags flags_at 3 flags_text Is32Bits false
flags_laws = record {
  element = flags_ok;
  range = record {
    fits = λ bits bytes fits s. subst Is32Bits s.2
        (flags_fit s.1.0 s.0 (inside_fits 3 bytes s.1.0 fits s.1.3) s.1.2.stands);
  };
  writable = record { spells = λ bits fits lt. ((bits, 32), bits_spelled bits fits, refl) };
  short = flags_short;
  one = λ e. absurd cc;
}

-- ---- lists

abbrev pub AllFit : {A : Type 0} → (A → Type 0) → List A → Type 0
AllFit Fits [] = Unit {0}
AllFit Fits (x ∷ xs) = Fits x × AllFit Fits xs

items_fit : {A : Type 0} (S : A → List ℕ → Type 0) (Fits : A → Type 0) → AreInRange S Fits
    → (xs : List A) (bytes : List ℕ) → IsBytes bytes → Items S xs bytes → AllFit Fits xs
items_fit S Fits r [] bytes fits s = tt
items_fit S Fits r (x ∷ xs) bytes fits s =
    let both : IsBytes (s.0 ++ s.1) = subst IsBytes s.4 fits in
    (r.fits x s.0 (IsBytes-front s.0 s.1 both) s.2, items_fit S Fits r xs s.1 (IsBytes-back s.0 s.1 both) s.3)

items_spelled : {A : Type 0} (Fits : A → Type 0) (S : A → List ℕ → Type 0) (tag : ℕ) (text : A → List ℕ)
    → IsWritable Fits S tag text → (xs : List A)
    → AllFit Fits xs → length (items_text tag text xs) < 2 ^ 32 → Items S xs (items_text tag text xs)
items_spelled Fits S tag text w [] fit lt = refl
items_spelled Fits S tag text w (x ∷ xs) fit lt =
    let k : length (text x) < 2 ^ 32 =
    omega (arith, tlv_longer tag (text x), length-append (tlv tag (text x)) (items_text tag text xs)) in
    let m : length (items_text tag text xs) < 2 ^ 32 =
    omega (arith, length-append (tlv tag (text x)) (items_text tag text xs)) in
    (tlv tag (text x), items_text tag text xs, w.spells x fit.0 k, items_spelled Fits S tag text w xs fit.1 m, refl)

items_short : {A : Type 0} (S : A → List ℕ → Type 0) (tag : ℕ) (text : A → List ℕ) → IsShort S tag text
    → (xs : List A) (bytes : List ℕ) → IsBytes bytes → Items S xs bytes
    → length (items_text tag text xs) ≤ 3 * length bytes
items_short S tag text short [] bytes fits s = omega arith
items_short S tag text short (x ∷ xs) bytes fits s =
    let both : IsBytes (s.0 ++ s.1) = subst IsBytes s.4 fits in
    let here : length (tlv tag (text x)) ≤ 3 * length s.0 = short.is x s.0 (IsBytes-front s.0 s.1 both) s.2 in
    let later : length (items_text tag text xs) ≤ 3 * length s.1 =
    items_short S tag text short xs s.1 (IsBytes-back s.0 s.1 both) s.3 in
    omega (
      arith,
      here,
      later,
      length-append (tlv tag (text x)) (items_text tag text xs),
      ap length s.4,
      length-append s.0 s.1,
    )

pub list_laws : {A : Type 0} (S : A → List ℕ → Type 0) (at : List ℕ → Result (A × List ℕ) DerFault) (tag : ℕ)
    (text : A → List ℕ) (Fits : A → Type 0) (has_one : Bool)
    → Laws S at tag text Fits has_one → Laws (ListOf S) (list_at at) 48 (items_text tag text) (AllFit Fits) has_one
list_laws S at tag text Fits has_one laws = record {
  element = list_ok S at laws.element;
  range = record {
    fits = λ xs bytes fits s. items_fit S Fits laws.range xs s.0 (inside_fits 48 bytes s.0 fits s.3) s.2;
  };
  writable = record {
    spells = λ xs fit lt. (items_text tag text xs, lt, items_spelled Fits S tag text laws.writable xs fit lt, refl);
  };
  short = record {
    is = λ xs bytes fits s. omega (
      arith,
      tlv_short 48 (items_text tag text xs),
      items_short S tag text laws.short xs s.0 (inside_fits 48 bytes s.0 fits s.3) s.2,
      tlv_long 48 s.0,
      ap length s.3,
    );
  };
  one = λ e. list_one S tag text (laws.one e);
}

-- ---- fields

-- readings with the same result
same_whole : {A : Type 0} (S : A → List ℕ → Type 0) (f g : List ℕ → Result A DerFault)
    → ((bytes : List ℕ) → g bytes ≡ f bytes) → IsWhole S f → IsWhole S g
same_whole S f g same is = record {
  takes = λ bytes x fits e. is.takes bytes x fits (sym (same bytes) ∙ e);
  again = λ x bytes s. same bytes ∙ is.again x bytes s;
}

same_fields : {A : Type 0} (low : ℕ) (S : A → List ℕ → Type 0) (f g : List ℕ → Result A DerFault)
    → ((bytes : List ℕ) → g bytes ≡ f bytes) → AreFields low S f → AreFields low S g
same_fields low S f g same are = record { whole = same_whole S f g same are.whole; above = are.above }

-- nothing is left
abbrev if_ended : {A : Type 0} → A × List ℕ → Result A DerFault
if_ended z = cond (eqb (length z.1) 0) (Ok z.0) (Err Trailing)

abbrev beside : {A B : Type 0} → A → B → Result (A × B) DerFault
beside x y = Ok (x, y)

abbrev before : {A B : Type 0} → A → B × List ℕ → Result ((A × B) × List ℕ) DerFault
before x y = Ok ((x, y.0), y.1)

ended_pair : {A B : Type 0} (b : Bool) (x : A) (y : B)
    → cond {A = Result (A × B) DerFault} b (beside x y) (Err Trailing)
    ≡ (cond {A = Result B DerFault} b (Ok y) (Err Trailing) >>= beside x)
ended_pair true x y = refl
ended_pair false x y = refl

ended_one : {A B : Type 0} (x : A) (r : Result (B × List ℕ) DerFault)
    → (r >>= before x) >>= if_ended ≡ (r >>= if_ended) >>= beside x
ended_one x (Ok y) = ended_pair (eqb (length y.1) 0) x y.0
ended_one x (Err e) = refl

-- checking for the end after all fields is the same as checking for it after the later ones
ended : {A B : Type 0} (g : List ℕ → Result (B × List ℕ) DerFault) (r : Result (A × List ℕ) DerFault)
    → (r >>= λ x. g x.1 >>= before x.0) >>= if_ended ≡ r >>= (λ x. whole g x.1 >>= beside x.0)
ended g (Ok x) = ended_one x.0 (g x.1)
ended g (Err e) = refl

abbrev pub ended_onto : List ℕ → Unit {0} → List ℕ
ended_onto done v = done

abbrev pub field_onto : {A B : Type 0} → ℕ → ℕ → (A → List ℕ) → (List ℕ → B → List ℕ) → List ℕ → A × B → List ℕ
field_onto outer tag text onto done v = onto (done ++ field_text outer tag (text v.0)) v.1

abbrev pub maybe_onto : {A B : Type 0} → ℕ → ℕ → (A → List ℕ) → (List ℕ → B → List ℕ) → List ℕ → Option A × B → List ℕ
maybe_onto outer tag text onto done v = onto (done ++ maybe_text outer tag text v.0) v.1

pub end_laws : (low : ℕ) → FieldLaws low End nothing no_more ended_onto Any true
end_laws low = record {
  fields = same_fields low End end (whole nothing) (λ bytes. refl) (end_ok low);
  range = record { fits = λ x bytes fits s. tt };
  writable = end_writable;
  short = end_short;
  one = λ e. end_one;
  appends = λ done v. sym (append-nil done);
}

in_field : {A B : Type 0} (outer : ℕ) (S : A → List ℕ → Type 0) (Fits : A → Type 0) (G : B → List ℕ → Type 0)
    (Fit : B → Type 0)
    → AreInRange S Fits → AreInRange G Fit → (x : A) (y : B) (bytes : List ℕ) → IsBytes bytes
    → Field outer S G (x, y) bytes → Fits x × Fit y
in_field outer S Fits G Fit r rs x y bytes fits s =
    let both : IsBytes (s.0 ++ s.1) = subst IsBytes s.4 fits in (
      r.fits x s.2.0 (inside_fits outer s.0 s.2.0 (IsBytes-front s.0 s.1 both) s.2.3) s.2.2,
      rs.fits y s.1 (IsBytes-back s.0 s.1 both) s.3,
    )

in_optional : {A B : Type 0} (outer : ℕ) (S : A → List ℕ → Type 0) (Fits : A → Type 0) (G : B → List ℕ → Type 0)
    (Fit : B → Type 0)
    → AreInRange S Fits → AreInRange G Fit → (o : Option A) (y : B) (bytes : List ℕ) → IsBytes bytes
    → OptionalOf outer S G o y bytes → IfSome o Fits × Fit y
in_optional outer S Fits G Fit r rs None y bytes fits s = (tt, rs.fits y bytes fits s)
in_optional outer S Fits G Fit r rs (Some x) y bytes fits s = in_field outer S Fits G Fit r rs x y bytes fits s

pub field_laws : {A B : Type 0} (outer next : ℕ) (S : A → List ℕ → Type 0) (at : List ℕ → Result (A × List ℕ) DerFault)
    (tag : ℕ) (text : A → List ℕ) (Fits : A → Type 0) (has_one : Bool)
    (G : B → List ℕ → Type 0) (g : List ℕ → Result (B × List ℕ) DerFault) (others : B → List ℕ)
    (onto : List ℕ → B → List ℕ) (Fit : B → Type 0) (have_one rising : Bool)
    → Laws S at tag text Fits has_one → (IsTrue rising → FieldLaws next G g others onto Fit have_one)
    → IsTrue (nat_lt outer next && rising) → FieldLaws outer (Field outer S G) (then_field outer at g)
    (field_then outer tag text others) (field_onto outer tag text onto)
    (λ x. Fits x.0 × Fit x.1) (has_one && have_one)
field_laws outer next S at tag text Fits has_one G g others onto Fit have_one rising one all up =
    let rest = all (both (nat_lt outer next) rising up).1 in
    record {
      fields = same_fields outer (Field outer S G) (field outer at (whole g)) (whole (then_field outer at g))
          (λ bytes. ended g (inside outer (whole at) bytes))
          (field_ok outer outer next S at G (whole g) (omega arith) one.element rest.fields);
      range = record { fits = λ x bytes fits s. in_field outer S Fits G Fit one.range rest.range x.0 x.1 bytes fits s };
      writable = field_writable outer tag Fits S text Fit G others one.writable rest.writable;
      short = field_short outer tag S text G others one.short rest.short;
      one = λ e. let b = both has_one have_one e in field_one outer tag S text G others (one.one b.0) (rest.one b.1);
      appends = λ done v. rest.appends (done ++ field_text outer tag (text v.0)) v.1 ∙ append_assoc done
          (field_text outer tag (text v.0)) (others v.1);
    }

pub optional_laws : {A B : Type 0} (outer next : ℕ) (S : A → List ℕ → Type 0)
    (at : List ℕ → Result (A × List ℕ) DerFault) (tag : ℕ) (text : A → List ℕ) (Fits : A → Type 0) (has_one : Bool)
    (G : B → List ℕ → Type 0) (g : List ℕ → Result (B × List ℕ) DerFault) (others : B → List ℕ)
    (onto : List ℕ → B → List ℕ) (Fit : B → Type 0) (have_one rising : Bool)
    → Laws S at tag text Fits has_one → (IsTrue rising → FieldLaws next G g others onto Fit have_one)
    → IsTrue (nat_lt outer next && rising) → FieldLaws outer (Optional outer S G) (then_maybe outer at g)
    (optional_then outer tag text others) (maybe_onto outer tag text onto)
    (λ x. IfSome x.0 Fits × Fit x.1) (has_one && have_one)
optional_laws outer next S at tag text Fits has_one G g others onto Fit have_one rising one all up =
    let b = both (nat_lt outer next) rising up in
    let rest = all b.1 in
    record {
      fields = same_fields outer (Optional outer S G) (optional outer at (whole g)) (whole (then_maybe outer at g))
          (λ bytes. ended g (maybe outer at bytes)) (optional_ok outer outer next S at G (whole g) (omega arith)
          (ltb-true outer next b.0) one.element rest.fields);
      range = record {
        fits = λ x bytes fits s. in_optional outer S Fits G Fit one.range rest.range x.0 x.1 bytes fits s;
      };
      writable = optional_writable outer tag Fits S text Fit G others one.writable rest.writable;
      short = optional_short outer tag S text G others one.short rest.short;
      one = λ e. let c = both has_one have_one e in optional_one outer tag S text G others (one.one c.0) (rest.one c.1);
      appends = λ done v. rest.appends (done ++ maybe_text outer tag text v.0) v.1 ∙ append_assoc done
          (maybe_text outer tag text v.0) (others v.1);
    }

abbrev seen_with : {V X : Type 0} → (V → X) → V × List ℕ → Result (X × List ℕ) DerFault
seen_with to v = Ok (to v.0, v.1)

abbrev made_with : {V X : Type 0} → (V → X) → V → Result X DerFault
made_with to v = Ok (to v)

made_one : {V X : Type 0} (to : V → X) (b : Bool) (v : V)
    → cond {A = Result X DerFault} b (Ok (to v)) (Err Trailing)
    ≡ (cond {A = Result V DerFault} b (Ok v) (Err Trailing) >>= made_with to)
made_one to true v = refl
made_one to false v = refl

-- the field's bytes are written as they were sent
abbrev pub sent_then : {A B : Type 0} → ℕ → (B → List ℕ) → WithOctets A × B → List ℕ
sent_then outer others v = tlv outer v.0.octets ++ others v.1

abbrev pub sent_onto : {A B : Type 0} → ℕ → (List ℕ → B → List ℕ) → List ℕ → WithOctets A × B → List ℕ
sent_onto outer onto done v = onto (done ++ tlv outer v.0.octets) v.1

pub sent_laws : {A B : Type 0} (outer next : ℕ) (S : A → List ℕ → Type 0) (at : List ℕ → Result (A × List ℕ) DerFault)
    (G : B → List ℕ → Type 0) (g : List ℕ → Result (B × List ℕ) DerFault) (others : B → List ℕ)
    (onto : List ℕ → B → List ℕ) (Fit : B → Type 0) (have_one rising : Bool)
    → IsElement S at → (IsTrue rising → FieldLaws next G g others onto Fit have_one)
    → IsTrue (nat_lt outer next && rising) → FieldLaws outer (Field outer (Sent S) G) (then_sent outer at g)
    (sent_then outer others) (sent_onto outer onto) (λ v. S v.0.value v.0.octets × Fit v.1) have_one
sent_laws {A} {B} outer next S at G g others onto Fit have_one rising is all up =
    let rest = all (both (nat_lt outer next) rising up).1 in
    record {
      fields = same_fields outer (Field outer (Sent S) G) (field_of outer (sent (whole at)) (whole g))
          (whole (then_sent outer at g)) (λ bytes. ended g (inside outer (sent (whole at)) bytes))
          (field_of_ok outer outer next (Sent S) (sent (whole at)) G (whole g) (omega arith)
          (sent_ok S (whole at) (whole_ok S at is.reading)) rest.fields);
      range = record {
        fits = λ v bytes fits s. (
          subst (λ (l : List ℕ). S v.0.value l) (sym s.2.2.1) s.2.2.0,
          rest.range.fits v.1 s.1 (IsBytes-back s.0 s.1 (subst IsBytes s.4 fits)) s.3,
        );
      };
      writable = record {
        spell = λ v fit lt.
            let k : length v.0.octets < 2 ^ 32 =
            omega (arith, tlv_longer outer v.0.octets, length-append (tlv outer v.0.octets) (others v.1)) in
            let m : length (others v.1) < 2 ^ 32 = omega (arith, length-append (tlv outer v.0.octets) (others v.1)) in (
              tlv outer v.0.octets,
              others v.1,
              (v.0.octets, k, (fit.0, refl), refl),
              rest.writable.spell v.1 fit.1 m,
              refl,
            );
      };
      short = record {
        are = λ v bytes fits s.
            let here : tlv outer v.0.octets ≡ s.0 = ap (tlv outer) s.2.2.1 ∙ sym s.2.3 in
            omega (
              arith,
              ap length here,
              rest.short.are v.1 s.1 (IsBytes-back s.0 s.1 (subst IsBytes s.4 fits)) s.3,
              length-append (tlv outer v.0.octets) (others v.1),
              ap length s.4,
              length-append s.0 s.1,
            );
      };
      one = λ e. record {
        are = λ v bytes fits s.
            let here : tlv outer v.0.octets ≡ s.0 = ap (tlv outer) s.2.2.1 ∙ sym s.2.3 in
            s.4 ∙ ap (λ (l : List ℕ). l ++ s.1) (sym here) ∙ ap
            (λ (l : List ℕ). tlv outer v.0.octets ++ l) ((rest.one e).are v.1 s.1
            (IsBytes-back s.0 s.1 (subst IsBytes s.4 fits)) s.3);
      };
      appends = λ done v. rest.appends (done ++ tlv outer v.0.octets) v.1 ∙ append_assoc done (tlv outer v.0.octets)
          (others v.1);
    }

-- ---- either of two tags

tagged_ok : {K A : Type 0} (tag : K → ℕ) (k : K) (S : A → List ℕ → Type 0) (at : List ℕ → Result (A × List ℕ) DerFault)
    → IsElement S at
    → IsElement (SeenAs (reading.beside k) (Inside (tag k) S)) (seen_as (reading.beside k) (inside (tag k) (whole at)))
tagged_ok tag k S at is = seen_ok (reading.beside k) _ _ (inside_ok (tag k) S (whole at) (whole_ok S at is.reading))

abbrev chosen : {K A : Type 0} (tag : K → ℕ) (k m : K) → (List ℕ → Result (A × List ℕ) DerFault) → Bool → List ℕ
    → Result ((K × A) × List ℕ) DerFault
chosen tag k m at b bytes =
    cond b (seen_as (reading.beside m) (inside (tag m) (whole at)) bytes)
    (seen_as (reading.beside k) (inside (tag k) (whole at)) bytes)

either_takes : {K A : Type 0} (tag : K → ℕ) (k m : K) (S : A → List ℕ → Type 0)
    (at : List ℕ → Result (A × List ℕ) DerFault) → IsElement S at
    → (b : Bool) (bytes : List ℕ) (x : K × A) (rest : List ℕ) → IsBytes bytes → chosen tag k m at b bytes ≡ Ok (x, rest)
    → (front : List ℕ) × InTagOf tag S x front × (bytes ≡ front ++ rest)
either_takes {K} {A} tag k m S at is true bytes x rest fits e =
    let t = (tagged_ok tag m S at is).reading.takes bytes x rest fits e in
    (t.0, subst (λ (y : K × A). InTagOf tag S y t.0) t.1.2 t.1.1, t.2)
either_takes {K} {A} tag k m S at is false bytes x rest fits e =
    let t = (tagged_ok tag k S at is).reading.takes bytes x rest fits e in
    (t.0, subst (λ (y : K × A). InTagOf tag S y t.0) t.1.2 t.1.1, t.2)

either_shorter : {K A : Type 0} (tag : K → ℕ) (k m : K) (S : A → List ℕ → Type 0)
    (at : List ℕ → Result (A × List ℕ) DerFault) → IsElement S at
    → (b : Bool) (bytes : List ℕ) (x : K × A) (rest : List ℕ) → chosen tag k m at b bytes ≡ Ok (x, rest)
    → length rest < length bytes
either_shorter tag k m S at is true bytes x rest e = (tagged_ok tag m S at is).shorter bytes x rest e
either_shorter tag k m S at is false bytes x rest e = (tagged_ok tag k S at is).shorter bytes x rest e

-- there are no other values than these two: a property of both holds of each value
abbrev pub AreAll : {K : Type 0} → K → K → Type 1
AreAll {K} k m = (P : K → Type 0) → P k → P m → (x : K) → P x

pub either_ok : {K A : Type 0} (tag : K → ℕ) (k m : K) → AreAll k m → eqb (tag k) (tag m) ≡ false
    → (S : A → List ℕ → Type 0) (at : List ℕ → Result (A × List ℕ) DerFault) → IsElement S at
    → IsElement (InTagOf tag S) (either_inside (tag k, k) (tag m, m) at)
either_ok {K} {A} tag k m all apart S at is = record {
  reading = record {
    takes = λ bytes x rest fits e. either_takes tag k m S at is (starts (tag m) bytes) bytes x rest fits e;
    again = λ x front rest s. all (λ c. (y : A) → Inside (tag c) S y front
        → either_inside (tag k, k) (tag m, m) at (front ++ rest) ≡ Ok ((c, y), rest))
        (λ y s. rw (inside_starts (tag k) (tag m) S y front rest s, apart)
        ((tagged_ok tag k S at is).reading.again (k, y) front rest (y, s, refl)))
        (λ y s. rw (inside_starts (tag m) (tag m) S y front rest s, eq-eqb (tag m) (tag m) refl)
        ((tagged_ok tag m S at is).reading.again (m, y) front rest (y, s, refl)))
        x.0 x.1 s;
  };
  value = λ x front s. (tag x.0, s.0, s.1, s.3);
  shorter = λ bytes x rest e. either_shorter tag k m S at is (starts (tag m) bytes) bytes x rest e;
}

made_whole : {V X : Type 0} (to : V → X) (r : Result (V × List ℕ) DerFault)
    → (r >>= seen_with to) >>= if_ended ≡ (r >>= if_ended) >>= made_with to
made_whole to (Err e) = refl
made_whole to (Ok v) = made_one to (eqb (length v.1) 0) v.0

-- ---- types that consist of fields, and types with their own tag

pub sequence_laws : {X V : Type 0} (low : ℕ) (of : X → V) (to : V → X) (G : V → List ℕ → Type 0)
    (g : List ℕ → Result (V × List ℕ) DerFault) (text : V → List ℕ) (onto : List ℕ → V → List ℕ) (Fit : V → Type 0)
    (has_one : Bool)
    → ((v : V) → of (to v) ≡ v) → ((x : X) → to (of x) ≡ x) → FieldLaws low G g text onto Fit has_one
    → Laws (Inside 48 (λ x. G (of x))) (inside 48 (whole (seen_as to g))) 48 (λ x. text (of x))
    (λ x. Fit (of x)) has_one
sequence_laws low of to G g text onto Fit has_one there back laws = record {
  element = inside_ok 48 _ _ (same_whole _ _ (whole (seen_as to g))
      (λ bytes. made_whole to (g bytes)) (made_ok low to of G (whole g) there back laws.fields));
  range = record { fits = λ x bytes fits s. laws.range.fits (of x) s.0 (inside_fits 48 bytes s.0 fits s.3) s.2 };
  writable = inside_writable 48 Fit G text of laws.writable;
  short = inside_short 48 G text of laws.short;
  one = λ e. inside_one 48 G text of (laws.one e);
}

pub round_laws : {A : Type 0} (outer : ℕ) (S : A → List ℕ → Type 0) (at : List ℕ → Result (A × List ℕ) DerFault)
    (tag : ℕ) (text : A → List ℕ) (Fits : A → Type 0) (has_one : Bool)
    → Laws S at tag text Fits has_one → Laws (Inside outer S) (inside outer (whole at)) outer
    (λ x. tlv tag (text x)) Fits has_one
round_laws outer S at tag text Fits has_one laws = record {
  element = inside_ok outer S (whole at) (whole_ok S at laws.element.reading);
  range = record { fits = λ x bytes fits s. laws.range.fits x s.0 (inside_fits outer bytes s.0 fits s.3) s.2 };
  writable = round_writable outer tag Fits S text laws.writable;
  short = round_short outer tag S text laws.short;
  one = λ e. round_one outer tag S text (laws.one e);
}
