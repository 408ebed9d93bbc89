-- Bytes that are read as a value encode it, and bytes that encode a value are read as it. Each way to combine readings
-- preserves this.
use Rattle.std.proofs.Common.{◌≡◌, ℕ, zero, suc, ◌^◌, ◌<◌, ◌≤◌, Bool, true, false, cond, eqb, List, [], ◌∷◌, ◌++◌}
use Rattle.std.proofs.Common.{length, Option, Some, None, Result, Ok, Err, refl, sym, ap, subst, ◌∙◌, arith}
use Rattle.std.specs.Prelude.{IfOk, IsOk, IsOkAnd}
use Rattle.std.proofs.lemmas.Bool.{eqb-true, eq-eqb, ne_eqb}
use Rattle.std.proofs.lemmas.List.{append-nil, nil_from_length, length-append}
use Rattle.krb_der.specs.declared.fault.DerFault.{DerFault}
use Rattle.krb_der.specs.declared.fault.DerFault.TheVariants.{Trailing}
use Rattle.krb_der.specs.Spelling.{tlv, Leaf, IsBytes}
use Rattle.krb_der.specs.Reading.{◌>>=◌, tlv_at, leaf_at}
use Rattle.krb_der.specs.Items.{elements, elements_from}
use Rattle.krb_der.specs.StepLaws.{IsBytes-back, bind_ok, ok_is}
use Rattle.krb_der.specs.Laws.{IsReading, leaf_ok, tlv_takes, tlv_again, tlv_shorter, tlv_some, contents_fit}
use Rattle.krb_der.specs.ElementLaws.{elements_tlv}
use Rattle.krb_elements.specs.declared.fault.Fault.{Fault}
use Rattle.krb_elements.specs.declared.fault.Fault.TheVariants as faults
use Rattle.krb_elements.specs.Format.{Decodes, Sees, IsReadUnlessMemory, whole, inside, such, seen_as, starts, end}
use Rattle.krb_elements.specs.Format.{field_of, field, with_octets, sent, optional, made, items, items_of, list_at}
use Rattle.krb_elements.specs.Format.{and_then, values}
use Rattle.krb_elements.specs.Sent.{WithOctets}
use Rattle.krb_elements.specs.Spells.{Inside, Such, SeenAs, End, Field, Sent, OptionalOf, Optional, Items, ListOf}

-- the bytes are one value, with any tag
abbrev pub IsValue : List ℕ → Type 0
IsValue bytes = (tag : ℕ) × (contents : List ℕ) × (length contents < 2 ^ 32) × (bytes ≡ tlv tag contents)

-- one value at the front of bytes
pub record IsElement {A : Type 0} (S : A → List ℕ → Type 0) (f : List ℕ → Result (A × List ℕ) DerFault) : Type 0 where
  pub reading : IsReading S f
  pub value : (x : A) (front : List ℕ) → S x front → IsValue front
  pub shorter : (bytes : List ℕ) (x : A) (rest : List ℕ) → f bytes ≡ Ok (x, rest) → length rest < length bytes

-- a value that takes up all of the bytes
pub record IsWhole {A : Type 0} (S : A → List ℕ → Type 0) (f : List ℕ → Result A DerFault) : Type 0 where
  pub takes : (bytes : List ℕ) (x : A) → IsBytes bytes → f bytes ≡ Ok x → S x bytes
  pub again : (x : A) (bytes : List ℕ) → S x bytes → f bytes ≡ Ok x

-- fields that take up all of the bytes, and whose tags are not below low
pub record AreFields {A : Type 0} (low : ℕ) (S : A → List ℕ → Type 0) (f : List ℕ → Result A DerFault) : Type 0 where
  pub whole : IsWhole S f
  pub above : (x : A) (bytes : List ℕ) (tag : ℕ) → tag < low → S x bytes → starts tag bytes ≡ false

guard_ended : {A : Type 0} (b : Bool) (d : DerFault) (x y : A) → cond b (Ok x) (Err d) ≡ Ok y → (b ≡ true) × (x ≡ y)
guard_ended true d x y e = (refl, cc)
guard_ended false d x y e = absurd cc

pub value_some : (bytes : List ℕ) → IsValue bytes → 0 < length bytes
value_some bytes v = subst (λ (l : List ℕ). 0 < length l) (sym v.3) (tlv_some v.0 v.1)

-- ---- values

pub whole_ok : {A : Type 0} (S : A → List ℕ → Type 0) (f : List ℕ → Result (A × List ℕ) DerFault) → IsReading S f
    → IsWhole S (whole f)
whole_ok {A} S f is = record {
  takes = λ bytes x fits e.
      let b = bind_ok (f bytes) (λ x. cond (eqb (length x.1) 0) (Ok x.0) (Err Trailing)) x e in
      let g = guard_ended (eqb (length b.0.1) 0) Trailing b.0.0 x b.2 in
      let nothing : b.0.1 ≡ [] = nil_from_length b.0.1 (eqb-true _ _ g.0) in
      let t = is.takes bytes b.0.0 b.0.1 fits b.1 in
      let all : bytes ≡ t.0 = t.2 ∙ ap (λ (r : List ℕ). t.0 ++ r) nothing ∙ append-nil t.0 in
      subst (λ (y : A). S y bytes) g.1 (subst (λ (r : List ℕ). S b.0.0 r) (sym all) t.1);
  again = λ x bytes s.
      let one : f bytes ≡ Ok (x, []) = ap f (sym (append-nil bytes)) ∙ is.again x bytes [] s in
      rw one refl;
}

pub inside_ok : {A : Type 0} (tag : ℕ) (S : A → List ℕ → Type 0) (f : List ℕ → Result A DerFault) → IsWhole S f
    → IsElement (Inside tag S) (inside tag f)
inside_ok {A} tag S f is = record {
  reading = record {
    takes = λ bytes x rest fits e.
        let b = bind_ok (tlv_at tag bytes) (λ c. f c.0 >>= λ x. Ok (x, c.1)) (x, rest) e in
        let d = bind_ok (f b.0.0) (λ x. Ok (x, b.0.1)) (x, rest) b.2 in
        let t = tlv_takes tag bytes b.0.0 b.0.1 fits b.1 in
        let s = is.takes b.0.0 d.0 (contents_fit tag bytes b.0.0 b.0.1 fits t.0) d.1 in
        subst (λ (y : A × List ℕ). (front : List ℕ) × Inside tag S y.0 front × (bytes ≡ front ++ y.1))
        (ok_is (d.0, b.0.1) (x, rest) d.2) (tlv tag b.0.0, (b.0.0, t.1, s, refl), t.0);
    again = λ x front rest s.
        let one : tlv_at tag (front ++ rest) ≡ Ok (s.0, rest) =
        ap (λ (l : List ℕ). tlv_at tag (l ++ rest)) s.3 ∙ tlv_again tag s.0 rest s.1 in
        rw (one, is.again x s.0 s.2) refl;
  };
  value = λ x front s. (tag, s.0, s.1, s.3);
  shorter = λ bytes x rest e.
      let b = bind_ok (tlv_at tag bytes) (λ c. f c.0 >>= λ x. Ok (x, c.1)) (x, rest) e in
      let d = bind_ok (f b.0.0) (λ x. Ok (x, b.0.1)) (x, rest) b.2 in
      let left : b.0.1 ≡ rest = ap (λ (p : A × List ℕ). p.1) (ok_is (d.0, b.0.1) (x, rest) d.2) in
      subst (λ (l : List ℕ). length l < length bytes) left (tlv_shorter tag bytes b.0.0 b.0.1 b.1);
}

-- a value of a simple type
pub leaf_element : {A : Type 0} (tag : ℕ) (test : List ℕ → Bool) (value : List ℕ → A) (fault : DerFault)
    → IsElement (Leaf tag test value) (leaf_at tag test value fault)
leaf_element {A} tag test value fault = record {
  reading = leaf_ok tag test value fault;
  value = λ x front s. (tag, s.0, s.1, s.3);
  shorter = λ bytes x rest e.
      let b = bind_ok (tlv_at tag bytes) (λ c. cond (test c.0) (Ok (value c.0, c.1)) (Err fault)) (x, rest) e in
      let g = guard_ended (test b.0.0) fault (value b.0.0, b.0.1) (x, rest) b.2 in
      subst (λ (p : A × List ℕ). length p.1 < length bytes) g.1 (tlv_shorter tag bytes b.0.0 b.0.1 b.1);
}

-- the contents themselves
pub tlv_element : (tag : ℕ) → IsElement (λ x bytes. (length x < 2 ^ 32) × (bytes ≡ tlv tag x)) (tlv_at tag)
tlv_element tag = record {
  reading = record {
    takes = λ bytes x rest fits e. let t = tlv_takes tag bytes x rest fits e in (tlv tag x, (t.1, refl), t.0);
    again = λ x front rest s. ap (λ (l : List ℕ). tlv_at tag (l ++ rest)) s.1 ∙ tlv_again tag x rest s.0;
  };
  value = λ x front s. (tag, x, s.0, s.1);
  shorter = λ bytes x rest e. tlv_shorter tag bytes x rest e;
}

pub such_ok : {A : Type 0} (test : A → Bool) (fault : DerFault) (S : A → List ℕ → Type 0)
    (f : List ℕ → Result (A × List ℕ) DerFault) → IsElement S f → IsElement (Such test S) (such test fault f)
such_ok {A} test fault S f is = record {
  reading = record {
    takes = λ bytes x rest fits e.
        let b = bind_ok (f bytes) (λ x. cond (test x.0) (Ok x) (Err fault)) (x, rest) e in
        let g = guard_ended (test b.0.0) fault b.0 (x, rest) b.2 in
        let t = is.reading.takes bytes b.0.0 b.0.1 fits b.1 in
        subst (λ (p : A × List ℕ). (front : List ℕ) × Such test S p.0 front × (bytes ≡ front ++ p.1)) g.1
        (t.0, (g.0, t.1), t.2);
    again = λ x front rest s. rw (is.reading.again x front rest s.1, s.0) refl;
  };
  value = λ x front s. is.value x front s.1;
  shorter = λ bytes x rest e.
      let b = bind_ok (f bytes) (λ x. cond (test x.0) (Ok x) (Err fault)) (x, rest) e in
      let g = guard_ended (test b.0.0) fault b.0 (x, rest) b.2 in
      subst (λ (p : A × List ℕ). length p.1 < length bytes) g.1 (is.shorter bytes b.0.0 b.0.1 b.1);
}

pub seen_ok : {A B : Type 0} (to : A → B) (S : A → List ℕ → Type 0) (f : List ℕ → Result (A × List ℕ) DerFault)
    → IsElement S f → IsElement (SeenAs to S) (seen_as to f)
seen_ok {A} {B} to S f is = record {
  reading = record {
    takes = λ bytes y rest fits e.
        let b = bind_ok (f bytes) (λ x. Ok (to x.0, x.1)) (y, rest) e in
        let t = is.reading.takes bytes b.0.0 b.0.1 fits b.1 in
        subst (λ (p : B × List ℕ). (front : List ℕ) × SeenAs to S p.0 front × (bytes ≡ front ++ p.1))
        (ok_is (to b.0.0, b.0.1) (y, rest) b.2) (t.0, (b.0.0, t.1, refl), t.2);
    again = λ y front rest s. rw (is.reading.again s.0 front rest s.1, s.2) refl;
  };
  value = λ y front s. is.value s.0 front s.1;
  shorter = λ bytes y rest e.
      let b = bind_ok (f bytes) (λ x. Ok (to x.0, x.1)) (y, rest) e in
      subst (λ (p : B × List ℕ). length p.1 < length bytes) (ok_is (to b.0.0, b.0.1) (y, rest) b.2)
      (is.shorter bytes b.0.0 b.0.1 b.1);
}

-- ---- fields

pub end_ok : (low : ℕ) → AreFields low End end
end_ok low = record {
  whole = record {
    takes = λ bytes x fits e. nil_from_length bytes
        (eqb-true _ _ (guard_ended (eqb (length bytes) 0) Trailing tt x e).0);
    again = λ x bytes s. rw s refl;
  };
  above = λ x bytes tag lt s. rw s refl;
}

pub inside_starts : {A : Type 0} (tag other : ℕ) (S : A → List ℕ → Type 0) (x : A) (front back : List ℕ)
    → Inside tag S x front → starts other (front ++ back) ≡ eqb tag other
unfolding tlv
inside_starts tag other S x front back s = rw s.3 refl

pub field_of_ok : {A B : Type 0} (low tag next : ℕ) (S : A → List ℕ → Type 0) (w : List ℕ → Result A DerFault)
    (G : B → List ℕ → Type 0) (g : List ℕ → Result B DerFault)
    → low ≤ tag → IsWhole S w → AreFields next G g → AreFields low (Field tag S G) (field_of tag w g)
field_of_ok {A} {B} low tag next S w G g le is are =
    let one = (inside_ok tag S w is).reading in
    record {
      whole = record {
        takes = λ bytes x fits e.
            let b = bind_ok (inside tag w bytes) (λ x. g x.1 >>= λ y. Ok (x.0, y)) x e in
            let d = bind_ok (g b.0.1) (λ y. Ok (b.0.0, y)) x b.2 in
            let t = one.takes bytes b.0.0 b.0.1 fits b.1 in
            let s = are.whole.takes b.0.1 d.0 (IsBytes-back t.0 b.0.1 (subst IsBytes t.2 fits)) d.1 in
            subst (λ (y : A × B). Field tag S G y bytes) (ok_is (b.0.0, d.0) x d.2) (t.0, b.0.1, t.1, s, t.2);
        again = λ x bytes s.
            let first : inside tag w bytes ≡ Ok (x.0, s.1) = ap (inside tag w) s.4 ∙ one.again x.0 s.0 s.1 s.2 in
            rw (first, are.whole.again x.1 s.1 s.3) refl;
      };
      above = λ x bytes other lt s.
          let k : starts other bytes ≡ eqb tag other =
          ap (starts other) s.4 ∙ inside_starts tag other S x.0 s.0 s.1 s.2 in
          k ∙ ne_eqb tag other (λ e. omega (arith, e));
    }

pub field_ok : {A B : Type 0} (low tag next : ℕ) (S : A → List ℕ → Type 0) (f : List ℕ → Result (A × List ℕ) DerFault)
    (G : B → List ℕ → Type 0) (g : List ℕ → Result B DerFault)
    → low ≤ tag → IsElement S f → AreFields next G g → AreFields low (Field tag S G) (field tag f g)
field_ok low tag next S f G g le is are = field_of_ok low tag next S (whole f) G g le (whole_ok S f is.reading) are

pub sent_ok : {A : Type 0} (S : A → List ℕ → Type 0) (w : List ℕ → Result A DerFault) → IsWhole S w
    → IsWhole (Sent S) (sent w)
sent_ok {A} S w is = record {
  takes = λ bytes x fits e.
      let b = bind_ok (w bytes) (λ y. Ok (with_octets bytes y)) x e in
      subst (λ (y : WithOctets A). Sent S y bytes) (ok_is (with_octets bytes b.0) x b.2)
      (is.takes bytes b.0 fits b.1, refl);
  again = λ x bytes s. rw (is.again x.value bytes s.0) (ap (λ (l : List ℕ). Ok (with_octets l x.value)) (sym s.1));
}

optional_takes : {A B : Type 0} (tag : ℕ) (S : A → List ℕ → Type 0) (f : List ℕ → Result (A × List ℕ) DerFault)
    (G : B → List ℕ → Type 0) (g : List ℕ → Result B DerFault)
    → IsElement S f → IsWhole G g → (b : Bool) (bytes : List ℕ) (x : Option A × B) → IsBytes bytes
    → (cond {A = Result (Option A × List ℕ) DerFault} b (inside tag (whole f) bytes >>= λ x. Ok (Some x.0, x.1))
    (Ok (None, bytes)) >>= λ x. g x.1 >>= λ y. Ok (x.0, y)) ≡ Ok x
    → Optional tag S G x bytes
optional_takes {A} {B} tag S f G g is are true bytes x fits e =
    let o = bind_ok (inside tag (whole f) bytes >>= λ x. Ok (Some x.0, x.1)) (λ x. g x.1 >>= λ y. Ok (x.0, y)) x e in
    let b = bind_ok (inside tag (whole f) bytes) (λ x. Ok (Some x.0, x.1)) o.0 o.1 in
    let t = (inside_ok tag S (whole f) (whole_ok S f is.reading)).reading.takes bytes b.0.0 b.0.1 fits b.1 in
    let p : o.0 ≡ (Some b.0.0, b.0.1) = sym (ok_is _ _ b.2) in
    let d = bind_ok (g o.0.1) (λ y. Ok (o.0.0, y)) x o.2 in
    let q : g b.0.1 ≡ Ok d.0 = subst (λ (r : Option A × List ℕ). g r.1 ≡ Ok d.0) p d.1 in
    let s = are.takes b.0.1 d.0 (IsBytes-back t.0 b.0.1 (subst IsBytes t.2 fits)) q in
    let same : (Some b.0.0, d.0) ≡ x = subst (λ (r : Option A × List ℕ). (r.0, d.0) ≡ x) p (ok_is _ _ d.2) in
    subst (λ (y : Option A × B). Optional tag S G y bytes) same (t.0, b.0.1, t.1, s, t.2)
optional_takes {A} {B} tag S f G g is are false bytes x fits e =
    let none : Option A = None in
    let d = bind_ok (g bytes) (λ y. Ok (none, y)) x e in
    subst (λ (y : Option A × B). Optional tag S G y bytes) (ok_is (none, d.0) x d.2) (are.takes bytes d.0 fits d.1)

field_starts : {A B : Type 0} (tag other : ℕ) (S : A → List ℕ → Type 0) (G : B → List ℕ → Type 0) (x : A × B)
    (bytes : List ℕ) → Field tag S G x bytes → starts other bytes ≡ eqb tag other
field_starts tag other S G x bytes s = ap (starts other) s.4 ∙ inside_starts tag other S x.0 s.0 s.1 s.2

optional_again : {A B : Type 0} (tag next : ℕ) (S : A → List ℕ → Type 0) (f : List ℕ → Result (A × List ℕ) DerFault)
    (G : B → List ℕ → Type 0) (g : List ℕ → Result B DerFault)
    → tag < next → IsElement S f → AreFields next G g → (o : Option A) (y : B) (bytes : List ℕ)
    → OptionalOf tag S G o y bytes → optional tag f g bytes ≡ Ok (o, y)
optional_again tag next S f G g lt is are None y bytes s =
    rw (are.above y bytes tag lt s, are.whole.again y bytes s) refl
optional_again tag next S f G g lt is are (Some x) y bytes s =
    let k : starts tag bytes ≡ true = field_starts tag tag S G (x, y) bytes s ∙ eq-eqb tag tag refl in
    let first : inside tag (whole f) bytes ≡ Ok (x, s.1) =
    ap (inside tag (whole f)) s.4 ∙ (inside_ok tag S (whole f) (whole_ok S f is.reading)).reading.again x s.0 s.1
    s.2 in
    rw (k, first, are.whole.again y s.1 s.3) refl

optional_above : {A B : Type 0} (low tag next : ℕ) (S : A → List ℕ → Type 0) (G : B → List ℕ → Type 0)
    (g : List ℕ → Result B DerFault)
    → low ≤ tag → tag < next → AreFields next G g → (o : Option A) (y : B) (bytes : List ℕ) (other : ℕ) → other < low
    → OptionalOf tag S G o y bytes → starts other bytes ≡ false
optional_above low tag next S G g le lt are None y bytes other l s = are.above y bytes other (omega arith) s
optional_above low tag next S G g le lt are (Some x) y bytes other l s =
    field_starts tag other S G (x, y) bytes s ∙ ne_eqb tag other (λ e. omega (arith, e))

pub optional_ok : {A B : Type 0} (low tag next : ℕ) (S : A → List ℕ → Type 0)
    (f : List ℕ → Result (A × List ℕ) DerFault) (G : B → List ℕ → Type 0) (g : List ℕ → Result B DerFault)
    → low ≤ tag → tag < next → IsElement S f → AreFields next G g → AreFields low (Optional tag S G) (optional tag f g)
optional_ok {A} {B} low tag next S f G g le lt is are =
    record {
      whole = record {
        takes = λ bytes x fits e. optional_takes tag S f G g is are.whole (starts tag bytes) bytes x fits e;
        again = λ x bytes s. optional_again tag next S f G g lt is are x.0 x.1 bytes s;
      };
      above = λ x bytes other l s. optional_above low tag next S G g le lt are x.0 x.1 bytes other l s;
    }

-- a value made from its fields, and its fields again
pub made_ok : {A B : Type 0} (low : ℕ) (to : A → B) (from : B → A) (S : A → List ℕ → Type 0)
    (f : List ℕ → Result A DerFault)
    → ((x : A) → from (to x) ≡ x) → ((y : B) → to (from y) ≡ y) → AreFields low S f
    → IsWhole (λ y. S (from y)) (made to f)
made_ok {A} {B} low to from S f there back are = record {
  takes = λ bytes y fits e.
      let b = bind_ok (f bytes) (λ x. Ok (to x)) y e in
      let s : S b.0 bytes = are.whole.takes bytes b.0 fits b.1 in
      let k : b.0 ≡ from y = sym (there b.0) ∙ ap from (ok_is (to b.0) y b.2) in
      subst (λ (x : A). S x bytes) k s;
  again = λ y bytes s. rw (are.whole.again (from y) bytes s) (ap (λ (z : B). Ok z) (back y));
}

-- ---- what a decoder ensures

pub is_found : {X : Type 0} (S : X → List ℕ → Type 0) (f : List ℕ → Result (X × List ℕ) DerFault) → IsElement S f
    → (bytes : List ℕ) (r : Result X Fault) → IsBytes bytes → Decodes r (whole f bytes) → IfOk r (λ x. S x bytes)
is_found S f is bytes (Ok x) fits h = (whole_ok S f is.reading).takes bytes x fits h
is_found S f is bytes (Err e) fits h = tt

pub is_only : {X : Type 0} (S : X → List ℕ → Type 0) (f : List ℕ → Result (X × List ℕ) DerFault) → IsElement S f
    → (bytes : List ℕ) (r : Result X Fault) → Decodes r (whole f bytes) → (x : X) → S x bytes → IsReadUnlessMemory r x
is_only S f is bytes (Ok y) h x s = ok_is y x (sym h ∙ (whole_ok S f is.reading).again x bytes s)
is_only S f is bytes (Err faults.Memory) h x s = tt
is_only S f is bytes (Err (faults.Der d)) h x s = let k = (whole_ok S f is.reading).again x bytes s in absurd cc

-- ---- lists

items_take : {A : Type 0} (S : A → List ℕ → Type 0) (f : List ℕ → Result (A × List ℕ) DerFault) → IsReading S f
    → (n : ℕ) (bytes : List ℕ) (xs : List A) → IsBytes bytes → items f n bytes ≡ Ok xs → Items S xs bytes
unfolding items
items_take {A} S f is n [] xs fits e =
    let nil : List A = [] in subst (λ (ys : List A). Items S ys []) (ok_is nil xs e) refl
items_take S f is zero (b ∷ bytes) xs fits e = absurd cc
items_take {A} S f is (suc n) (b ∷ bytes) xs fits e =
    let a = bind_ok (f (b ∷ bytes)) (λ x. items f n x.1 >>= λ xs. Ok (x.0 ∷ xs)) xs e in
    let d = bind_ok (items f n a.0.1) (λ xs. Ok (a.0.0 ∷ xs)) xs a.2 in
    let t = is.takes (b ∷ bytes) a.0.0 a.0.1 fits a.1 in
    let s = items_take S f is n a.0.1 d.0 (IsBytes-back t.0 a.0.1 (subst IsBytes t.2 fits)) d.1 in
    subst (λ (ys : List A). Items S ys (b ∷ bytes)) (ok_is (a.0.0 ∷ d.0) xs d.2) (t.0, a.0.1, t.1, s, t.2)

items_again : {A : Type 0} (S : A → List ℕ → Type 0) (f : List ℕ → Result (A × List ℕ) DerFault) → IsElement S f
    → (n : ℕ) (bytes : List ℕ) (xs : List A) → length bytes ≤ n → Items S xs bytes → items f n bytes ≡ Ok xs
unfolding items
items_again S f is n bytes [] le s = rw s refl
items_again S f is n [] (x ∷ xs) le s =
    let some = value_some s.0 (is.value x s.0 s.2) in
    absurd (omega (arith, some, length-append s.0 s.1, ap length s.4))
items_again S f is zero (b ∷ bytes) (x ∷ xs) le s = absurd (omega arith)
items_again S f is (suc n) (b ∷ bytes) (x ∷ xs) le s =
    let one : f (b ∷ bytes) ≡ Ok (x, s.1) = ap f s.4 ∙ is.reading.again x s.0 s.1 s.2 in
    let others : items f n s.1 ≡ Ok xs =
    items_again S f is n s.1 xs (omega (
      arith,
      value_some s.0 (is.value x s.0 s.2),
      length-append s.0 s.1,
      ap length s.4,
    )) s.3 in
    rw (one, others) refl

pub items_ok : {A : Type 0} (S : A → List ℕ → Type 0) (f : List ℕ → Result (A × List ℕ) DerFault) → IsElement S f
    → IsWhole (Items S) (items_of f)
items_ok S f is = record {
  takes = λ bytes xs fits e. items_take S f is.reading (length bytes) bytes xs fits e;
  again = λ xs bytes s. items_again S f is (length bytes) bytes xs (omega arith) s;
}

pub list_ok : {A : Type 0} (S : A → List ℕ → Type 0) (f : List ℕ → Result (A × List ℕ) DerFault) → IsElement S f
    → IsElement (ListOf S) (list_at f)
list_ok S f is = inside_ok 48 (Items S) (items_of f) (items_ok S f is)

no_values : {A : Type 0} (f : List ℕ → Result (A × List ℕ) DerFault) → values f (elements []) ≡ []
unfolding elements_from
no_values f = refl

-- the elements of a list are its values
values_spelled : {A : Type 0} (S : A → List ℕ → Type 0) (f : List ℕ → Result (A × List ℕ) DerFault) → IsElement S f
    → (bytes : List ℕ) (xs : List A) → Items S xs bytes → values f (elements bytes) ≡ xs
values_spelled S f is bytes [] s = ap (λ (l : List ℕ). values f (elements l)) s ∙ no_values f
values_spelled {A} S f is bytes (x ∷ xs) s =
    let v = is.value x s.0 s.2 in
    let cut : elements bytes ≡ s.0 ∷ elements s.1 =
    ap elements (s.4 ∙ ap (λ (l : List ℕ). l ++ s.1) v.3) ∙ elements_tlv v.0 v.1 s.1 v.2 ∙ ap
    (λ (l : List ℕ). l ∷ elements s.1) (sym v.3) in
    ap (values f) cut ∙ ap (λ r. and_then r (values f (elements s.1))) ((whole_ok S f is.reading).again x s.0 s.2) ∙ ap
    (λ (l : List A). x ∷ l) (values_spelled S f is s.1 xs s.3)

pub values_are : {A : Type 0} (S : A → List ℕ → Type 0) (f : List ℕ → Result (A × List ℕ) DerFault) → IsElement S f
    → (bytes : List ℕ) (xs : List A) → IsBytes bytes → items_of f bytes ≡ Ok xs → values f (elements bytes) ≡ xs
values_are S f is bytes xs fits e = values_spelled S f is bytes xs ((items_ok S f is).takes bytes xs fits e)

ok_value : {A E : Type 0} (r : Result A E) → IsOk r → (x : A) × (r ≡ Ok x)
ok_value (Ok x) h = (x, refl)
ok_value (Err e) h = absurd cc

-- a list whose elements have been read once is the list of their values
pub list_values : {A : Type 0} (S : A → List ℕ → Type 0) (f : List ℕ → Result (A × List ℕ) DerFault) → IsElement S f
    → (contents : List ℕ) → IsBytes contents
    → IsOk (items_of f contents) → items_of f contents ≡ Ok (values f (elements contents))
list_values {A} S f is contents fits ok =
    let x = ok_value (items_of f contents) ok in
    x.1 ∙ ap (λ (v : List A). Ok v) (sym (values_are S f is contents x.0 fits x.1))

-- ---- what a reader that takes up all of the bytes ensures

pub is_seen : {X : Type 0} (S : X → List ℕ → Type 0) (f : List ℕ → Result (X × List ℕ) DerFault) → IsElement S f
    → (bytes : List ℕ) (r : Result X DerFault) → IsBytes bytes → Sees r (whole f bytes) → IfOk r (λ x. S x bytes)
is_seen S f is bytes (Ok x) fits h = (whole_ok S f is.reading).takes bytes x fits h
is_seen S f is bytes (Err e) fits h = tt

pub is_seen_only : {X : Type 0} (S : X → List ℕ → Type 0) (f : List ℕ → Result (X × List ℕ) DerFault) → IsElement S f
    → (bytes : List ℕ) (r : Result X DerFault) → Sees r (whole f bytes) → (x : X) → S x bytes → IsOkAnd r (λ y. y ≡ x)
is_seen_only S f is bytes (Ok y) h x s = ok_is y x (sym h ∙ (whole_ok S f is.reading).again x bytes s)
is_seen_only S f is bytes (Err d) h x s = let k = (whole_ok S f is.reading).again x bytes s in absurd cc
