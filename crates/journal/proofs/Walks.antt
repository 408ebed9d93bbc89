-- Where entries stand in a text, and what a walk through it finds.
use Rattle.std.proofs.Common.{◌≡◌, ◌≤◌, ◌<◌, ◌+◌, ◌-◌, ℕ, ℤ, List, [], ◌∷◌, ◌++◌, length, take, drop, Option, Some, None, Bool, true, false, refl, sym, ap, subst, ◌∙◌, append_assoc, arith}
use Rattle.std.specs.Prelude.{◌==◌, IfNone, IfSome}
use Rattle.std.proofs.lemmas.Bool.{eqb-true}
use Rattle.std.proofs.Math.Seq.{drop-append_seam, take-append_seam}
use Rattle.std.proofs.lemmas.List.{append-nil, length-append, length-drop, length-take-le, take-append-drop}
use Rattle.sha2.proofs.Facts256.{length-sha256}
use Rattle.sha2.specs.Sha256.{sha256}
use Rattle.krb_der.specs.Spelling.{length_octets, tlv}
use Rattle.krb_elements.specs.Codec.{written}
use Rattle.journal.specs.Decision.{greater}
use Rattle.journal.specs.Forms.{Entry, entry}
use Rattle.journal.specs.Showing.{AreFrom, StandsAt, element_length, entry_floor, floor_with}
use Rattle.journal.specs.Texts.{HasElement, check_of, checked}

-- ---- lengths

pub check_len : (before element : List ℕ) → length (check_of before element) ≡ 16
check_len before element = length-take-le 16 (sha256 (before ++ element)) (omega (arith, length-sha256 (before ++ element)))

pub tlv_len : (tag : ℕ) (c : List ℕ) → length (tlv tag c) ≡ 1 + (length (length_octets (length c)) + length c)
unfolding tlv
tlv_len tag c = let both = length-append (length_octets (length c)) c in omega (arith, both)

sixteen_octets : length (length_octets 16) ≡ 1
unfolding length_octets
sixteen_octets = refl

check_tlv : (before element : List ℕ) → length (tlv 4 (check_of before element)) ≡ 18
check_tlv before element =
    let len = check_len before element in
    let octets : length (length_octets (length (check_of before element))) ≡ 1 = ap (λ n. length (length_octets n)) len ∙ sixteen_octets in
    omega (arith, tlv_len 4 (check_of before element), octets, len)

pub checked_len : (before element : List ℕ) → length (checked before element) ≡ element_length element
checked_len before element =
    omega (arith, length-append (tlv 4 element) (tlv 4 (check_of before element)), check_tlv before element)

pub element_is : (element : List ℕ) (len octets : ℕ) → length element ≡ len → octets ≡ length (length_octets len)
    → 1 + octets + len + 18 ≡ element_length element
element_is element len octets is more =
    let same : octets ≡ length (length_octets (length element)) = more ∙ ap (λ n. length (length_octets n)) (sym is) in
    omega (arith, tlv_len 4 element, same, is)

pub element_within : (before element after text : List ℕ) → text ≡ checked before element ++ after
    → (0 < element_length element) × (element_length element ≤ length text)
element_within before element after text is =
    let len = checked_len before element in
    let all : length text ≡ length (checked before element) + length after = ap length is ∙ length-append (checked before element) after in
    (omega arith, omega (arith, len, all))

-- ---- where entries stand

-- two texts that are cut at the same place
pub cut_same : (a b x y : List ℕ) → a ++ x ≡ b ++ y → length a ≡ length b → (a ≡ b) × (x ≡ y)
cut_same a b x y is len = (
  sym (take-append_seam a x) ∙ (ap (take (length a)) is ∙ (ap (λ n. take n (b ++ y)) len ∙ take-append_seam b y)),
  sym (drop-append_seam a x) ∙ (ap (drop (length a)) is ∙ (ap (λ n. drop n (b ++ y)) len ∙ drop-append_seam b y)),
)

pub cut_here : (text front before rest : List ℕ) (place : ℕ) (e : Entry) → text ≡ (front ++ before) ++ rest
    → length (front ++ before) ≡ place
    → length before ≡ 16 → StandsAt text place e
    → (after : List ℕ) × HasElement e × (rest ≡ checked before (written entry e) ++ after)
cut_here text front before rest place e is len sixteen stands =
    let whole = cut_same (front ++ before) (stands.front ++ stands.before) rest (checked stands.before (written entry e) ++ stands.rest)
    (sym is ∙ stands.text_is) (len ∙ sym stands.place_is) in
    let all : length front + length before ≡ place = sym (length-append front before) ∙ len in
    let other : length stands.front + length stands.before ≡ place = sym (length-append stands.front stands.before) ∙ stands.place_is in
    let fronts : length front ≡ length stands.front = omega (arith, all, other, sixteen, stands.sixteen) in
    let same : before ≡ stands.before = (cut_same front stands.front before stands.before whole.0 fronts).1 in
    (stands.rest, stands.has, whole.1 ∙ ap (λ b. checked b (written entry e) ++ stands.rest) (sym same))

pub stands_within : (text : List ℕ) (place : ℕ) (e : Entry) → StandsAt text place e
    → (place < length text) × (place + element_length (written entry e) ≤ length text)
stands_within text place e stands =
    let w = element_within stands.before (written entry e) stands.rest (checked stands.before (written entry e) ++ stands.rest) refl in
    let all : length text ≡ length (stands.front ++ stands.before) + length (checked stands.before (written entry e) ++ stands.rest) =
    ap length stands.text_is ∙ length-append (stands.front ++ stands.before) (checked stands.before (written entry e) ++ stands.rest) in
    (omega (arith, w.0, w.1, all, stands.place_is), omega (arith, w.0, w.1, all, stands.place_is))

-- the place is at least 16
pub stands_behind : (text : List ℕ) (place : ℕ) (e : Entry) → place < 16 → StandsAt text place e → ⊥
stands_behind text place e lt stands =
    let all : length stands.front + length stands.before ≡ place = sym (length-append stands.front stands.before) ∙ stands.place_is in
    absurd (omega (arith, lt, all, stands.sixteen))

pub none_here : (text front before rest : List ℕ) (place : ℕ) → text ≡ (front ++ before) ++ rest
    → length (front ++ before) ≡ place
    → length before ≡ 16
    → ((e : Entry) (after : List ℕ) → HasElement e → rest ≡ checked before (written entry e) ++ after → ⊥)
    → (e : Entry) → StandsAt text place e → ⊥
none_here text front before rest place is len sixteen none e stands =
    let (after, has, found) = cut_here text front before rest place e is len sixteen stands in none e after has found

-- a text, cut at a place and 16 octets before it
pub parts_len : (text : List ℕ) (place : ℕ) → 16 ≤ place → place < length text
    → (length (take place text) ≡ place) × (length (drop (place - 16) (take place text)) ≡ 16)
parts_len text place le lt =
    let front : length (take place text) ≡ place = length-take-le place text (omega (arith, lt)) in
    (front, omega (arith, length-drop (place - 16) (take place text), front, le))

pub parts_are : (text : List ℕ) (place : ℕ)
    → text ≡ (take (place - 16) (take place text) ++ drop (place - 16) (take place text)) ++ drop place text
parts_are text place =
    sym (take-append-drop place text) ∙ ap (λ l. l ++ drop place text) (sym (take-append-drop (place - 16) (take place text)))

pub none_standing : (text : List ℕ) (place : ℕ) → 16 ≤ place → place < length text
    → ((e : Entry) (after : List ℕ) → HasElement e
    → drop place text ≡ checked (drop (place - 16) (take place text)) (written entry e) ++ after → ⊥)
    → (e : Entry) → StandsAt text place e → ⊥
none_standing text place le lt none =
    let len = parts_len text place le lt in
    none_here text (take (place - 16) (take place text)) (drop (place - 16) (take place text)) (drop place text) place (parts_are text place)
    (ap length (take-append-drop (place - 16) (take place text)) ∙ len.0) len.1 none

pub one_standing : (text : List ℕ) (place : ℕ) → 16 ≤ place → place < length text → (e : Entry) (after : List ℕ)
    → HasElement e
    → drop place text ≡ checked (drop (place - 16) (take place text)) (written entry e) ++ after → StandsAt text place e
one_standing text place le lt e after has is =
    let len = parts_len text place le lt in
    record {
      front = take (place - 16) (take place text);
      before = drop (place - 16) (take place text);
      rest = after;
      text_is = parts_are text place ∙ ap (λ l. (take (place - 16) (take place text) ++ drop (place - 16) (take place text)) ++ l) is;
      place_is = ap length (take-append-drop (place - 16) (take place text)) ∙ len.0;
      sixteen = len.1;
      has = has;
    }

-- ---- one step of a walk

more : (p place : ℕ) → place ≤ p → (p == place) ≡ false → place + 1 ≤ p
more p place le not = grind (arith)

pub one_on : (text : List ℕ) (place : ℕ) → ((e : Entry) → StandsAt text place e → ⊥) → (others : List Entry)
    → AreFrom text (place + 1) others
    → AreFrom text place others
unfolding AreFrom
one_on text place none [] from = λ p le e stands. by_place p le e stands
  where
    by_place : (p : ℕ) → place ≤ p → (e : Entry) → StandsAt text p e → ⊥
    by_place p le e stands = by_test (p == place) refl
      where
        by_test : (b : Bool) → (p == place) ≡ b → ⊥
        by_test true is = none e (subst (λ q. StandsAt text q e) (eqb-true p place is) stands)
        by_test false is = from p (more p place le is) e stands
one_on text place none (x ∷ others) (p, le, free, stands, rest) = (
  p,
  omega (arith, le),
  λ q from to e found. before q from to e found,
  stands,
  rest,
)
  where
    before : (q : ℕ) → place ≤ q → q < p → (e : Entry) → StandsAt text q e → ⊥
    before q from to e found = by_test (q == place) refl
      where
        by_test : (b : Bool) → (q == place) ≡ b → ⊥
        by_test true is = none e (subst (λ r. StandsAt text r e) (eqb-true q place is) found)
        by_test false is = free q (more q place from is) to e found

pub one_taken : (text : List ℕ) (place : ℕ) (e : Entry) → StandsAt text place e → (others : List Entry)
    → AreFrom text (place + element_length (written entry e)) others → AreFrom text place (e ∷ others)
unfolding AreFrom
one_taken text place e stands others rest = (
  place,
  omega arith,
  λ q from to x found. absurd (omega (arith, from, to)),
  stands,
  rest,
)

-- ---- a walk

pub record HasWalked (text : List ℕ) (from : ℕ) (first : Option ℤ) (place : ℕ) (floor : Option ℤ) : Type 0 where
  pub walked : List Entry
  pub floor_is : floor ≡ floor_with first walked
  pub goes_on : (others : List Entry) → AreFrom text place others → AreFrom text from (walked ++ others)
  pub within : place ≤ length text

pub none_walked : (text : List ℕ) (from : ℕ) (first : Option ℤ) → from ≤ length text
    → HasWalked text from first from first
none_walked text from first le = record { walked = []; floor_is = refl; goes_on = λ others are. are; within = le }

pub floor_both : (first : Option ℤ) (es others : List Entry)
    → floor_with first (es ++ others) ≡ floor_with (floor_with first es) others
floor_both first [] others = refl
floor_both first (e ∷ es) others = floor_both (greater first (Some (entry_floor e))) es others

pub more_walked : (text : List ℕ) (from : ℕ) (first : Option ℤ) (place : ℕ) (floor : Option ℤ)
    → HasWalked text from first place floor
    → (next : ℕ) (raised : Option ℤ) (es : List Entry) → raised ≡ floor_with floor es → next ≤ length text
    → ((others : List Entry) → AreFrom text next others → AreFrom text place (es ++ others))
    → HasWalked text from first next raised
more_walked text from first place floor w next raised es is le step = record {
  walked = w.walked ++ es;
  floor_is = is ∙ (ap (λ f. floor_with f es) w.floor_is ∙ sym (floor_both first w.walked es));
  goes_on = λ others are. subst (AreFrom text from) (sym (append_assoc w.walked es others)) (w.goes_on (es ++ others) (step others are));
  within = le;
}

-- nothing stands at the end
none_at_end : (text : List ℕ) (place : ℕ) → length text ≤ place → AreFrom text place []
unfolding AreFrom
none_at_end text place le = λ p at e stands. absurd (omega (arith, le, at, (stands_within text p e stands).0))

pub all_walked : (text : List ℕ) (from : ℕ) (first : Option ℤ) (place : ℕ) (floor : Option ℤ)
    → HasWalked text from first place floor
    → length text ≤ place → (es : List Entry) × AreFrom text from es × (floor ≡ floor_with first es)
all_walked text from first place floor w le =
    (w.walked, subst (AreFrom text from) (append-nil w.walked) (w.goes_on [] (none_at_end text place le)), w.floor_is)

-- the floor that one entry raises
pub one_floor : (floor : Option ℤ) (asked : ℤ) (raised : Option ℤ) (e : Entry) → raised ≡ greater floor (Some asked)
    → asked ≡ entry_floor e
    → raised ≡ floor_with floor (e ∷ [])
one_floor floor asked raised e is same = is ∙ ap (λ f. greater floor (Some f)) same

pub if_none : {A : Type 0} {P Q : Type 0} (o : Option A) → (P → Q) → IfNone o P → IfNone o Q
if_none None so p = so p
if_none (Some x) so p = tt

pub if_some : {A : Type 0} {P Q : A → Type 0} (o : Option A) → ((x : A) → P x → Q x) → IfSome o P → IfSome o Q
if_some None so p = tt
if_some (Some x) so p = so x p
