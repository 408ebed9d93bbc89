-- What the reading of a journal's entries has found so far.
use Rattle.std.proofs.Common.{◌≡◌, ◌≢◌, ◌<◌, ℕ, List, [], ◌∷◌, ◌++◌, length, refl, sym, ap, ◌∙◌, append_assoc, arith, Err, true, false}
use Rattle.std.specs.Prelude.{◌==◌}
use Rattle.std.proofs.lemmas.Bool.{eqb-true, false≢true}
use Rattle.std.proofs.lemmas.List.{append-nil, length-append}
use Rattle.krb_der.specs.Laws.{tlv_some}
use Rattle.krb_der.specs.Spelling.{tlv}
use Rattle.krb_elements.specs.Codec.{written}
use Rattle.journal.specs.Forms.{Entry, entry}
use Rattle.journal.specs.Texts.{HasElement, HaveElements, UnlessMemory, chained, check_of, checked, last_check}
use Rattle.journal.specs.declared.fault.JournalError.{JournalError}
use Rattle.journal.specs.declared.fault.JournalError.TheVariants.{Broken, Memory}

abbrev pub w : Entry → List ℕ
w e = written entry e

pub chained-one : (check : List ℕ) (es : List Entry) (e : Entry) → chained check (es ++ e ∷ []) ≡ chained check es ++ checked (last_check check es) (w e)
unfolding chained last_check
chained-one check [] e = append-nil (checked check (w e))
chained-one check (x ∷ es) e =
    ap (λ l. checked check (w x) ++ l) (chained-one (check_of check (w x)) es e)
    ∙ sym (append_assoc (checked check (w x)) (chained (check_of check (w x)) es) (checked (last_check (check_of check (w x)) es) (w e)))

pub last-one : (check : List ℕ) (es : List Entry) (e : Entry) → last_check check (es ++ e ∷ []) ≡ check_of (last_check check es) (w e)
unfolding last_check
last-one check [] e = refl
last-one check (x ∷ es) e = last-one (check_of check (w x)) es e

pub one_first : (check : List ℕ) (e : Entry) (es : List Entry) → chained check (e ∷ es) ≡ checked check (w e) ++ chained (check_of check (w e)) es
unfolding chained
one_first check e es = refl

pub none_chained : (check : List ℕ) → chained check [] ≡ []
unfolding chained
none_chained check = refl

pub have_first : (e : Entry) (es : List Entry) → HaveElements (e ∷ es) → HasElement e × HaveElements es
unfolding HaveElements
have_first e es has = has

-- an element with its check is some octets
pub checked_some : (check element rest : List ℕ) → checked check element ++ rest ≢ []
checked_some check element rest none =
    let some = tlv_some 4 element in
    let first = length-append (tlv 4 element) (tlv 4 (check_of check element)) in
    let all = length-append (checked check element) rest in
    let zero : length (checked check element ++ rest) ≡ 0 = ap length none in
    omega (arith, some, first, all, zero)

pub have_none : HaveElements []
unfolding HaveElements
have_none = tt

pub have_one_more : (es : List Entry) (e : Entry) → HaveElements es → HasElement e → HaveElements (es ++ e ∷ [])
unfolding HaveElements
have_one_more [] e all one = (one, tt)
have_one_more (x ∷ es) e all one = (all.0, have_one_more es e all.1 one)

pub record IsRead (start before : List ℕ) (es : List Entry) (rest check : List ℕ) : Type 0 where
  pub found : start ≡ chained before es ++ rest
  pub last : check ≡ last_check before es
  pub have : HaveElements es
  -- entries that the text is begin with these
  pub only : (all : List Entry) → HaveElements all → start ≡ chained before all
      → (others : List Entry) × (all ≡ es ++ others) × HaveElements others × (rest ≡ chained check others)

pub begins : (start before : List ℕ) → IsRead start before [] start before
unfolding chained last_check
begins start before = record { found = refl; last = refl; have = have_none; only = λ all has is. (all, refl, has, is) }

module _ (start before : List ℕ) (es : List Entry) (rest check : List ℕ) (a : IsRead start before es rest check) where
  module _ (e : Entry) (left next : List ℕ) (has_e : HasElement e) (found : rest ≡ checked check (w e) ++ left) (next_is : next ≡ check_of check (w e))
      (one : (x : Entry) (r : List ℕ) → HasElement x → rest ≡ checked check (w x) ++ r → (e ≡ x) × (left ≡ r)) where
    goes_only : (all others : List Entry) → all ≡ es ++ others → HaveElements others → rest ≡ chained check others
        → (more : List Entry) × (all ≡ (es ++ e ∷ []) ++ more) × HaveElements more × (left ≡ chained next more)
    goes_only all [] all_is has rest_is = absurd (checked_some check (w e) left (sym found ∙ rest_is ∙ none_chained check))
    goes_only all (o ∷ os) all_is has rest_is =
        let parts = have_first o os has in
        let same = one o (chained (check_of check (w o)) os) parts.0 (rest_is ∙ one_first check o os) in (
          os,
          all_is ∙ ap (λ x. es ++ x ∷ os) (sym same.0) ∙ sym (append_assoc es (e ∷ []) os),
          parts.1,
          same.1 ∙ ap (λ c. chained c os) (ap (λ x. check_of check (w x)) (sym same.0) ∙ sym next_is),
        )

    pub goes_on : IsRead start before (es ++ e ∷ []) left next
    goes_on = record {
      found = a.found ∙ ap (λ l. chained before es ++ l) (found ∙ ap (λ c. checked c (w e) ++ left) a.last)
          ∙ sym (append_assoc (chained before es) (checked (last_check before es) (w e)) left)
          ∙ ap (λ l. l ++ left) (sym (chained-one before es e));
      last = next_is ∙ ap (λ c. check_of c (w e)) a.last ∙ sym (last-one before es e);
      have = have_one_more es e a.have has_e;
      only = λ all has is. let (others, all_is, has_others, rest_is) = a.only all has is in goes_only all others all_is has_others rest_is;
    }

  -- nothing is left
  pub done_found : rest ≡ [] → start ≡ chained before es
  done_found none = a.found ∙ ap (λ l. chained before es ++ l) none ∙ append-nil (chained before es)

  none_others : rest ≡ [] → (others : List Entry) → rest ≡ chained check others → others ≡ []
  none_others none [] is = refl
  none_others none (o ∷ os) is = absurd (checked_some check (w o) (chained (check_of check (w o)) os) (sym (one_first check o os) ∙ sym is ∙ none))

  pub done_only : rest ≡ [] → (all : List Entry) → HaveElements all → start ≡ chained before all → es ≡ all
  done_only none all has is =
      let (others, all_is, has_others, rest_is) = a.only all has is in
      sym (all_is ∙ ap (λ l. es ++ l) (none_others none others rest_is) ∙ append-nil es)

  -- the next one is not read
  pub fails : {X Y : Type 0} (fault : JournalError) (P : X → Type 0) (Q : Entry → List ℕ → Y → Type 0) → rest ≢ []
      → ((x : Entry) (r : List ℕ) → HasElement x → rest ≡ checked check (w x) ++ r → UnlessMemory {X = Y} (Err fault) (Q x r))
      → (all : List Entry) → HaveElements all → start ≡ chained before all → UnlessMemory {X = X} (Err fault) P
  fails Memory P Q some one all has is = tt
  fails Broken P Q some one all has is =
      let (others, all_is, has_others, rest_is) = a.only all has is in no_others others has_others rest_is
    where
      no_others : (others : List Entry) → HaveElements others → rest ≡ chained check others → ⊥
      no_others [] has rest_is = some (rest_is ∙ none_chained check)
      no_others (o ∷ os) has rest_is =
          let parts = have_first o os has in one o (chained (check_of check (w o)) os) parts.0 (rest_is ∙ one_first check o os)

-- an element is taken from the front
pub shorter : (check element old new : List ℕ) → old ≡ checked check element ++ new → length new < length old
shorter check element old new is =
    let some = tlv_some 4 element in
    let first = length-append (tlv 4 element) (tlv 4 (check_of check element)) in
    let all = length-append (checked check element) new in
    omega (arith, some, first, all, ap length is)

pub is_some : (xs : List ℕ) → false ≡ (length xs == 0) → xs ≢ []
is_some [] test none = absurd (false≢true test)
is_some (x ∷ xs) test none = let zero : length (x ∷ xs) ≡ 0 = ap length none in omega (arith, zero)

pub is_none : (xs : List ℕ) → true ≡ (length xs == 0) → xs ≡ []
is_none [] test = refl
is_none (x ∷ xs) test = let zero : length (x ∷ xs) ≡ 0 = eqb-true (length (x ∷ xs)) 0 (sym test) in absurd (omega (arith, zero))

-- of a fault it is the same, whatever was to be read
pub unless_fault : {X Y : Type 0} (fault : JournalError) (P : X → Type 0) (Q : Y → Type 0) → UnlessMemory {X = X} (Err fault) P
    → UnlessMemory {X = Y} (Err fault) Q
unless_fault Broken P Q none = none
unless_fault Memory P Q none = tt

pub not_broken : {X : Type 0} (fault : JournalError) (P : X → Type 0) → fault ≡ Broken → UnlessMemory {X = X} (Err fault) P → ⊥
not_broken Broken P is none = none
not_broken Memory P is none = absurd cc
