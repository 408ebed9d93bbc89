-- A journal that was cut anywhere begins as a journal does.
use Rattle.std.proofs.Common.{◌≡◌, ◌^◌, ℕ, zero, suc, true, false, List, [], ◌∷◌, ◌++◌, length, take, drop, Option, Some, None, refl, sym, ap, subst, ◌∙◌, append_assoc}
use Rattle.std.specs.Prelude.{◌==◌, Bool, is_some, nat_lt, option_map, if◌then◌else◌}
use Rattle.std.specs.Int.{w32, to_be_bytes}
use Rattle.krb_der.specs.Spelling.{length_octets, tlv}
use Rattle.krb_elements.specs.Codec.{Fields, end, field, octets, time}
use Rattle.journal.specs.Forms.{Entry, Header, header_form}
use Rattle.journal.specs.Head.{behind_length, behind_tag, may_be_journal, more_octets, octets_behind, ◌>>=◌}
use Rattle.journal.specs.Texts.{chained, header_check, journal_text}

-- what was found is this, as far as it goes
abbrev GoesOn : Option (List ℕ) → List ℕ → Type 0
GoesOn found rest = (n : ℕ) × (found ≡ Some (take n rest))

dropped : (front rest : List ℕ) (n : ℕ) → (m : ℕ) × (drop (length front) (take n (front ++ rest)) ≡ take m rest)
dropped [] rest n = (n, refl)
dropped (o ∷ front) rest zero = (zero, refl)
dropped (o ∷ front) rest (suc n) = dropped front rest n

by_front : (first : ℕ) (more rest : List ℕ) (n : ℕ) → more_octets first ≡ Some (length more) → GoesOn (behind_length (take n (first ∷ (more ++ rest)))) rest
by_front first more rest zero is = (zero, refl)
by_front first more rest (suc n) is =
    let left = dropped more rest n in
    (left.0, ap (λ o. option_map (λ count. drop count (take n (more ++ rest))) o) is ∙ ap Some left.1)

by_length : (l : ℕ) (rest : List ℕ) (n : ℕ) → GoesOn (behind_length (take n (length_octets l ++ rest))) rest
unfolding length_octets
by_length l rest n = short (nat_lt l (2 ^ 7)) refl
  where
    long : (b c d : Bool) → GoesOn (behind_length (take n ((if b then 129 ∷ l ∷ [] else if c then 130 ∷ drop 2 (to_be_bytes w32 l)
        else if d then 131 ∷ drop 1 (to_be_bytes w32 l) else 132 ∷ to_be_bytes w32 l) ++ rest))) rest
    long true c d = by_front 129 (l ∷ []) rest n refl
    long false true d = by_front 130 (drop 2 (to_be_bytes w32 l)) rest n refl
    long false false true = by_front 131 (drop 1 (to_be_bytes w32 l)) rest n refl
    long false false false = by_front 132 (to_be_bytes w32 l) rest n refl

    short : (b : Bool) → nat_lt l (2 ^ 7) ≡ b → GoesOn (behind_length (take n ((if b then l ∷ [] else if nat_lt l (2 ^ 8) then 129 ∷ l ∷ []
        else if nat_lt l (2 ^ 16) then 130 ∷ drop 2 (to_be_bytes w32 l) else if nat_lt l (2 ^ 24) then 131 ∷ drop 1 (to_be_bytes w32 l) else 132 ∷ to_be_bytes w32 l) ++ rest))) rest
    short true is = by_front l [] rest n (ap (λ b. if b then Some 0 else octets_behind l) is)
    short false is = long (nat_lt l (2 ^ 8)) (nat_lt l (2 ^ 16)) (nat_lt l (2 ^ 24))

by_tag : (tag : ℕ) (x rest : List ℕ) (n : ℕ) → (tag == tag) ≡ true → GoesOn (behind_tag tag (take n (tlv tag x ++ rest))) (x ++ rest)
unfolding tlv
by_tag tag x rest zero is = (zero, refl)
by_tag tag x rest (suc n) is =
    subst (λ b. GoesOn (if b then behind_length (take n ((length_octets (length x) ++ x) ++ rest)) else None) (x ++ rest)) (sym is)
    (subst (λ l. GoesOn (behind_length (take n l)) (x ++ rest)) (sym (append_assoc (length_octets (length x)) x rest)) (by_length (length x) (x ++ rest) n))

goes_on : (f : List ℕ → Option (List ℕ)) (found : Option (List ℕ)) (rest later : List ℕ) → GoesOn found rest
    → ((n : ℕ) → GoesOn (f (take n rest)) later) → GoesOn (found >>= f) later
goes_on f found rest later (n, is) next = subst (λ o. GoesOn (o >>= f) later) (sym is) (next n)

-- one that goes on with the text behind it
inside : (tag : ℕ) (x y rest : List ℕ) → (tag == tag) ≡ true → (n : ℕ) → GoesOn (behind_tag tag (take n ((tlv tag x ++ y) ++ rest))) (x ++ (y ++ rest))
inside tag x y rest is n = subst (λ l. GoesOn (behind_tag tag (take n l)) (x ++ (y ++ rest))) (sym (append_assoc (tlv tag x) y rest)) (by_tag tag x (y ++ rest) n is)

four : (a b d e : List ℕ) (n : ℕ)
    → (m : ℕ) × ((behind_tag 4 (take n ((tlv 4 (tlv 48 (tlv 160 (tlv 4 a) ++ b)) ++ d) ++ e)) >>= behind_tag 48 >>= behind_tag 160 >>= behind_tag 4) ≡ Some (take m (a ++ (b ++ (d ++ e)))))
four a b d e n =
    goes_on (behind_tag 4) (behind_tag 4 (take n whole) >>= behind_tag 48 >>= behind_tag 160) (tlv 4 a ++ (b ++ (d ++ e))) (a ++ (b ++ (d ++ e)))
    (goes_on (behind_tag 160) (behind_tag 4 (take n whole) >>= behind_tag 48) ((tlv 160 (tlv 4 a) ++ b) ++ (d ++ e)) (tlv 4 a ++ (b ++ (d ++ e)))
    (goes_on (behind_tag 48) (behind_tag 4 (take n whole)) (tlv 48 (tlv 160 (tlv 4 a) ++ b) ++ (d ++ e)) ((tlv 160 (tlv 4 a) ++ b) ++ (d ++ e))
    (inside 4 (tlv 48 (tlv 160 (tlv 4 a) ++ b)) d e refl n) (λ m. by_tag 48 (tlv 160 (tlv 4 a) ++ b) (d ++ e) m refl))
    (inside 160 (tlv 4 a) b (d ++ e) refl)) (λ m. by_tag 4 a (b ++ (d ++ e)) m refl)
  where
    whole : List ℕ
    whole = (tlv 4 (tlv 48 (tlv 160 (tlv 4 a) ++ b)) ++ d) ++ e

-- the fields behind the realm
abbrev later : Fields Header
later = field 1 (λ x. x.boot) octets (field 2 (λ x. x.at) time (field 3 (λ x. x.floor) time (field 4 (λ x. x.link) octets end)))

pub fronts_may_be : (h : Header) (es : List Entry) (n : ℕ) → may_be_journal (take n (journal_text h es)) ≡ true
unfolding header_form
fronts_may_be h es n = ap is_some (four h.realm (later.text (later.of h)) (tlv 4 (header_check h)) (chained (header_check h) es) n).1
