-- A greedy search for a pattern's parts finds what the pattern says.
use Rattle.std.proofs.Common.{◌≡◌, ◌≢◌, ◌∙◌, ◌&&◌, ◌||◌, ◌+◌, ◌-◌, ◌<◌, ◌≤◌, ◌++◌, ◌∷◌, [], ℕ, zero, suc, arith, Bool, true, false, List, MatchBool, Option, Some, None, drop, get_or, length, take, sym, ap, subst, refl, ⊎_elim}
use Rattle.std.proofs.Math.Dec.{eqb}
use Rattle.std.proofs.Math.Seq.{drop-append_seam}
use Rattle.std.proofs.lemmas.Bool.{and_from, cases_lt, cond-false, eq-eqb, eqb-true, false_from_ne_true, ne_eqb, or_left, or_right, true≢false}
use Rattle.std.proofs.lemmas.List.{append-nil, drop-drop, drop_at, length-take, take-append-drop}
use Rattle.std.specs.Str.Pattern.{FindsText, FindsTextPrefix, FindsTextSuffix, HasSuffixMatch, SplitsAroundMatch, StripsPrefix}
use Rattle.std.specs.Str.{bytes_eq}
use Rattle.std.proofs.lemmas.Slice.Eq.{bytes_eq-Decides}
use Rattle.kadm_changes.specs.Patterns.{begins, fits, some_end}

-- a part of a pattern without a star
abbrev pub IsPart : List ℕ → Type 0
IsPart part = (i : ℕ) → i < length part → get_or part i 0 ≢ 0x2A

same : (a b : Bool) → (a ≡ true → b ≡ true) → (b ≡ true → a ≡ true) → a ≡ b
same true b there back = sym (there refl)
same false true there back = back refl
same false false there back = refl

no_star : (octet : ℕ) (part : List ℕ) → IsPart (octet ∷ part) → eqb octet 0x2A ≡ false
no_star octet part free = ne_eqb octet 0x2A (free 0 (omega arith))

rest_of : (octet : ℕ) (part : List ℕ) → IsPart (octet ∷ part) → IsPart part
rest_of octet part free = λ i lt. free (suc i) (omega (arith, lt))

-- what a pattern says at an octet that is no star
plain : (octet : ℕ) (part pattern text : List ℕ) → IsPart (octet ∷ part)
    → fits (octet ∷ (part ++ pattern)) text ≡ begins octet (fits (part ++ pattern)) text
plain octet part pattern [] free = cond-false (eqb octet 0x2A) (some_end (fits (part ++ pattern)) []) false (no_star octet part free)
plain octet part pattern (first ∷ text) free =
    cond-false (eqb octet 0x2A) (some_end (fits (part ++ pattern)) (first ∷ text)) (eqb first octet && fits (part ++ pattern) text)
    (no_star octet part free)

-- a part, and then what fits the rest of the pattern
pub fits_part : (part pattern text : List ℕ) → IsPart part → fits pattern text ≡ true → fits (part ++ pattern) (part ++ text) ≡ true
fits_part [] pattern text free is = is
fits_part (octet ∷ part) pattern text free is =
    plain octet part pattern (octet ∷ (part ++ text)) free
    ∙ and_from (eqb octet octet) (fits (part ++ pattern) (part ++ text)) (eq-eqb octet octet refl)
    (fits_part part pattern text (rest_of octet part free) is)

-- and back
pub unfits_part : (part pattern text : List ℕ) → IsPart part → fits (part ++ pattern) text ≡ true
    → (rest : List ℕ) × (text ≡ part ++ rest) × (fits pattern rest ≡ true)
unfits_part [] pattern text free is = (text, refl, is)
unfits_part (octet ∷ part) pattern [] free is = absurd (true≢false (sym is ∙ plain octet part pattern [] free))
unfits_part (octet ∷ part) pattern (first ∷ text) free is =
    by (unfits_part part pattern text (rest_of octet part free)) (eqb first octet) (fits (part ++ pattern) text) refl refl
    (sym (plain octet part pattern (first ∷ text) free) ∙ is)
  where
    by : (fits (part ++ pattern) text ≡ true → (rest : List ℕ) × (text ≡ part ++ rest) × (fits pattern rest ≡ true))
        → (a b : Bool) → eqb first octet ≡ a → fits (part ++ pattern) text ≡ b → (a && b) ≡ true
        → (rest : List ℕ) × (first ∷ text ≡ octet ∷ (part ++ rest)) × (fits pattern rest ≡ true)
    by others true true one is both =
        let found = others is in
        (found.0, (λ k. eqb-true first octet one k ∷ found.1 k), found.2)
    by others true false one is both = absurd (true≢false (sym both))
    by others false b one is both = absurd (true≢false (sym both))

-- what passes as an end of an end of a text passes as one of the text
pub later : (test : List ℕ → Bool) (n : ℕ) (text : List ℕ) → some_end test (drop n text) ≡ true → some_end test text ≡ true
later test zero text is = is
later test (suc n) [] is = is
later test (suc n) (octet ∷ text) is = or_right (test (octet ∷ text)) (some_end test text) (later test n text is)

pub itself : (test : List ℕ → Bool) (text : List ℕ) → test text ≡ true → some_end test text ≡ true
itself test [] is = is
itself test (octet ∷ text) is = or_left (test (octet ∷ text)) (some_end test text) is

pub end_at : (test : List ℕ → Bool) (text : List ℕ) → some_end test text ≡ true → (n : ℕ) × (n ≤ length text) × (test (drop n text) ≡ true)
end_at test [] is = (0, omega arith, is)
end_at test (octet ∷ text) is = by (end_at test text) (test (octet ∷ text)) refl is
  where
    by : (some_end test text ≡ true → (n : ℕ) × (n ≤ length text) × (test (drop n text) ≡ true))
        → (here : Bool) → test (octet ∷ text) ≡ here → (here || some_end test text) ≡ true
        → (n : ℕ) × (n ≤ suc (length text)) × (test (drop n (octet ∷ text)) ≡ true)
    by others true e either = (0, omega arith, e)
    by others false e either = let found = others either in (suc found.0, omega (arith, found.1), found.2)

-- ---- the first match of a part

pub after_part : (part rest left : List ℕ) (i j : ℕ) → IsPart part → FindsText part left (Some (i, j))
    → some_end (fits (part ++ (0x2A ∷ rest))) left ≡ some_end (fits rest) (drop j left)
after_part part rest left i j free (before, at) = same _ _ there back
  where
    past : (n : ℕ) (end : List ℕ) → i ≤ n → drop n left ≡ part ++ end → drop (n - i) (drop j left) ≡ end
    past n end le is =
        let behind : j + (n - i) ≡ n + length part = omega (arith, at.ends, le) in
        drop-drop (n - i) j left ∙ (λ k. drop (behind k) left)
        ∙ sym (drop-drop (length part) n left) ∙ ap (drop (length part)) is ∙ drop_at part end (length part) refl

    there : some_end (fits (part ++ (0x2A ∷ rest))) left ≡ true → some_end (fits rest) (drop j left) ≡ true
    there is =
        let (n, _, here) = end_at (fits (part ++ (0x2A ∷ rest))) left is in
        let (end, split, last) = unfits_part part (0x2A ∷ rest) (drop n left) free here in
        ⊎_elim (λ lt. absurd (before n lt end split))
        (λ le. later (fits rest) (n - i) (drop j left) (subst (λ t. some_end (fits rest) t ≡ true) (sym (past n end le split)) last))
        (cases_lt n i)

    back : some_end (fits rest) (drop j left) ≡ true → some_end (fits (part ++ (0x2A ∷ rest))) left ≡ true
    back is = later (fits (part ++ (0x2A ∷ rest))) i left
        (itself (fits (part ++ (0x2A ∷ rest))) (drop i left)
        (subst (λ t. fits (part ++ (0x2A ∷ rest)) t ≡ true) (sym at.split) (fits_part part (0x2A ∷ rest) (drop j left) free is)))

pub lacks_part : (part rest left : List ℕ) → IsPart part → FindsText part left None
    → some_end (fits (part ++ (0x2A ∷ rest))) left ≡ false
lacks_part part rest left free none = false_from_ne_true _ (λ is.
    let (n, le, here) = end_at (fits (part ++ (0x2A ∷ rest))) left is in
    let (end, split, last) = unfits_part part (0x2A ∷ rest) (drop n left) free here in
    none n le end split)

-- the same, in the words of `split_once`
pub after_first : (part rest left behind : List ℕ) {before : List ℕ} → IsPart part → SplitsAroundMatch (FindsText part) left before behind
    → some_end (fits (part ++ (0x2A ∷ rest))) left ≡ some_end (fits rest) behind
after_first part rest left behind free (i, j, found, _, is, _, _, _) =
    after_part part rest left i j free found ∙ ap (some_end (fits rest)) (sym is)

-- ---- the last part

nothing : (rest : List ℕ) → fits [] rest ≡ true → rest ≡ []
nothing [] is = refl
nothing (octet ∷ rest) is = absurd (true≢false (sym is))

pub fits_itself : (part : List ℕ) → IsPart part → fits part part ≡ true
fits_itself part free =
    subst (λ t. fits t t ≡ true) (append-nil part) (fits_part part [] [] free refl)

pub unfits_whole : (part text : List ℕ) → IsPart part → fits part text ≡ true → text ≡ part
unfits_whole part text free is =
    let (rest, split, last) = unfits_part part [] text free (subst (λ t. fits t text ≡ true) (sym (append-nil part)) is) in
    split ∙ ap (λ t. part ++ t) (nothing rest last) ∙ append-nil part

pub ends_part : (found : Bool) (part text : List ℕ) → IsPart part
    → MatchBool found (HasSuffixMatch (FindsTextSuffix part) text) (FindsTextSuffix part text None)
    → found ≡ some_end (fits part) text
ends_part true part text free (n, (len, split, _), le, _) =
    sym (later (fits part) (length text - n) text (itself (fits part) (drop (length text - n) text)
    (subst (λ t. fits part t ≡ true) (sym (ap (drop (length text - n)) split
    ∙ drop_at (take (length text - n) text) part (length text - n) (length-take (length text - n) text ∙ omega (arith, le))))
    (fits_itself part free))))
ends_part false part text free none = sym (false_from_ne_true _ (λ is.
    let (n, le, here) = end_at (fits part) text is in
    none (take n text) (sym (take-append-drop n text) ∙ ap (λ t. take n text ++ t) (unfits_whole part (drop n text) free here))))

pub whole_part : (part text : List ℕ) → IsPart part → bytes_eq part text ≡ fits part text
whole_part part text free = same _ _
    (λ is. subst (λ t. fits part t ≡ true) ((bytes_eq-Decides part text).0 is) (fits_itself part free))
    (λ is. (bytes_eq-Decides part text).1 (sym (unfits_whole part text free is)))

-- ---- the first part

pub after_front : (front rest text left : List ℕ) → IsPart front → StripsPrefix (FindsTextPrefix front) text left
    → some_end (fits rest) left ≡ fits (front ++ (0x2A ∷ rest)) text
after_front front rest text left free (n, (len, split, _), is, _) = same _ _
    (λ fit. subst (λ t. fits (front ++ (0x2A ∷ rest)) t ≡ true) (sym (split ∙ ap (λ t. front ++ t) (sym is)))
    (fits_part front (0x2A ∷ rest) left free fit))
    (λ fit.
    let (end, at, last) = unfits_part front (0x2A ∷ rest) text free fit in
    subst (λ t. some_end (fits rest) t ≡ true)
    (sym (is ∙ ap (drop n) at ∙ drop_at front end n (sym len))) last)

pub lacks_front : (front rest text : List ℕ) → IsPart front → FindsTextPrefix front text None
    → false ≡ fits (front ++ (0x2A ∷ rest)) text
lacks_front front rest text free none = sym (false_from_ne_true _ (λ fit.
    let (end, at, last) = unfits_part front (0x2A ∷ rest) text free fit in
    none end at))
