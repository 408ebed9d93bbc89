-- What was read from an input, up to its first line feed.
use Rattle.std.proofs.Common.{◌≡◌, ◌≢◌, ℕ, ◌+◌, ◌<◌, ◌≤◌, List, [], ◌∷◌, ◌++◌, All, None, Some, IfSome, length, take, drop, refl, sym, ap, ◌∙◌, arith, subst, append-nil, append_assoc, length-append, take_all, eq-eqb, cond}
use Rattle.std.specs.Prelude.{Option, option_to_list}
use Rattle.std.proofs.Math.Seq.{drop-append_seam, take-append_seam}
use Rattle.std.proofs.lemmas.List.Elements.{All-push}
use Rattle.std.proofs.BufReadLemmas.{take_through-append}
use Rattle.std.proofs.KnownBytes.{Consumes-trans}
use Rattle.std.specs.Io.BufRead.{take_through}
use Rattle.std.specs.Io.KnownBytes.{Consumes, IsAtEnd}

-- what remains after n bytes were read
pub taken_rest : (a c : Option (List ℕ)) (bs : List ℕ) (n : ℕ) → Consumes a c bs → length bs ≡ n → IfSome a (λ xs. c ≡ Some (drop n xs))
taken_rest None c bs n p is = tt
taken_rest (Some xs) None bs n p is = absurd p
taken_rest (Some xs) (Some ys) bs n p is = ap Some (sym (ap (λ k. drop k xs) (sym is) ∙ ap (drop (length bs)) p ∙ drop-append_seam bs ys))

-- a line feed was reached
pub taken_to_feed : (most : ℕ) (a c : Option (List ℕ)) (bs : List ℕ) → Consumes a c (bs ++ 10 ∷ []) → All (λ o. o ≢ 10) bs → length bs < most
    → IfSome a (λ xs. bs ++ 10 ∷ [] ≡ take most (take_through 10 xs))
taken_to_feed most None c bs p none few = tt
taken_to_feed most (Some xs) None bs p none few = absurd p
taken_to_feed most (Some xs) (Some ys) bs p none few =
    let joined : xs ≡ bs ++ 10 ∷ ys = p ∙ append_assoc bs (10 ∷ []) ys in
    let through : take_through 10 xs ≡ bs ++ 10 ∷ [] =
    ap (take_through 10) joined ∙ take_through-append 10 bs (10 ∷ ys) none ∙ ap (λ b. bs ++ cond b (10 ∷ []) (10 ∷ take_through 10 ys)) (eq-eqb 10 10 refl) in
    sym (ap (take most) through ∙ take_all most (bs ++ 10 ∷ []) (omega (arith, length-append bs (10 ∷ []))))

-- the end was reached
pub taken_to_end : (most : ℕ) (a c : Option (List ℕ)) (bs : List ℕ) → Consumes a c bs → All (λ o. o ≢ 10) bs → IsAtEnd c → length bs ≤ most
    → IfSome a (λ xs. bs ≡ take most (take_through 10 xs))
taken_to_end most None c bs p none end few = tt
taken_to_end most (Some xs) None bs p none end few = absurd p
taken_to_end most (Some xs) (Some ys) bs p none end few =
    let through : take_through 10 xs ≡ bs =
    ap (take_through 10) p ∙ take_through-append 10 bs ys none ∙ ap (λ l. bs ++ take_through 10 l) end ∙ append-nil bs in
    sym (ap (take most) through ∙ take_all most bs few)

-- as many bytes were read as allowed
pub taken_most : (most : ℕ) (a c : Option (List ℕ)) (bs : List ℕ) → Consumes a c bs → All (λ o. o ≢ 10) bs → length bs ≡ most
    → IfSome a (λ xs. bs ≡ take most (take_through 10 xs))
taken_most most None c bs p none is = tt
taken_most most (Some xs) None bs p none is = absurd p
taken_most most (Some xs) (Some ys) bs p none is =
    sym (ap (λ k. take k (take_through 10 xs)) (sym is) ∙ ap (λ l. take (length bs) (take_through 10 l)) p
    ∙ ap (take (length bs)) (take_through-append 10 bs ys none) ∙ take-append_seam bs (take_through 10 ys))

-- one more byte was read
pub taken_octet : (a b c : Option (List ℕ)) (bs new : List ℕ) (o : Option ℕ) (octet : ℕ) → Consumes a b bs → Consumes b c (option_to_list o)
    → o ≡ Some octet → new ≡ bs ++ octet ∷ [] → Consumes a c new
taken_octet a b c bs new o octet p q is grown =
    subst (Consumes a c) (sym grown) (Consumes-trans a b c bs (octet ∷ []) p (subst (λ (x : Option ℕ). Consumes b c (option_to_list x)) is q))

-- or none, at the end
pub taken_none : (a b c : Option (List ℕ)) (bs : List ℕ) (o : Option ℕ) → Consumes a b bs → Consumes b c (option_to_list o) → o ≡ None → Consumes a c bs
taken_none a b c bs o p q is =
    subst (Consumes a c) (append-nil bs) (Consumes-trans a b c bs [] p (subst (λ (x : Option ℕ). Consumes b c (option_to_list x)) is q))

-- the byte was a line feed
pub taken_feed : (most : ℕ) (a c : Option (List ℕ)) (bs new : List ℕ) (octet : ℕ) → Consumes a c new → new ≡ bs ++ octet ∷ [] → octet ≡ 10
    → All (λ o. o ≢ 10) bs → length bs < most → IfSome a (λ xs. new ≡ take most (take_through 10 xs))
taken_feed most a c bs new octet p grown feed none few =
    let is : new ≡ bs ++ 10 ∷ [] = grown ∙ ap (λ (x : ℕ). bs ++ x ∷ []) feed in
    subst (λ (l : List ℕ). IfSome a (λ xs. l ≡ take most (take_through 10 xs))) (sym is) (taken_to_feed most a c bs (subst (Consumes a c) is p) none few)

-- and is counted
pub taken_count : (bs new : List ℕ) (octet n : ℕ) → new ≡ bs ++ octet ∷ [] → length bs ≡ n → length new ≡ n + 1
taken_count bs new octet n grown count = ap length grown ∙ length-append bs (octet ∷ []) ∙ ap (λ k. k + 1) count

-- and is not a line feed
pub taken_no_feed : (bs new : List ℕ) (octet : ℕ) → new ≡ bs ++ octet ∷ [] → All (λ o. o ≢ 10) bs → octet ≢ 10 → All (λ o. o ≢ 10) new
taken_no_feed bs new octet grown none other = subst (All (λ o. o ≢ 10)) (sym grown) (All-push (λ o. o ≢ 10) bs octet none other)
