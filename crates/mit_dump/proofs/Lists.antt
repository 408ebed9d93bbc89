-- What is left of a list from an index on.
use Rattle.std.proofs.Common.{◌≡◌, ◌∙◌, ◌<◌, ◌≤◌, ◌∷◌, [], ℕ, zero, suc, List, length, drop, drop-cons, get_or, refl, sym, arith}

pub here_is : {A : Type 0} (es : List A) (i j : ℕ) (e : A) → j ≡ suc i → e ≡ get_or es i e → i < length es → drop i es ≡ e ∷ drop j es
here_is es i j e next is lt = drop-cons es i e lt ∙ (λ k. sym is k ∷ drop (sym next k) es)

pub none_left : {A : Type 0} (es : List A) (i : ℕ) → length es ≤ i → drop i es ≡ []
none_left [] zero le = refl
none_left [] (suc i) le = refl
none_left (e ∷ es) zero le = absurd (omega (arith, le))
none_left (e ∷ es) (suc i) le = none_left es i (omega (arith, le))
