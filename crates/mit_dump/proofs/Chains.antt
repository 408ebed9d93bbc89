-- A chain with one more step.
use Rattle.std.proofs.Common.{◌≡◌, ◌++◌, List, [], ◌∷◌, sym, subst, refl}
use Rattle.mit_dump.specs.Chain.{Chain}

pub one_more : {S A : Type 0} (Step : S → A → S → Type 0) (from at to : S) (xs : List A) (x : A)
    → Chain Step from xs at → Step at x to → Chain Step from (xs ++ x ∷ []) to
one_more {S} Step from at to [] x same step = (to, subst (λ (s : S). Step s x to) (sym same) step, refl)
one_more Step from at to (y ∷ xs) x (next, first, rest) step = (next, first, one_more Step next at to xs x rest step)

pub no_step : {S A : Type 0} (Step : S → A → S → Type 0) (at : S) → Chain Step at [] at
no_step Step at = refl

pub step : {S A : Type 0} (Step : S → A → S → Type 0) (from next to : S) (x : A) (xs : List A) → Step from x next → Chain Step next xs to
    → Chain Step from (x ∷ xs) to
step Step from next to x xs first rest = (next, first, rest)
