-- If the decision is a value, no condition holds.
use Rattle.std.proofs.Common.{◌≡◌, Bool, true, false, List, [], ◌∷◌, Option, Some, None, Result, Ok, Err, refl}
use Rattle.std.specs.Prelude.{if◌then◌else◌}
use Rattle.rule_lists.specs.Refusals.{Rule, decided, first_holding, unless_refused}

-- no condition holds
abbrev pub AreClear : {R : Type 0} → List (Rule R) → Type 0
AreClear [] = Unit {0}
AreClear (rule ∷ rules) = (rule.0 ≡ false) × AreClear rules

clear_from : {A R : Type 0} (rules : List (Rule R)) (found : Option A) (otherwise : R) (x : A)
    → unless_refused (first_holding rules) found otherwise ≡ Ok x → AreClear rules
clear_from [] found otherwise x e = tt
clear_from {A} {R} (rule ∷ rules) found otherwise x e =
    by rule.0 refl e (λ rest. clear_from rules found otherwise x rest)
  where
    by : (b : Bool) → rule.0 ≡ b
        → unless_refused (if b then Some rule.1 else first_holding rules) found otherwise ≡ Ok x
        → (unless_refused (first_holding rules) found otherwise ≡ Ok x → AreClear rules) → AreClear (rule ∷ rules)
    by true is e go = absurd cc
    by false is e go = (is, go e)

pub decided_clear : {A R : Type 0} (rules : List (Rule R)) (found : Option A) (otherwise : R) (x : A)
    → decided rules found otherwise ≡ Ok x → AreClear rules
decided_clear rules found otherwise x e = clear_from rules found otherwise x e
