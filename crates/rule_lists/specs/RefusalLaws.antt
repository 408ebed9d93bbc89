-- If the decision is a value, that value was found.
use Rattle.std.proofs.Common.{◌≡◌, List, Option, Some, None, Result, Ok, Err, ap}
use Rattle.rule_lists.specs.Refusals.{Rule, decided, first_holding, unless_refused}

found_by : {A R : Type 0} (reason : Option R) (found : Option A) (otherwise : R) (x : A)
    → unless_refused reason found otherwise ≡ Ok x → found ≡ Some x
found_by (Some r) found otherwise x e = absurd cc
found_by None None otherwise x e = absurd cc
found_by {A} {R} None (Some y) otherwise x e = ap (λ (r : Result A R). again r) e
  where
    again : Result A R → Option A
    again (Ok z) = Some z
    again (Err r) = Some y

pub decided_found : {A R : Type 0} (rules : List (Rule R)) (found : Option A) (otherwise : R) (x : A)
    → decided rules found otherwise ≡ Ok x → found ≡ Some x
decided_found rules found otherwise x e = found_by (first_holding rules) found otherwise x e
