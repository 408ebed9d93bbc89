-- What holds of the condition with a given reason, wherever it stands in a list. A number says which reason it is.
use Rattle.std.proofs.Common.{◌≡◌, ℕ, Bool, true, false, List, [], ◌∷◌, refl}
use Rattle.std.specs.Prelude.{if◌then◌else◌, nat_eq}
use Rattle.rule_lists.specs.ClearLaws.{AreClear}
use Rattle.rule_lists.specs.Refusals.{Rule}

-- the first condition with the reason of this number
abbrev pub condition_of : {R : Type 0} → (R → ℕ) → ℕ → List (Rule R) → Bool
condition_of number_of number [] = false
condition_of number_of number (rule ∷ rules) =
    if nat_eq (number_of rule.1) number then rule.0 else condition_of number_of number rules

-- if no condition holds, the one with this reason doesn't hold
pub clear_of : {R : Type 0} (number_of : R → ℕ) (reason : R) (rules : List (Rule R)) → AreClear rules
    → condition_of number_of (number_of reason) rules ≡ false
clear_of number_of reason [] clear = refl
clear_of {R} number_of reason (rule ∷ rules) clear =
    by (nat_eq (number_of rule.1) (number_of reason)) (clear_of number_of reason rules clear.1)
  where
    by : (b : Bool) → condition_of number_of (number_of reason) rules ≡ false
        → (if b then rule.0 else condition_of number_of (number_of reason) rules) ≡ false
    by true later = clear.0
    by false later = later
