-- Lists of conditions, where the first that holds decides.
use Rattle.std.specs.Prelude.{Bool, if◌then◌else◌, List, [], ◌∷◌, Option, Some, None, Result, Ok, Err}

-- a condition, and the reason to refuse if it holds
abbrev pub Rule : Type 0 → Type 0
Rule R = Bool × R

-- the reason of the first condition that holds
abbrev pub first_holding : {R : Type 0} → List (Rule R) → Option R
first_holding [] = None
first_holding (rule ∷ rules) = if rule.0 then Some rule.1 else first_holding rules

abbrev pub unless_found : {A R : Type 0} → Option A → R → Result A R
unless_found (Some x) otherwise = Ok x
unless_found None otherwise = Err otherwise

abbrev pub unless_refused : {A R : Type 0} → Option R → Option A → R → Result A R
unless_refused (Some reason) found otherwise = Err reason
unless_refused None found otherwise = unless_found found otherwise

-- the value if none of the conditions holds; the last reason if there is no value
abbrev pub decided : {A R : Type 0} → List (Rule R) → Option A → R → Result A R
decided rules found otherwise = unless_refused (first_holding rules) found otherwise
