-- That a name in the log is the name of one rule.
use Rattle.std.specs.Prelude.{◌≡◌, ℕ, List}

-- two rules with one name are one rule
abbrev pub AreDistinct : {R : Type 0} → (R → List ℕ) → Type 0
AreDistinct {R} name = (rule other : R) → name rule ≡ name other → rule ≡ other
