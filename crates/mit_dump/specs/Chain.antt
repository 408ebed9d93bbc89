-- Steps, one after another.
use Rattle.std.specs.Prelude.{◌≡◌, List, [], ◌∷◌}

-- from one state to another by steps that each yield a value
abbrev pub Chain : {S A : Type 0} → (S → A → S → Type 0) → S → List A → S → Type 0
Chain {S} Step from [] to = from ≡ to
Chain {S} Step from (x ∷ xs) to = (next : S) × Step from x next × Chain Step next xs to
