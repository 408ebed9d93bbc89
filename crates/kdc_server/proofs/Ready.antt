-- What is asked of a host in four steps is one list of calls.
use Rattle.std.proofs.Common.{List, [], ◌∷◌, Option}
use Rattle.kdc_hub.specs.Wire.{Records}
use Rattle.kdc_hub.proofs.Rounds.{records_on}

pub all_recorded : {X : Type 0} (before one two three after : Option (List X)) (a b c : X) (d : List X) → Records before (a ∷ []) one → Records one (b ∷ []) two → Records two (c ∷ []) three → Records three d after
    → Records before (a ∷ b ∷ c ∷ d) after
all_recorded before one two three after a b c d first second third rest =
    records_on before (a ∷ b ∷ c ∷ []) three d after
    (records_on before (a ∷ b ∷ []) two (c ∷ []) three (records_on before (a ∷ []) one (b ∷ []) two first second) third)
    rest
