use Rattle.std.proofs.Common.{◌≡◌, ◌∷◌, drop}
use Rattle.principal_keys.specs.Keytabs.{next_number}
use Rattle.principal_keys.proofs.keytabs.number_below.Given as goal

abbrev pub invariant-loop-i : goal.invariant-loop-i
invariant-loop-i l = next_number (l.realm ∷ l.who.components) l.bound (drop l.i l.entries) ≡ l.found
