use Rattle.std.proofs.Common.{◌≡◌, ◌∷◌, drop, option_map}
use Rattle.cred_files.specs.Keytab.{newest, passes}
use Rattle.cred_files.proofs.keytab.newest.Given as goal

abbrev pub invariant-loop-i : goal.invariant-loop-i
invariant-loop-i l = newest (passes (l.realm ∷ l.name.components) l.etype l.version) (drop l.i l.entries) ≡ option_map (λ e. e.now) l.found
