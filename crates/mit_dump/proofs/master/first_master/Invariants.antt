use Rattle.std.proofs.Common.{◌≡◌, ◌∷◌, drop, option_map}
use Rattle.mit_dump.specs.Master.{first_master}
use Rattle.mit_dump.proofs.master.first_master.Given as goal

abbrev pub invariant-loop-i : goal.invariant-loop-i
invariant-loop-i l = first_master (l.realm ∷ l.name.components) l.version (drop l.i l.entries) ≡ option_map (λ e. e.now) l.found
