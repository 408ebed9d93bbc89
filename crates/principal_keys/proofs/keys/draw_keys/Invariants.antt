use Rattle.std.proofs.Common.{◌≡◌, ◌++◌, drop}
use Rattle.principal_keys.specs.Keys.{drawn_keys}
use Rattle.principal_keys.proofs.keys.draw_keys.Given as goal

-- the keys so far, followed by those for the remaining encryption types
abbrev pub invariant-loop-etype : goal.invariant-loop-etype
invariant-loop-etype g l =
    l.keys.items ++ drawn_keys (g.R.Rng.stream l.rng) (drop l.etype-index l.etypes) ≡ drawn_keys (g.R.Rng.stream l.fn.rng) l.etypes
