use Rattle.std.proofs.Common.{◌≡◌, drop}
use Rattle.replay.specs.Tidied.{raised}
use Rattle.replay.proofs.pairs.Pairs.drop_first.Given as goal

-- this many are removed from the front, and the floor is raised above them
abbrev pub invariant-loop : goal.invariant-loop
invariant-loop g l =
    (l.self-inside.kept.entries ≡ drop l.counter l.initial.self-inside.kept.entries)
    × (raised l.fn.start l.above l.self-inside.kept.entries ≡ raised l.fn.start l.fn.floor l.initial.self-inside.kept.entries)
