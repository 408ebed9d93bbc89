use Rattle.std.proofs.Common.{map, take}
use Rattle.client_files.specs.Configs.{ArePlaces}
use Rattle.client_files.proofs.configs.parse_places.Given as goal

-- the places of the texts so far
abbrev pub invariant-loop-text : goal.invariant-loop-text
invariant-loop-text l = ArePlaces (take l.text-index (map (λ text. text.now) l.texts)) l.places.items
