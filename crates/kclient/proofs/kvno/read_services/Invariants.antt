use Rattle.std.specs.Prelude.{◌≡◌, All, map, take}
use Rattle.std.specs.String.{string_bytes}
use Rattle.kclient.specs.CacheSessions.{IsSpelled}
use Rattle.command_line.specs.Values.{texts}
use Rattle.kclient.proofs.kvno.read_services.Given as goal

-- the services of the names so far
abbrev pub invariant-loop-name : goal.invariant-loop-name
invariant-loop-name g l =
    (map (λ service. string_bytes service.word) l.services.items ≡ texts (take l.name-index l.names))
    × All IsSpelled l.services.items
    × (l.context.store ≡ l.fn.context.store)
