use Rattle.std.proofs.Common.{w64, to_z-of_z, pos, ◌≤ℤ◌, arith}
use Rattle.ticket_times.specs.Least.{last_second}
use Rattle.ticket_times.proofs.times.latest_end.Goals as goal

pub returns-clause-last : goal.returns-clause-last
returns-clause-last c =
    let last : c.earliest.result ≤ℤ last_second = c.earliest.ensures.least.first 5 (pos 0) (omega arith) in
    rw (to_z-of_z {w = w64} (record { sfits = c.earliest.type_inv })) last
