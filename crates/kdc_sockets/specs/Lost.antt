-- How many requests sockets have lost because memory ran out before they were read.
use Rattle.std.specs.Prelude.{ℕ}
use Rattle.kdc_sockets.specs.declared.sockets.Sockets.{Sockets}

abbrev pub lost_by : {C : Type 0} → Sockets C → ℕ
lost_by wire = wire.sockets.lost
