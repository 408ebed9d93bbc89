-- The clock skew: by how many seconds the clocks of two parties may differ (RFC 4120, section 8.2).
use Rattle.std.specs.Prelude.{ℕ}

abbrev pub skew : ℕ
skew = 300
