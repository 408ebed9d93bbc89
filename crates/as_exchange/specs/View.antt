-- What the AS exchange needs besides the request.
use Rattle.std.specs.Prelude.{ℕ, List, Option, Some, None}
use Rattle.preauth.specs.Lock.{counted_for}
use Rattle.principal_rows.specs.Versions.{current}
use Rattle.principal_rows.specs.declared.limits.Limits.{Limits}
use Rattle.principal_rows.specs.declared.row.Row.{Row}
use Rattle.replay.specs.declared.failures.Failures.{Failures}

-- realm and limits, the rows of the client and the service that the request names, and the client's failures, for
-- whichever key version they were counted
pub record AsView : Type 0 where
  pub realm : List ℕ
  pub limits : Limits
  pub client : Option Row
  pub service : Option Row
  pub failures : Failures

-- the number of a client's current key version; 0 without a row
abbrev pub current_number : Option Row → ℕ
current_number (Some row) = (current row.versions).number
current_number None = 0

-- the client's failures for its current key version, the only ones that count
abbrev pub current_failures : AsView → Failures
current_failures v = counted_for v.failures (current_number v.client)
