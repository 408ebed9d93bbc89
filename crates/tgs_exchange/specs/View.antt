-- The state that the TGS exchange answers from, besides the request and what it presents.
use Rattle.std.specs.Prelude.{ℕ, List, Option}
use Rattle.principal_rows.specs.declared.limits.Limits.{Limits}
use Rattle.principal_rows.specs.declared.row.Row.{Row}
use Rattle.replay.specs.declared.keep.Kept.{Kept}
use Rattle.replay.specs.declared.cache.ReplayCache.{ReplayCache}

-- realm and limits, the rows of the ticket's client and of the service that the request names, and the client's replay
-- cache
pub record TgsView : Type 0 where
  pub realm : List ℕ
  pub limits : Limits
  pub client : Option Row
  pub service : Option Row
  pub cache : ReplayCache Kept
