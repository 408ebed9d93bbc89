use Rattle.std.proofs.Common.{arith}
use Rattle.client_core.specs.ShortLaws.{data_short}
use Rattle.client_core.proofs.requests.with_timestamp.Goals as goal

pub as_req-requires-clause-padata : goal.as_req-requires-clause-padata
as_req-requires-clause-padata c = data_short c.in_ok-entry.entry c.in_ok-padata.padata (omega (arith, c.in_ok-entry.ensures.short)) c.in_ok-padata.ensures
