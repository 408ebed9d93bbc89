use Rattle.kdc_sockets.proofs.Counts.{fits_none}
use Rattle.kdc_sockets.proofs.connections.Connections.new.Goals as goal

pub invariant_of-result-clause-bounded : goal.invariant_of-result-clause-bounded
invariant_of-result-clause-bounded c = fits_none c.new.result.entries c.new.ensures.empty
