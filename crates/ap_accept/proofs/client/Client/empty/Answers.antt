use Rattle.ap_accept.proofs.Listed.{empty_listed}
use Rattle.ap_accept.proofs.client.Client.empty.Goals as goal

pub invariant_of-result : goal.invariant_of-result
invariant_of-result c = empty_listed c.empty.result _ c.new.result.items c.empty.ensures c.new.ensures.items
