use Rattle.kdc_sockets.proofs.Queues.{once_none}
use Rattle.kdc_sockets.proofs.ready.Queue.with_capacity.Goals as goal

pub invariant_of-result : goal.invariant_of-result
invariant_of-result c = record { once = once_none c.in_ok-numbers.numbers.items c.in_ok-numbers.ensures.items }
