use Rattle.kdc_sockets.proofs.Queues.{taken}
use Rattle.kdc_sockets.proofs.ready.Queue.pop_front.Goals as goal

pub invariant_of-self : goal.invariant_of-self
invariant_of-self c = record { once = (taken c.args.self.now.numbers.items c.pop_front.new.self.items c.pop_front.result c.pop_front.ensures.items c.args.self.now.once).0 }

pub returns-clause-gone : goal.returns-clause-gone
returns-clause-gone c = (taken c.args.self.now.numbers.items c.pop_front.new.self.items c.pop_front.result c.pop_front.ensures.items c.args.self.now.once).1
