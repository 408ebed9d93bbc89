use Rattle.std.specs.Result.{is_ok}
use Rattle.kdc_sockets.proofs.Queues.{appended}
use Rattle.kdc_sockets.proofs.ready.Queue.push_back.Goals as goal

pub invariant_of-self : goal.invariant_of-self
invariant_of-self c = record { once = appended c.args.self.now.numbers.items c.push_back.new.self.items c.args.number (is_ok c.push_back.result) c.push_back.ensures.items c.requires c.args.self.now.once }
