use Rattle.std.proofs.Common.{arith}
use Rattle.aes_cts.proofs.Schedules.{inverse_schedule_is}
use Rattle.aes_cts.proofs.key_expansion.inverse_schedule.Goals as goal

pub returns : goal.returns
returns c =
    inverse_schedule_is c.args.schedule.now c.loop-i.inverse c.args.round_count c.told-schedule c.loop-i.invariant.size
    (omega arith) (omega arith) c.loop-i.invariant.front
    (λ k least most. c.loop-i.invariant.done k least (omega arith)) (λ k least. c.loop-i.invariant.rest k (omega arith))
