use Rattle.std.proofs.Common.{arith}
use Rattle.kdc_replies.proofs.FirstItems.{first_short}
use Rattle.kdc_replies.proofs.sent_names.put_components.Goals as goal

pub put-requires : goal.put-requires
put-requires c =
    (omega arith, first_short c.loop-component.component-iterator c.next.new.self c.in-Some.component c.in-Some.ensures.steps c.loop-component.invariant.short)
