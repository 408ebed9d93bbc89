use Rattle.kdc_sockets.proofs.Looking.{flush_opens, flush_spent, opens_both, opens_same, spent_both, spent_same}
use Rattle.kdc_sockets.proofs.socket_turns.SocketTurns.look.Goals as goal

pub loop-event-init : goal.loop-event-init
loop-event-init g c = record { spent = spent_same _; alike = opens_same _ }

pub loop-event-preserved : goal.loop-event-preserved
loop-event-preserved g c = record {
  spent = spent_both _ _ _ c.loop-event.invariant.spent (flush_spent _ _ _ c.flush.ensures.others c.flush.ensures.flushed c.flush.ensures.given);
  alike = opens_both _ _ _ c.loop-event.invariant.alike (flush_opens _ _ _ c.flush.ensures.others c.flush.ensures.flushed c.flush.ensures.given);
}
