use Rattle.std.proofs.Common.{take, ◌∙◌}
use Rattle.kdc_core.proofs.Isolation.{isolation}
use Rattle.kdc_core.proofs.Runs.{one_more, stopped}
use Rattle.kdc_core.proofs.Tickets.{one_ticket}
use Rattle.kdc_core.proofs.kdc.Kdc.run.Goals as goal

pub returns-in-Err-clause-done : goal.returns-in-Err-clause-done
returns-in-Err-clause-done c = (stopped _ c.loop-event.invariant c.loop-event-test.true c.in-Err.ensures.err _ (c.len.ensures ∙ c.step.new.replies.ok.0)).0

pub returns-in-Err-clause-done_replies : goal.returns-in-Err-clause-done_replies
returns-in-Err-clause-done_replies c = (stopped _ c.loop-event.invariant c.loop-event-test.true c.in-Err.ensures.err _ (c.len.ensures ∙ c.step.new.replies.ok.0)).1.replies_are

pub returns-in-Err-clause-done_state : goal.returns-in-Err-clause-done_state
returns-in-Err-clause-done_state c = (stopped _ c.loop-event.invariant c.loop-event-test.true c.in-Err.ensures.err _ (c.len.ensures ∙ c.step.new.replies.ok.0)).1.state_is

pub loop-event-preserved : goal.loop-event-preserved
loop-event-preserved c = one_more c.loop-event.invariant c.event-item.result c.loop-event-test.true c.event-item.is c.in_default.ensures.reply c.in_default.ensures.state

pub returns-clause-isolation : goal.returns-clause-isolation
returns-clause-isolation c = isolation c.args.self.now c.args.events.now

pub returns-clause-one_ticket : goal.returns-clause-one_ticket
returns-clause-one_ticket c = one_ticket c.args.self.now c.args.events.now

pub returns-in-Err-clause-isolation : goal.returns-in-Err-clause-isolation
returns-in-Err-clause-isolation c = isolation c.args.self.now c.args.events.now

pub returns-in-Err-clause-one_ticket : goal.returns-in-Err-clause-one_ticket
returns-in-Err-clause-one_ticket c = one_ticket c.args.self.now c.args.events.now

pub returns-in-Err-clause-done_isolation : goal.returns-in-Err-clause-done_isolation
returns-in-Err-clause-done_isolation c = isolation c.args.self.now (take c.len.result c.args.events.now)

pub returns-in-Err-clause-done_one_ticket : goal.returns-in-Err-clause-done_one_ticket
returns-in-Err-clause-done_one_ticket c = one_ticket c.args.self.now (take c.len.result c.args.events.now)
