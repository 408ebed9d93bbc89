use Rattle.std.proofs.Common.{rules, ◌∙◌, arith, get_or, subst}
use Rattle.std.specs.Prelude.{All}
use Rattle.std.proofs.lemmas.List.{take_all}
use Rattle.kclient.specs.CacheSessions.{IsHeld}
use Rattle.kclient.specs.Principals.{HasTicket}
use Rattle.kclient.specs.Worlds.{CameFurther, IsGranted}
use Rattle.kclient.proofs.Doing.{collected_more}
use Rattle.kclient.proofs.Serving.{held_more}
use Rattle.kclient.proofs.kvno.get_each.Goals as goal

pub returns-in-Err-clause-collected : goal.returns-in-Err-clause-collected
returns-in-Err-clause-collected g c =
    collected_more (IsGranted (CameFurther g.X.Network.finds g.X.Network.carries g.X.Network.answers))
    c.args.session.now c.loop-service.session c.get_ticket.new.session c.loop-service.invariant.0 c.get_ticket.ensures.collected

-- a ticket was collected, though there was no memory for its line
pub returns-in_err-push_line-in-Ok-clause-collected : goal.returns-in_err-push_line-in-Ok-clause-collected
returns-in_err-push_line-in-Ok-clause-collected g c =
    collected_more (IsGranted (CameFurther g.X.Network.finds g.X.Network.carries g.X.Network.answers))
    c.args.session.now c.loop-service.session c.get_ticket.new.session c.loop-service.invariant.0 c.get_ticket.ensures.collected

pub loop-service-preserved : goal.loop-service-preserved
loop-service-preserved g c =
    let IsReceived = IsGranted (CameFurther g.X.Network.finds g.X.Network.carries g.X.Network.answers) in
    let service = get_or c.args.services.now c.loop-service.service-index c.service-item.result in
    let has : HasTicket IsReceived c.args.at.sec service.name.components c.get_ticket.new.session.cache.credentials =
    search rules in (
      collected_more IsReceived c.args.session.now c.loop-service.session c.get_ticket.new.session
          c.loop-service.invariant.0 c.get_ticket.ensures.collected,
      held_more IsReceived c.args.at.sec c.args.services.now c.loop-service.service-index c.service-item.result
          c.loop-service.session c.get_ticket.new.session c.loop-service-test.true c.loop-service.invariant.1
          c.get_ticket.ensures.collected has,
      c.get_ticket.ensures.unchanged ∙ c.loop-service.invariant.2,
    )

pub returns-clause-held : goal.returns-clause-held
returns-clause-held g c =
    let IsNow = IsHeld (IsGranted (CameFurther g.X.Network.finds g.X.Network.carries g.X.Network.answers)) c.args.at.sec
    c.loop-service.session.cache.credentials in
    subst (λ services. All IsNow services)
    (take_all c.loop-service.service-index c.args.services.now (omega (arith, c.loop-service-test.false)))
    c.loop-service.invariant.1
