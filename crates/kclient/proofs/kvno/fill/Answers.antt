use Rattle.std.proofs.Common.{rules, ◌≡◌}
use Rattle.kclient.specs.Worlds.{CameFurther, IsGranted}
use Rattle.kclient.proofs.Serving.{answered}
use Rattle.kclient.proofs.kvno.fill.Goals as goal

pub returns-clause-answered : goal.returns-clause-answered
returns-clause-answered g c =
    let before = g.T.Store.world c.args.context.now.store in
    let asked = g.T.Store.world c.get_each-lines.new.context.store in
    let kept : asked ≡ before = search rules in
    answered (IsGranted (CameFurther g.X.Network.finds g.X.Network.carries g.X.Network.answers)) c.args.at.sec
    c.args.services.now c.args.session.now c.get_each-lines.new.session before asked _
    c.get_each-lines.ensures.collected c.in_ok-lines.ensures.held c.in_ok-written.ensures.written kept
