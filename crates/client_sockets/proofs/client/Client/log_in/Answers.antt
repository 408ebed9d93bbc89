use Rattle.std.proofs.Common.{ap, refl}
use Rattle.client_sockets.proofs.LoggingIn.{logged_in}
use Rattle.client_sockets.proofs.client.Client.log_in.Goals as goal

pub returns-in-Ok-clause-ok : goal.returns-in-Ok-clause-ok
returns-in-Ok-clause-ok g c =
    logged_in g.T.Store.world g.X.Network.finds g.X.Network.carries g.X.Network.answers _ c.args.self.now c.self.view_is
    c.self.inside.login c.args.secret.now c.in_ok-clock.field-0 c.in-Ok.tgt _ _ refl refl c.self.invariant.0
    c.in_ok-clock.ensures.shown
    (ap (λ k. k.kdcs.places.items) c.set_clock.ensures) (ap (λ k. k.at.sec) c.set_clock.ensures) c.in-Ok.ensures.ok
