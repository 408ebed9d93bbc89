use Rattle.std.proofs.Common.{ap}
use Rattle.client_sockets.proofs.Granting.{granted_for}
use Rattle.client_sockets.proofs.client.Client.ticket.Goals as goal

pub returns-in-Ok-clause-ok : goal.returns-in-Ok-clause-ok
returns-in-Ok-clause-ok g c =
    granted_for g.T.Store.world g.X.Network.finds g.X.Network.carries g.X.Network.answers _ c.args.self.now c.self.view_is
    c.in_ok-clock.field-0 c.in-Some.tgt c.in-Ok.credential c.in_ok-name.name _ _ c.args.service.now
    c.in_ok-clock.ensures.shown c.in-Some.is
    (ap (λ k. k.kdcs.places.items) c.set_clock.ensures) (ap (λ k. k.at.sec) c.set_clock.ensures)
    c.in-Ok.ensures.ok c.in_ok-name.ensures
