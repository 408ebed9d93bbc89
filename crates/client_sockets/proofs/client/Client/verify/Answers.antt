use Rattle.std.proofs.Common.{ap}
use Rattle.client_sockets.proofs.Granting.{granted_in}
use Rattle.client_sockets.proofs.client.Client.verify.Goals as goal
use Rattle.client_sockets.proofs.client.Client.verify.Goals.{in-Ok, in-Err}

pub returns-clause-granted : goal.returns-clause-granted
returns-clause-granted g c = elim c.match-verify.branch [
  | in-Ok w ↦ rw w.result-is (granted_in g.T.Store.world g.X.Network.finds g.X.Network.carries g.X.Network.answers _
      c.args.self.now c.self.view_is c.in_ok-clock.field-0 c.in-Some.tgt w.in-Ok.credential c.in-Some-service_in.service.now _ _
      c.args.keytab.now c.in_ok-clock.ensures.shown c.in-Some.is
      (ap (λ k. k.kdcs.places.items) c.set_clock.ensures) (ap (λ k. k.at.sec) c.set_clock.ensures)
      w.in-Ok.ensures.further c.in-Some-service_in.ensures)
  | in-Err w ↦ rw w.result-is tt
]
