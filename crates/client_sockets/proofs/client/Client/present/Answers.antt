use Rattle.std.proofs.Common.{rules, ◌≡◌, true, Some, refl}
use Rattle.client_core.specs.Sessions.{is_presentable, session_key}
use Rattle.client_sockets.proofs.Presenting.{presented_at}
use Rattle.client_sockets.proofs.client.Client.present.Goals as goal
use Rattle.client_sockets.proofs.client.Client.present.Goals.{in-Ok, in-Err}

pub returns-clause-ok : goal.returns-clause-ok
returns-clause-ok g c =
    let has : session_key c.args.ticket.now ≡ Some c.in-Some.key = search rules in
    let may : is_presentable c.args.ticket.now ≡ true = search rules in
    elim c.match-make_presented.branch [
      | in-Ok w ↦ rw w.result-is (presented_at g.T.Store.world _ c.args.self.now c.self.view_is c.args.ticket.now w.in-Ok.made
          c.in-Some.key c.in_ok-at.at _ has may c.in_ok-at.ensures.shown w.in-Ok.ensures.judged.0 w.in-Ok.ensures.judged.1
          c.draw_confounder-confounder.ensures.value w.in-Ok.ensures.written)
      | in-Err w ↦ rw w.result-is tt
    ]
