use Rattle.std.proofs.Common.{rules}
use Rattle.client_core.specs.Sessions.{IsPresentable}
use Rattle.client_login.proofs.Carried.{carries_presented}
use Rattle.client_login.proofs.further_tickets.ask_with_ticket.Goals as goal

pub send-requires-clause-carried : goal.send-requires-clause-carried
send-requires-clause-carried g c =
    let presentable : IsPresentable c.args.further.now.granting.now = search rules in
    carries_presented g.X.Network.carries c.args.further.now.granting.now c.args.further.now.asked.now c.args.client.now.at
    (g.R.Rng.stream c.args.rng.now) presentable c.requires
