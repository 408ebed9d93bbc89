use Rattle.std.proofs.Common.{rules, ◌≡◌, ◌∙◌}
use Rattle.ap_accept.proofs.Others.{for_it, unchanged}
use Rattle.ap_accept.proofs.acceptor.Acceptor.accept_for.Goals as goal

pub returns-clause-service : goal.returns-clause-service
returns-clause-service c =
    for_it c.args.service.now.components c.self.inside.state c.args.at c.args.confounder.now c.args.ap_req.now c.accept_for.result c.accept_for.ensures.answer

pub returns-clause-other : goal.returns-clause-other
returns-clause-other c other =
    let is : c.self.inside.state ≡ c.args.self.now = search rules in
    unchanged c.args.service.now.components c.self.inside.state c.args.at c.args.confounder.now c.args.ap_req.now c.accept_for.result c.accept_for.new.state c.accept_for.ensures.state other
    ∙ is
