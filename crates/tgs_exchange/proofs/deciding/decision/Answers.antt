use Rattle.std.proofs.Common.{◌≡◌, Option, IfOk, subst}
use Rattle.tgs_exchange.specs.Decision.{unless_client_refused, decision_copied}
use Rattle.tgs_opening.specs.declared.refusal.TgsRefusal.{TgsRefusal}
use Rattle.tgs_exchange.proofs.deciding.decision.Goals as goal

pub returns : goal.returns
returns c =
    subst (λ (r : Option TgsRefusal). IfOk c.unless_client_refused.result (λ decided. decision_copied decided ≡ unless_client_refused c.args.view.now c.args.at.sec c.args.body.now c.args.presented.now r))
    c.client_refusal-refusal.ensures c.unless_client_refused.ensures
