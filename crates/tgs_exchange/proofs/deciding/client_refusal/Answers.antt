use Rattle.std.proofs.Common.{rules, ◌≡◌, ◌∙◌, ap}
use Rattle.rule_lists.specs.Refusals.{first_holding}
use Rattle.tgs_exchange.specs.Rules.{client_rules}
use Rattle.tgs_exchange.proofs.deciding.client_refusal.Goals as goal

pub returns : goal.returns
returns c =
    let all : c.client_rules.result ≡ client_rules c.args.view.now c.args.at.sec c.args.presented.now.ticket.authtime = search rules in
    let first : c.first_holding.result ≡ first_holding c.client_rules.result = search rules in
    first ∙ ap (λ rules. first_holding rules) all
