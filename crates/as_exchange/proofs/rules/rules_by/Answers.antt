use Rattle.std.proofs.Common.{rules, ◌≡◌}
use Rattle.as_exchange.specs.Rules.{is_service_denied}
use Rattle.as_exchange.proofs.rules.rules_by.Goals as goal

pub returns : goal.returns
returns c =
    let denied : c.is_service_denied.result ≡ is_service_denied c.args.view.now c.args.message.now.body.value = search rules in
    search rules
