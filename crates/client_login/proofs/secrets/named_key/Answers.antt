use Rattle.std.proofs.Common.{rules, ◌≡◌, ◌∷◌, Some, IfOk}
use Rattle.client_login.specs.Keys.{key_named}
use Rattle.client_login.proofs.OwnKeys.{named_held}
use Rattle.client_login.proofs.secrets.named_key.Goals as goal

pub returns-clause-own : goal.returns-clause-own
returns-clause-own c =
    let who = c.args.asked.now.realm ∷ c.args.asked.now.client.components in
    let named : IfOk c.given.result (λ key. Some key ≡ key_named c.args.keytab.now (c.args.asked.now.realm ∷ c.args.asked.now.client.components) c.args.info.now) = search rules in
    named_held c.args.keytab.now who c.args.info.now c.given.result named
