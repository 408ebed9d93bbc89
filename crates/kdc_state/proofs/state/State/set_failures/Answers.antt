use Rattle.std.proofs.Common.{◌∙◌}
use Rattle.kdc_state.proofs.Storing.{is_there, stored}
use Rattle.kdc_state.proofs.state.State.set_failures.Goals as goal

pub returns-then-replace-clause-ok : goal.returns-then-replace-clause-ok
returns-then-replace-clause-ok c =
    let out = c.replace.ensures in
    let back = c.replace-then-replace.ensures in
    let there = out.taken c.if-replace.true in
    let left = out.given c.if-replace.true in
    stored c.args.self.now c.args.client.now.components (λ m. record m { failures = c.args.failures }) c.empty-cache.result c.replace.new.value c.set_failures.new.self c.replace.new.self c.replace-then-replace.new.self there left
    c.set_failures.ensures
    (back.given (back.there ∙ is_there c.args.self.now c.args.client.now.components (λ m. m) c.empty-cache.result c.replace.new.value c.set_failures.new.self c.replace.new.self c.replace-then-replace.new.self there left))
