use Rattle.std.proofs.Common.{◌≡◌, [], ◌∷◌, length, arith, sym, ap, ◌∙◌}
use Rattle.krb_der.specs.Items.{elements}
use Rattle.krb_der.specs.ElementLaws.{elements_none, elements_first}
use Rattle.krb_der.proofs.items.ItemsIterator.next.Goals as goal

pub returns-in_default-clause-steps : goal.returns-in_default-clause-steps
returns-in_default-clause-steps c =
    let none : c.args.self.now ≡ [] = sym c.self.view_is ∙ elements_none c.self.inside.rest.now c.in_default.field-0 c.in_default.ensures in
    (none, none)

pub returns-clause-steps : goal.returns-clause-steps
returns-clause-steps c = sym c.self.view_is ∙ elements_first c.self.inside.rest.now c.in-Ok.element.now c.in-Ok.rest.now c.in-Ok.ensures

pub returns-clause-goes : goal.returns-clause-goes
returns-clause-goes c =
    let first : c.args.self.now ≡ c.in-Ok.element.now ∷ elements c.in-Ok.rest.now = returns-clause-steps c in
    omega (arith, ap length first)
