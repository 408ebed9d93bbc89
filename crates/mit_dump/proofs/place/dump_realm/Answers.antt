use Rattle.std.proofs.Common.{rules, ◌≡◌, Some}
use Rattle.std.specs.Prelude.{find}
use Rattle.mit_dump.specs.Place.{grants_tickets}
use Rattle.mit_dump.proofs.place.dump_realm.Goals as goal

pub returns-then-is_component-clause-realm : goal.returns-then-is_component-clause-realm
returns-then-is_component-clause-realm c =
    let granted : find (λ q. grants_tickets q.name.components q.realm) c.args.found.now ≡ Some c.in_ok-granter.field-0.now = search rules in
    (c.in_ok-granter.field-0.now, granted, search rules)
