use Rattle.std.proofs.Common.{rules, ◌≡◌, None, sym, subst}
use Rattle.krb_fields.specs.PrincipalName.{Name}
use Rattle.krb_fields.specs.NameLimits.{IsWithinLimits}
use Rattle.rule_lists.specs.Refusals.{first_holding}
use Rattle.principals.specs.Change.{add_rules}
use Rattle.principals.proofs.Limits.{within_limits_if_added}
use Rattle.principals.proofs.Rows.{is_database-insert}
use Rattle.principals.proofs.database.Database.import.Goals as goal

pub invariant_of-self-2 : goal.invariant_of-self-2
invariant_of-self-2 c =
    let taken : None ≡ first_holding (add_rules c.args.self.now c.args.name.now.components) = search rules in
    let fits = within_limits_if_added c.args.self.now c.args.name.now.components taken in
    is_database-insert c.self.inside.realm c.self.inside.rows c.put.new.self c.in_ok-copy.field-0.components c.default_row.result c.self.invariant
    (subst (λ (name : Name). IsWithinLimits name.components) (sym c.in_ok-copy.ensures) fits) c.default_row.ensures.valid c.in_ok-put.ensures.ok
