use Rattle.std.proofs.Common.{rules, ap, ◌∙◌}
use Rattle.std.proofs.lemmas.Fn.{filter_same}
use Rattle.rule_lists.specs.Values.{retain_values}
use Rattle.rule_lists.proofs.Values.{values_kept}
use Rattle.krb_fields.specs.Name.{name_cmp, name_total, name_exact}
use Rattle.principal_rows.specs.NameMap.{name_of, value_of}
use Rattle.principal_rows.proofs.name_map.NameMap.retain.Goals as goal

pub invariant_of-self : goal.invariant_of-self
invariant_of-self g c =
    (values_kept name_cmp name_total name_exact name_of value_of (g.P.ValueTest.passes c.args.test.now) c.self.inside.entries.items _ c.self.invariant
    (filter_same _ _ _ (λ x b f' k. search rules) _ _ c.retain.ensures.filtered)).0

pub returns : goal.returns
returns g c =
    (values_kept name_cmp name_total name_exact name_of value_of (g.P.ValueTest.passes c.args.test.now) c.self.inside.entries.items _ c.self.invariant
    (filter_same _ _ _ (λ x b f' k. search rules) _ _ c.retain.ensures.filtered)).1
    ∙ ap (λ m. retain_values m (g.P.ValueTest.passes c.args.test.now)) c.self.view_is
