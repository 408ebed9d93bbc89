use Rattle.std.proofs.Common.{rules, ◌≡◌, ◌∙◌}
use Rattle.rule_lists.proofs.Entries.{entries_are}
use Rattle.krb_fields.specs.Name.{name_cmp, name_total}
use Rattle.principal_rows.specs.NameMap.{name_of, value_of, pairs}
use Rattle.principal_rows.proofs.name_map.NameMap.entries.Goals as goal

pub returns : goal.returns
returns g c =
    (let same : pairs c.as_slice.result.now ≡ pairs c.self.inside.entries.items = search rules in same)
    ∙ entries_are name_cmp name_total name_of value_of (pairs c.self.inside.entries.items) c.args.self.now c.self.invariant c.self.view_is
