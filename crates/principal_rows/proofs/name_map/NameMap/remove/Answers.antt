use Rattle.std.proofs.Common.{ap, ◌∙◌}
use Rattle.std.specs.FinMap as map
use Rattle.rule_lists.proofs.Entries.{get_found, get_absent}
use Rattle.rule_lists.proofs.Removed.{removed, removed_none}
use Rattle.krb_fields.specs.Name.{name_cmp, name_total, name_exact}
use Rattle.principal_rows.specs.NameMap.{name_of, value_of}
use Rattle.principal_rows.proofs.name_map.NameMap.remove.Goals as goal

pub invariant_of-self : goal.invariant_of-self
invariant_of-self g c =
    (removed name_cmp name_total name_exact name_of value_of c.self.inside.entries.items _ c.deref.result.now (g.K.NameKey.components c.args.key.now) c.in-Ok.at c.self.invariant c.deref.ensures.value c.in-Ok.ensures.found c.remove.ensures.items).0

pub returns-in-Ok-clause-map : goal.returns-in-Ok-clause-map
returns-in-Ok-clause-map g c =
    (removed name_cmp name_total name_exact name_of value_of c.self.inside.entries.items _ c.deref.result.now (g.K.NameKey.components c.args.key.now) c.in-Ok.at c.self.invariant c.deref.ensures.value c.in-Ok.ensures.found c.remove.ensures.items).1
    ∙ ap (λ m. map.remove m (g.K.NameKey.components c.args.key.now)) c.self.view_is

pub returns-in-Ok-clause-value : goal.returns-in-Ok-clause-value
returns-in-Ok-clause-value g c =
    get_found name_cmp name_total name_of value_of c.self.inside.entries.items c.deref.result.now c.args.self.now (g.K.NameKey.components c.args.key.now) c.in-Ok.at c.remove.result c.self.invariant c.self.view_is c.deref.ensures.value c.in-Ok.ensures.found c.remove.ensures.value

pub returns-in-Err-clause-value : goal.returns-in-Err-clause-value
returns-in-Err-clause-value g c =
    get_absent name_cmp name_total name_of value_of c.self.inside.entries.items c.deref.result.now c.args.self.now (g.K.NameKey.components c.args.key.now) c.in-Err.field-0 c.self.invariant c.self.view_is c.deref.ensures.value c.in-Err.ensures.absent

pub returns-in-Err-clause-map : goal.returns-in-Err-clause-map
returns-in-Err-clause-map g c =
    removed_none name_cmp name_total name_exact name_of value_of c.self.inside.entries.items c.deref.result.now c.args.self.now (g.K.NameKey.components c.args.key.now) c.in-Err.field-0 c.self.invariant c.self.view_is c.deref.ensures.value c.in-Err.ensures.absent
