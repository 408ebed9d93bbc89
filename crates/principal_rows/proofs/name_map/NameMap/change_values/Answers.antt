use Rattle.std.proofs.Common.{◌≡◌, ◌≤◌, ◌<◌, length, get_or, sym, ap, ◌∙◌, arith}
use Rattle.std.proofs.lemmas.List.{with_items_is}
use Rattle.rule_lists.specs.Changed.{change_values}
use Rattle.rule_lists.proofs.Changed.{changed_first, one_changed, values_changed}
use Rattle.krb_fields.specs.Name.{name_cmp}
use Rattle.principal_rows.specs.NameMap.{name_of, pairs, value_of}
use Rattle.principal_rows.proofs.name_map.NameMap.change_values.Goals as goal

pub loop-entry-preserved : goal.loop-entry-preserved
loop-entry-preserved g c =
    let there : c.loop-entry.entry-index < length c.loop-entry.entry-items = omega (arith, c.loop-entry-test.true, c.loop-entry.auto.entry-items) in
    one_changed name_of value_of (g.C.ValueChange.changed c.args.change.now) c.loop-entry.entry-items (pairs c.deref_mut-entry-items.result.now) c.loop-entry.entry-index c.entry-item.result
    (record { name = (get_or c.loop-entry.entry-items c.loop-entry.entry-index c.entry-item.result).name; value = c.change.new.value })
    c.loop-entry.invariant there c.entry-item.is (ap name_of (sym c.entry-item.is)) (c.change.ensures ∙ ap (λ e. g.C.ValueChange.changed c.args.change.now (value_of e)) (sym c.entry-item.is))

pub invariant_of-self : goal.invariant_of-self
invariant_of-self g c =
    let change = g.C.ValueChange.changed c.args.change.now in
    let same : length c.loop-entry.entry-items ≡ c.self.inside.entries.len = omega (arith, c.loop-entry.auto.entry-items, c.deref_mut-entry-items.ensures.len) in
    let all : length c.loop-entry.entry-items ≤ c.loop-entry.entry-index = omega (arith, c.loop-entry-test.false, c.loop-entry.auto.entry-items) in
    (values_changed name_of value_of change name_cmp c.self.inside.entries.items c.loop-entry.entry-items _ c.loop-entry.entry-index c.self.invariant
    (c.loop-entry.invariant ∙ ap (λ es. changed_first change c.loop-entry.entry-index (pairs es)) c.deref_mut-entry-items.ensures.value) all
    (with_items_is c.self.inside.entries c.loop-entry.entry-items same)).0

pub returns : goal.returns
returns g c =
    let change = g.C.ValueChange.changed c.args.change.now in
    let same : length c.loop-entry.entry-items ≡ c.self.inside.entries.len = omega (arith, c.loop-entry.auto.entry-items, c.deref_mut-entry-items.ensures.len) in
    let all : length c.loop-entry.entry-items ≤ c.loop-entry.entry-index = omega (arith, c.loop-entry-test.false, c.loop-entry.auto.entry-items) in
    (values_changed name_of value_of change name_cmp c.self.inside.entries.items c.loop-entry.entry-items _ c.loop-entry.entry-index c.self.invariant
    (c.loop-entry.invariant ∙ ap (λ es. changed_first change c.loop-entry.entry-index (pairs es)) c.deref_mut-entry-items.ensures.value) all
    (with_items_is c.self.inside.entries c.loop-entry.entry-items same)).1
    ∙ ap (λ m. change_values m change) c.self.view_is
