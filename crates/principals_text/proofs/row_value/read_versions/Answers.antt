use Rattle.std.proofs.Common.{rules, ◌≡◌, ◌<◌, length, get_or, Some, None, sym, ap, ◌∙◌, Err}
use Rattle.serde_json.specs.View.{view, items_view}
use Rattle.principals_text.specs.declared.row_fault.RowError.TheVariants.{BadRow}
use Rattle.principals_text.specs.RowValue.{each, version_of}
use Rattle.principals_text.proofs.Values.{each-push, each-fails}
use Rattle.principals_text.proofs.row_value.read_versions.Goals as goal

pub loop-item-preserved : goal.loop-item-preserved
loop-item-preserved c =
    let within : c.loop-item.item-index < length c.deref-item-items.result.now = search rules in
    let here : version_of (view (get_or c.deref-item-items.result.now c.loop-item.item-index c.item-item.result)) ≡ Some c.in_ok-read_version.field-0 = search rules in
    each-push version_of c.deref-item-items.result.now c.loop-item.item-index c.item-item.result c.loop-item.versions.items c.in_ok-read_version.field-0 within c.loop-item.invariant here
    ∙ ap Some (sym c.in_ok-push.ensures.items)

pub returns-in_err-read_version-clause-bad : goal.returns-in_err-read_version-clause-bad
returns-in_err-read_version-clause-bad c e =
    let within : c.loop-item.item-index < length c.deref-item-items.result.now = search rules in
    let refused : c.read_version.result ≡ Err BadRow = search rules in
    let fails : version_of (view c.item-item.result) ≡ None = c.read_version.ensures.bad refused in
    let here : version_of (view (get_or c.deref-item-items.result.now c.loop-item.item-index c.item-item.result)) ≡ None = search rules in
    let none : each version_of (items_view c.deref-item-items.result.now) ≡ None = each-fails version_of c.deref-item-items.result.now c.loop-item.item-index c.item-item.result within here in
    search rules
