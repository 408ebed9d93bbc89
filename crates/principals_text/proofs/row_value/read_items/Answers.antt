use Rattle.std.proofs.Common.{rules, ◌≡◌, ◌<◌, length, get_or, Some, None, sym, ap, ◌∙◌}
use Rattle.serde_json.specs.View.{view}
use Rattle.principals_text.specs.RowValue.{key_of}
use Rattle.principals_text.proofs.Values.{each-push, each-fails}
use Rattle.principals_text.proofs.row_value.read_items.Goals as goal

pub loop-item-preserved : goal.loop-item-preserved
loop-item-preserved c =
    let within : c.loop-item.item-index < length c.args.items.now = search rules in
    let here : key_of (view (get_or c.args.items.now c.loop-item.item-index c.item-item.result)) ≡ Some c.in-Some.key = search rules in
    each-push key_of c.args.items.now c.loop-item.item-index c.item-item.result c.loop-item.keys.items c.in-Some.key within c.loop-item.invariant here
    ∙ ap Some (sym c.in_ok-push.ensures.items)

pub returns-in_default-clause-bad : goal.returns-in_default-clause-bad
returns-in_default-clause-bad c e =
    let within : c.loop-item.item-index < length c.args.items.now = search rules in
    let here : key_of (view (get_or c.args.items.now c.loop-item.item-index c.item-item.result)) ≡ None = search rules in
    each-fails key_of c.args.items.now c.loop-item.item-index c.item-item.result within here
