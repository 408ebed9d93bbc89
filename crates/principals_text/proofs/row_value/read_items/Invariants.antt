use Rattle.std.proofs.Common.{◌≡◌, Some, take}
use Rattle.serde_json.specs.View.{items_view}
use Rattle.principals_text.specs.RowValue.{each, key_of}
use Rattle.principals_text.proofs.row_value.read_items.Given as goal

abbrev pub invariant-loop-item : goal.invariant-loop-item
invariant-loop-item l = each key_of (items_view (take l.item-index l.items)) ≡ Some l.keys.items
