use Rattle.krb_elements.specs.WrittenLaws.{item_short}
use Rattle.krb_elements.proofs.lists.write_items.Goals as goal

pub put-requires : goal.put-requires
put-requires g c = item_short g.T.Coded.codec.tag g.T.Coded.codec.text c.args.items.now c.loop-item.item-index c.item-item.result c.loop-item-test.true c.item-item.is c.loop-item.invariant.short
