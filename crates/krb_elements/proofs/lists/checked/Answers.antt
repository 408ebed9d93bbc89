use Rattle.std.proofs.Common.{arith}
use Rattle.krb_elements.specs.Laws.{list_values}
use Rattle.krb_elements.proofs.lists.checked.Goals as goal

pub returns : goal.returns
returns g c = rw c.new.ensures (list_values g.T.Coded.codec.Spells g.T.Coded.codec.at g.T.Coded.codec.laws.element c.args.contents.now (λ i. omega (arith, c.type_inv.contents i)) c.in_ok-check_items.ensures.ok)
