use Rattle.std.proofs.Common.{◌≡◌, length}
use Rattle.krb_elements.specs.Format.{values}
use Rattle.krb_elements.proofs.lists.next_value.Given as goal

abbrev pub invariant-loop-item : goal.invariant-loop-item
invariant-loop-item g l = values g.T.Coded.codec.at l.items ≡ values g.T.Coded.codec.at l.fn.items

abbrev pub decreases-loop-item : goal.decreases-loop-item
decreases-loop-item g l = length l.items
