use Rattle.std.proofs.Common.{length}
use Rattle.krb_elements.specs.Format.{items_of}
use Rattle.krb_elements.proofs.Loop.{ReadsOn}
use Rattle.krb_elements.proofs.owned_lists.read_items.Given as goal

abbrev pub invariant-loop-rest : goal.invariant-loop-rest
invariant-loop-rest g l = ReadsOn g.T.Coded.codec.at l.items l.rest (items_of g.T.Coded.codec.at l.contents)

abbrev pub decreases-loop-rest : goal.decreases-loop-rest
decreases-loop-rest g l = length l.rest
