use Rattle.std.proofs.Common.{length, List}
use Rattle.krb_elements.specs.Format.{items_of}
use Rattle.krb_elements.proofs.Loop.{ReadsOn}
use Rattle.krb_elements.proofs.lists.check_items.Given as goal

abbrev pub invariant-loop-rest : goal.invariant-loop-rest
invariant-loop-rest g l = (front : List g.row.T.Denot) × ReadsOn g.T.Coded.codec.at front l.rest (items_of g.T.Coded.codec.at l.contents)

abbrev pub decreases-loop-rest : goal.decreases-loop-rest
decreases-loop-rest g l = length l.rest
