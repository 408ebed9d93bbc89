use Rattle.ap_accept.proofs.Putting.{PutsFront}
use Rattle.ap_accept.proofs.saved.put_all.Given as goal

abbrev pub invariant-loop-value : goal.invariant-loop-value
invariant-loop-value g l = PutsFront g.T.Saved.at l.values l.value-index l.fn.out.items l.out.items
