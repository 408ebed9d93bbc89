use Rattle.journal.proofs.Walks.{element_is}
use Rattle.journal.proofs.showing.element_len.Goals as goal

pub returns : goal.returns
returns c = λ element is. element_is element c.args.len c.length_len.result is c.length_len.ensures.is
