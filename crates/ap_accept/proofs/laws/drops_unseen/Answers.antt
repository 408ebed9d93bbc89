use Rattle.ap_accept.proofs.Unseen.{drops_unseen}
use Rattle.ap_accept.proofs.laws.drops_unseen.Goals as goal

pub returns : goal.returns
returns c = drops_unseen
