use Rattle.ap_accept.proofs.Lives.{resumed_once}
use Rattle.ap_accept.proofs.laws.resumed_once.Goals as goal

pub returns : goal.returns
returns c = resumed_once
