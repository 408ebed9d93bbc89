use Rattle.ap_accept.proofs.Once.{accepted_once}
use Rattle.ap_accept.proofs.laws.accepted_once.Goals as goal

pub returns : goal.returns
returns c = accepted_once
