use Rattle.replay.proofs.Unseen.{tidied_unseen}
use Rattle.replay.proofs.laws.tidied_unseen.Goals as goal

pub returns : goal.returns
returns g c = tidied_unseen
