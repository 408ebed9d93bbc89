use Rattle.journal.proofs.Heads.{fronts_may_be}
use Rattle.journal.proofs.laws.every_front.Goals as goal

pub returns : goal.returns
returns c = fronts_may_be
