use Rattle.journal.proofs.Seals.{seals_hold}
use Rattle.journal.proofs.laws.every_seal.Goals as goal

pub returns : goal.returns
returns c = seals_hold
