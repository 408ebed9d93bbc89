use Rattle.journal.proofs.Remaining.{holds_on}
use Rattle.journal.proofs.laws.every_journal.Goals as goal

pub returns : goal.returns
returns c = holds_on
