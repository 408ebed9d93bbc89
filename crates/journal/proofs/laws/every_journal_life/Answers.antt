use Rattle.journal.proofs.Lasting.{lives_hold}
use Rattle.journal.proofs.laws.every_journal_life.Goals as goal

pub returns : goal.returns
returns c = lives_hold
