use Rattle.journal.proofs.Counting.{read_is_later}
use Rattle.journal.proofs.laws.every_counted_life.Goals as goal

pub returns : goal.returns
returns c = read_is_later
