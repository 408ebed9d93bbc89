use Rattle.kdc_server.proofs.Handings.{in_life, in_rounds}
use Rattle.kdc_server.proofs.laws.every_life.Goals as goal

pub returns-clause-rounds : goal.returns-clause-rounds
returns-clause-rounds c = in_rounds

pub returns-clause-life : goal.returns-clause-life
returns-clause-life c = in_life
