use Rattle.kdc_hub.proofs.Rounds.{records_on}
use Rattle.kdc_server.proofs.starting.begin.Goals as goal

pub returns-clause-did : goal.returns-clause-did
returns-clause-did g c = records_on _ _ _ _ _ c.in_ok-journals.ensures.reading c.in-Ok.ensures.records
