use Rattle.kdc_core.proofs.Covering.{can_be_resumed}
use Rattle.kdc_core.proofs.Isolation.{isolation, unaffected}
use Rattle.kdc_core.proofs.Marking.{keeps_marked}
use Rattle.kdc_core.proofs.Tickets.{one_ticket}
use Rattle.kdc_core.proofs.Unseen.{tidies_unseen}
use Rattle.kdc_core.proofs.laws.any_run.Goals as goal

pub returns-clause-isolation : goal.returns-clause-isolation
returns-clause-isolation c = isolation

pub returns-clause-one_ticket : goal.returns-clause-one_ticket
returns-clause-one_ticket c = one_ticket

pub returns-clause-unaffected : goal.returns-clause-unaffected
returns-clause-unaffected c = unaffected

pub returns-clause-marked : goal.returns-clause-marked
returns-clause-marked c = keeps_marked

pub returns-clause-unseen : goal.returns-clause-unseen
returns-clause-unseen c = tidies_unseen

pub returns-clause-resumable : goal.returns-clause-resumable
returns-clause-resumable c = can_be_resumed
