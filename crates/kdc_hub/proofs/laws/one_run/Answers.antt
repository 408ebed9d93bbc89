use Rattle.kdc_hub.proofs.Due as due
use Rattle.kdc_hub.proofs.Histories as histories
use Rattle.kdc_hub.proofs.Moved as moved
use Rattle.kdc_hub.proofs.laws.one_run.Goals as goal

pub returns-clause-run : goal.returns-clause-run
returns-clause-run c = histories.one_run

pub returns-clause-goes_on : goal.returns-clause-goes_on
returns-clause-goes_on c = histories.goes_on

pub returns-clause-log : goal.returns-clause-log
returns-clause-log c = histories.log_stands

pub returns-clause-isolation : goal.returns-clause-isolation
returns-clause-isolation c = histories.serves_alike

pub returns-clause-one_ticket : goal.returns-clause-one_ticket
returns-clause-one_ticket c = histories.one_ticket_sent

pub returns-clause-unaffected : goal.returns-clause-unaffected
returns-clause-unaffected c = histories.unaffected

pub returns-clause-unseen : goal.returns-clause-unseen
returns-clause-unseen c = histories.unseen

pub returns-clause-one_ticket_in_process : goal.returns-clause-one_ticket_in_process
returns-clause-one_ticket_in_process c = histories.one_ticket_in_process

pub returns-clause-who_asked : goal.returns-clause-who_asked
returns-clause-who_asked c = histories.who_asked

pub returns-clause-resumable : goal.returns-clause-resumable
returns-clause-resumable c = histories.can_be_resumed

pub returns-clause-own : goal.returns-clause-own
returns-clause-own c = due.gets_its_own

pub returns-clause-own_record : goal.returns-clause-own_record
returns-clause-own_record c = due.records_its_own

pub returns-clause-moved : goal.returns-clause-moved
returns-clause-moved c = moved.moves_nothing_else
