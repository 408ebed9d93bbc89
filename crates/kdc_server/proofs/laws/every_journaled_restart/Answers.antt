use Rattle.kdc_server.proofs.Journaled.{one_ticket_through_journals}
use Rattle.kdc_server.proofs.laws.every_journaled_restart.Goals as goal

pub returns : goal.returns
returns c = record {
  one_ticket = one_ticket_through_journals c.every_journal_life.ensures c.every_counted_life.ensures c.every_restart.ensures.one_ticket;
}
