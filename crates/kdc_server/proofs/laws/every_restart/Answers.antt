use Rattle.kdc_server.proofs.Restarts.{one_ticket_through_restarts}
use Rattle.kdc_server.proofs.laws.every_restart.Goals as goal

pub returns : goal.returns
returns c = record {
  one_ticket = one_ticket_through_restarts c.one_run.ensures.run c.one_run.ensures.resumable c.any_run.ensures.resumable c.every_life.ensures.life
      c.one_run.ensures.one_ticket;
}
