use Rattle.kdc_server.proofs.Restarts.{one_ticket_covered}
use Rattle.kdc_server.proofs.Runs.{one_ticket_over_runs, ran_is_run}
use Rattle.kdc_server.proofs.laws.every_run.Goals as goal

pub returns : goal.returns
returns c = record {
  one_ticket = one_ticket_over_runs c.every_journal_life.ensures c.every_counted_life.ensures c.any_run.ensures.resumable
      (one_ticket_covered c.one_run.ensures.run c.one_run.ensures.resumable c.any_run.ensures.resumable c.every_life.ensures.life c.one_run.ensures.one_ticket);
  ran = ran_is_run;
}
