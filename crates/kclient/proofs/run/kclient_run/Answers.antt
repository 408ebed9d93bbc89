use Rattle.std.proofs.Common.{ap}
use Rattle.command_line.specs.Values.{texts}
use Rattle.kclient.specs.Worlds.{CameFirst, CameFurther}
use Rattle.kclient.proofs.Ending.{ended_at}
use Rattle.kclient.proofs.run.kclient_run.Goals as goal

pub returns : goal.returns
returns g c = record {
  ended = ended_at (CameFirst g.X.Network.finds g.X.Network.carries g.X.Network.answers)
      (CameFurther g.X.Network.finds g.X.Network.carries g.X.Network.answers) c.args.context.now.client.at.sec _
      (texts c.args.words.now) c.args.host.now c.run_words-end.result c.report.result _ _ _ _
      c.run_words-end.ensures.done c.run_words-end.ensures.stopped c.report.ensures
      (ap g.T.Store.world c.begin.ensures.store) (ap g.T.Store.world c.note_hosts.ensures.store) c.begin.ensures.clock;
}
