use Rattle.command_line.specs.Values.{texts}
use Rattle.kclient.specs.Worlds.{CameFirst, CameFurther}
use Rattle.kclient.proofs.Ending.{spelled_end, spelled_stop}
use Rattle.kclient.proofs.run.run_words.Goals as goal

pub returns-clause-done : goal.returns-clause-done
returns-clause-done g c =
    spelled_end (CameFirst g.X.Network.finds g.X.Network.carries g.X.Network.answers)
    (CameFurther g.X.Network.finds g.X.Network.carries g.X.Network.answers) c.args.context.now.client.at.sec
    (texts c.args.words.now) c.args.host.now c.run_command.result c.in_ok-command.command _ _ c.in_ok-command.ensures
    c.run_command.ensures.done

pub returns-clause-stopped : goal.returns-clause-stopped
returns-clause-stopped g c =
    spelled_stop (CameFirst g.X.Network.finds g.X.Network.carries g.X.Network.answers)
    (CameFurther g.X.Network.finds g.X.Network.carries g.X.Network.answers) c.args.context.now.client.at.sec
    (texts c.args.words.now) c.args.host.now c.run_command.result c.in_ok-command.command _ _ c.in_ok-command.ensures
    c.run_command.ensures.stopped
