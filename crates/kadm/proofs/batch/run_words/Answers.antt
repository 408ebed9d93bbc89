use Rattle.std.proofs.lemmas.Result.{on_ok_weaker}
use Rattle.kadm.proofs.batch.run_words.Goals as goal

pub returns-in-Ok-clause-done : goal.returns-in-Ok-clause-done
returns-in-Ok-clause-done g c =
    on_ok_weaker c.run_command.result (λ made. (c.in-Ok.command, c.in-Ok.ensures, made)) c.run_command.ensures.done
