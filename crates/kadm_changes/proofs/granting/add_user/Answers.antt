use Rattle.std.proofs.lemmas.Result.{on_ok_weaker}
use Rattle.kadm_changes.proofs.granting.add_user.Goals as goal

pub returns : goal.returns
returns c = on_ok_weaker c.deny_service.result (λ done. (c.apply.new.draft.database, c.in_ok-apply.ensures.changed, done)) c.deny_service.ensures
