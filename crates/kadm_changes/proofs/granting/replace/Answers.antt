use Rattle.std.proofs.lemmas.Result.{on_ok_weaker}
use Rattle.kadm_changes.proofs.granting.replace.Goals as goal

pub returns : goal.returns
returns c = on_ok_weaker c.drop_older.result (λ done. (c.apply.new.draft.database, c.in_ok-apply.ensures.changed, done)) c.drop_older.ensures
