use Rattle.std.proofs.Common.{ap, subst}
use Rattle.std.proofs.lemmas.Result.{on_ok_weaker}
use Rattle.kadm_changes.specs.Realm.{KeepsRealm, tgs_policy}
use Rattle.kadm_changes.proofs.updates.keep_row.Goals as goal

pub returns-clause-changed : goal.returns-clause-changed
returns-clause-changed g c =
    on_ok_weaker c.check_realm.result
    (λ kept. (
      c.in_ok-change_row.ensures.changed,
      c.in_ok-check_password.ensures,
      subst (λ before. KeepsRealm c.args.whole (g.T.Store.world c.args.store.now) before (tgs_policy c.change_row.new.draft.database))
          c.tgs_policy-before.ensures
          (subst (λ world. KeepsRealm c.args.whole world c.tgs_policy-before.result (tgs_policy c.change_row.new.draft.database))
          c.in_ok-change_row.ensures.unchanged kept),
    ))
    c.check_realm.ensures.kept
