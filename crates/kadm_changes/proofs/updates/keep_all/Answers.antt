use Rattle.std.proofs.Common.{subst}
use Rattle.std.proofs.lemmas.Result.{on_ok_weaker}
use Rattle.kadm_changes.specs.Realm.{KeepsRealm, tgs_policy}
use Rattle.kadm_changes.proofs.updates.keep_all.Goals as goal

pub returns-clause-changed : goal.returns-clause-changed
returns-clause-changed g c =
    on_ok_weaker c.check_realm.result
    (λ kept. (
      c.in_ok-change_all.ensures.changed,
      subst (λ before. KeepsRealm c.args.whole (g.T.Store.world c.args.store.now) before (tgs_policy c.change_all.new.draft.database))
          c.tgs_policy-before.ensures
          (subst (λ world. KeepsRealm c.args.whole world c.tgs_policy-before.result (tgs_policy c.change_all.new.draft.database))
          c.in_ok-change_all.ensures.unchanged kept),
    ))
    c.check_realm.ensures.kept
