use Rattle.std.proofs.Common.{subst}
use Rattle.std.proofs.lemmas.Result.{on_ok_weaker}
use Rattle.kadm_changes.specs.Realm.{KeepsRealm, tgs_policy}
use Rattle.kadm_changes.proofs.updates.keep_migrated.Goals as goal

pub returns-clause-migrated : goal.returns-clause-migrated
returns-clause-migrated g c =
    on_ok_weaker c.check_realm.result
    (λ kept. (
      c.in_ok-migrate_rows.ensures,
      subst (λ before. KeepsRealm c.args.whole (g.T.Store.world c.args.store.now) before (tgs_policy c.migrate_rows.new.draft.database))
          c.tgs_policy-before.ensures kept,
    ))
    c.check_realm.ensures.kept
