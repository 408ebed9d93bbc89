use Rattle.std.proofs.Common.{◌∙◌, refl, subst}
use Rattle.kadm_changes.specs.Updates.{IsMigrated}
use Rattle.kadm_changes.specs.WorldLaws.{rewritten}
use Rattle.kadm_changes.proofs.updates.migrate.Goals as goal

pub returns-clause-done : goal.returns-clause-done
returns-clause-done g c =
    let before = g.T.Store.world c.args.store.now in
    let migrated = subst (λ world. IsMigrated world c.args.target.now.whole_realm c.args.users_are_no_services c.in_ok-database.database c.keep_migrated.new.draft.database)
    (c.in_ok-database.ensures.unchanged ∙ c.in_ok-locked.ensures.unchanged) c.in_ok-keep_migrated.ensures.migrated in
    rewritten _ _ _ _ _ _ _ _ (IsMigrated before c.args.target.now.whole_realm c.args.users_are_no_services) c.in_ok-database.database c.keep_migrated.new.draft.database
    refl c.in_ok-locked.ensures.unchanged c.in_ok-database.ensures.unchanged c.in_ok-keep_migrated.ensures.unchanged c.in_ok-locked.ensures.locked
    c.in_ok-database.ensures.read migrated c.in_ok-written.ensures.read_back c.in_ok-written.ensures.written
