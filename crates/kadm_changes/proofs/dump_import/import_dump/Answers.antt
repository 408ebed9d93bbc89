use Rattle.std.proofs.Common.{◌∙◌, false, subst, sym}
use Rattle.file_store.specs.World.{IsThere}
use Rattle.principal_rows.specs.Policy.{default_policy}
use Rattle.kadm_changes.specs.Realm.{KeepsRealm, tgs_policy}
use Rattle.kadm_changes.proofs.Moved.{made_from_dump}
use Rattle.kadm_changes.proofs.dump_import.import_dump.Goals as goal

pub returns-clause-done : goal.returns-clause-done
returns-clause-done g c =
    let free : IsThere (g.T.Store.world c.lock_database.new.store) c.args.target.now.db.now false =
    subst (IsThere (g.T.Store.world c.lock_database.new.store) c.args.target.now.db.now) c.if-branch.false c.in_ok-has_file.ensures.there in
    made_from_dump (g.T.Store.world c.args.store.now) (g.T.Store.world c.lock_database.new.store)
    (g.T.Store.world c.has_file.new.store) (g.T.Store.world c.check_new_realm.new.store) (g.T.Store.world c.write_database.new.store)
    c.args.target.now.whole_realm c.args.target.now.db.now c.in_ok-locked.locked c.args.from c.in_ok-database.database
    c.in_ok-locked.ensures.unchanged c.in_ok-has_file.ensures.unchanged
    (c.in_ok-check_new_realm.ensures.unchanged ∙ c.in_ok-database.ensures.unchanged) c.in_ok-locked.ensures.locked free
    c.in_ok-database.ensures.read
    (subst (λ world. KeepsRealm c.args.target.now.whole_realm world default_policy (tgs_policy c.in_ok-database.database))
    (sym c.in_ok-check_new_realm.ensures.unchanged) c.in_ok-check_new_realm.ensures.kept)
    c.in_ok-written.ensures.read_back c.in_ok-written.ensures.written
