use Rattle.kadm_changes.proofs.PutBack.{restored}
use Rattle.kadm_changes.proofs.restoring.restore.Goals as goal

pub returns-clause-done : goal.returns-clause-done
returns-clause-done g c =
    restored (g.T.Store.world c.args.store.now) (g.T.Store.world c.read_from.new.store) (g.T.Store.world c.lock_database.new.store)
    (g.T.Store.world c.read_replaced.new.store) (g.T.Store.world c.check_open.new.store) (g.T.Store.world c.write_database.new.store)
    c.args.target.now.whole_realm c.args.target.now.db.now c.in_ok-locked.locked c.args.from.now c.in_ok-database.database c.in_ok-old.old
    c.in_ok-database.ensures.unchanged c.in_ok-locked.ensures.unchanged c.in_ok-old.ensures.unchanged c.in_ok-check_open.ensures.unchanged
    c.in_ok-locked.ensures.locked c.in_ok-database.ensures.read c.in_ok-old.ensures.there c.in_ok-check_same_realm.ensures
    c.in_ok-check_open.ensures.kept c.in_ok-written.ensures.read_back c.in_ok-written.ensures.written
