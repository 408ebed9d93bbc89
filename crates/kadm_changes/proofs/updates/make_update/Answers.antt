use Rattle.std.proofs.Common.{sym, subst}
use Rattle.std.specs.Prelude.{OnOk}
use Rattle.kadm_changes.specs.Worlds.{Updated}
use Rattle.kadm_changes.proofs.updates.make_update.Goals as goal

pub returns-in-Row-clause-done : goal.returns-in-Row-clause-done
returns-in-Row-clause-done g c =
    subst (λ u. OnOk c.update_row.result (Updated (g.T.Store.world c.args.store.now) (g.T.Store.input c.args.store.now) c.args.target.now u (g.T.Store.world c.update_row.new.store)))
    (sym c.in-Row.is) c.update_row.ensures.done

pub returns-in-Changes-clause-done : goal.returns-in-Changes-clause-done
returns-in-Changes-clause-done g c =
    subst (λ u. OnOk c.update_rows.result (Updated (g.T.Store.world c.args.store.now) (g.T.Store.input c.args.store.now) c.args.target.now u (g.T.Store.world c.update_rows.new.store)))
    (sym c.in-Changes.is) c.update_rows.ensures.done

pub returns-in-Migrate-clause-done : goal.returns-in-Migrate-clause-done
returns-in-Migrate-clause-done g c =
    subst (λ u. OnOk c.migrate.result (Updated (g.T.Store.world c.args.store.now) (g.T.Store.input c.args.store.now) c.args.target.now u (g.T.Store.world c.migrate.new.store)))
    (sym c.in-Migrate.is) c.migrate.ensures.done
