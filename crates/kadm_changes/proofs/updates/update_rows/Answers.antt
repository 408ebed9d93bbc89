use Rattle.std.proofs.Common.{◌∙◌, refl}
use Rattle.kadm_changes.specs.Updates.{AreKept}
use Rattle.kadm_changes.specs.WorldLaws.{rewritten}
use Rattle.kadm_changes.proofs.Doing.{rows_changed}
use Rattle.kadm_changes.proofs.updates.update_rows.Goals as goal

pub returns-clause-done : goal.returns-clause-done
returns-clause-done g c =
    rewritten _ _ _ _ _ _ _ _
    (AreKept (g.T.Store.world c.args.store.now) c.args.target.now.whole_realm c.args.target.now c.args.how)
    c.in_ok-database.database c.keep_all.new.draft.database refl c.in_ok-locked.ensures.unchanged c.in_ok-database.ensures.unchanged
    c.in_ok-keep_all.ensures.unchanged c.in_ok-locked.ensures.locked c.in_ok-database.ensures.read
    (rows_changed _ _ _ c.args.target.now c.args.how _ _ (c.in_ok-database.ensures.unchanged ∙ c.in_ok-locked.ensures.unchanged) c.in_ok-keep_all.ensures.changed)
    c.in_ok-written.ensures.read_back c.in_ok-written.ensures.written
