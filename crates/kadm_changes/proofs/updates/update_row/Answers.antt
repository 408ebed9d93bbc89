use Rattle.std.proofs.Common.{◌∙◌}
use Rattle.kadm_changes.specs.Updates.{IsRowUpdated}
use Rattle.kadm_changes.specs.WorldLaws.{rewritten}
use Rattle.kadm_changes.proofs.Doing.{row_updated}
use Rattle.kadm_changes.proofs.updates.update_row.Goals as goal

pub returns-clause-done : goal.returns-clause-done
returns-clause-done g c =
    rewritten _ _ _ _ _ _ _ _ (IsRowUpdated (g.T.Store.world c.args.store.now) (g.T.Store.input c.args.store.now) c.args.target.now.whole_realm c.args.target.now c.args.to.now)
    c.in_ok-database.database c.keep_row.new.draft.database c.in_ok-pass.ensures.unchanged c.in_ok-locked.ensures.unchanged
    c.in_ok-database.ensures.unchanged (c.in_ok-keep_row.ensures.unchanged ∙ c.old_expiry-expired.ensures.unchanged) c.in_ok-locked.ensures.locked c.in_ok-database.ensures.read
    (row_updated _ _ _ _ _ _ _ c.in_ok-who.who.components c.in_ok-pass.pass.items _ _ _
    (c.old_expiry-expired.ensures.unchanged ∙ c.in_ok-database.ensures.unchanged ∙ c.in_ok-locked.ensures.unchanged ∙ c.in_ok-pass.ensures.unchanged) c.deref.ensures.value
    c.deref-2.ensures.value c.in_ok-who.ensures.ok c.in_ok-pass.ensures.given c.in_ok-keep_row.ensures.changed)
    c.in_ok-written.ensures.read_back c.in_ok-written.ensures.written
