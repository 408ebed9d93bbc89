use Rattle.std.proofs.Common.{◌∙◌}
use Rattle.kadm_changes.proofs.Doing.{row_updated}
use Rattle.kadm_changes.proofs.updates.row_in_batch.Goals as goal

pub returns-clause-done : goal.returns-clause-done
returns-clause-done g c =
    row_updated _ _ _ _ _ _ _ c.in_ok-who.who.components c.in_ok-pass.pass.items _ _ _ (c.old_expiry-expired.ensures.unchanged ∙ c.in_ok-pass.ensures.unchanged) c.deref.ensures.value c.deref-2.ensures.value
    c.in_ok-who.ensures.ok c.in_ok-pass.ensures.given c.in_ok-keep_row.ensures.changed
