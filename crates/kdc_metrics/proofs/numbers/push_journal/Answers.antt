use Rattle.std.proofs.lemmas.Result.{on_ok_weaker}
use Rattle.kdc_metrics.proofs.Appended.{both}
use Rattle.kdc_metrics.proofs.numbers.push_journal.Goals as goal

pub returns : goal.returns
returns c =
    on_ok_weaker c.push_withheld.result (both _ _ _ _ _ c.in_ok-push_single.ensures) c.push_withheld.ensures
