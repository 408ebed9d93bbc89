use Rattle.std.proofs.lemmas.Result.{on_ok_weaker}
use Rattle.kdc_metrics.proofs.Appended.{both}
use Rattle.kdc_metrics.proofs.numbers.push_start.Goals as goal

pub returns : goal.returns
returns c =
    on_ok_weaker c.push_single-2.result (both _ _ _ _ _ c.in_ok-push_single.ensures) c.push_single-2.ensures
