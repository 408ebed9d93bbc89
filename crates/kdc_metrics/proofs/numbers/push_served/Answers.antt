use Rattle.std.proofs.lemmas.Result.{on_ok_weaker}
use Rattle.kdc_metrics.proofs.Appended.{four}
use Rattle.kdc_metrics.proofs.numbers.push_served.Goals as goal

pub returns : goal.returns
returns c =
    on_ok_weaker c.push_single-4.result (four _ _ _ _ _ _ _ _ _ c.in_ok-push_single.ensures c.in_ok-push_single-2.ensures c.in_ok-push_single-3.ensures) c.push_single-4.ensures
