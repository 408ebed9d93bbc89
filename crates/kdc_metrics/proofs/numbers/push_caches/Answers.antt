use Rattle.std.proofs.lemmas.Result.{on_ok_weaker}
use Rattle.kdc_metrics.proofs.Appended.{three}
use Rattle.kdc_metrics.proofs.numbers.push_caches.Goals as goal

pub returns : goal.returns
returns c =
    on_ok_weaker c.push_single-3.result (three _ _ _ _ _ _ _ c.in_ok-push_single.ensures c.in_ok-push_single-2.ensures) c.push_single-3.ensures
