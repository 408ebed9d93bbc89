use Rattle.std.proofs.lemmas.Result.{on_ok_weaker}
use Rattle.kdc_metrics.proofs.Appended.{three}
use Rattle.kdc_metrics.proofs.numbers.push_withheld.Goals as goal

pub returns : goal.returns
returns c =
    on_ok_weaker c.push_sample-2.result (three _ _ _ _ _ _ _ c.in_ok-push_head.ensures c.in_ok-push_sample.ensures) c.push_sample-2.ensures
