use Rattle.std.proofs.lemmas.Result.{on_ok_weaker}
use Rattle.kdc_metrics.proofs.Appended.{both}
use Rattle.kdc_metrics.proofs.numbers.push_version.Goals as goal

pub returns : goal.returns
returns c =
    on_ok_weaker c.push_version_sample.result (both _ _ _ _ _ c.in_ok-push_head.ensures) c.push_version_sample.ensures
