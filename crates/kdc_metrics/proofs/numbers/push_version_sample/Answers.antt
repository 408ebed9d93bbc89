use Rattle.std.proofs.Common.{◌++◌, codes, ap, ◌∙◌}
use Rattle.std.proofs.lemmas.Result.{on_ok_weaker}
use Rattle.kdc_metrics.proofs.Appended.{three}
use Rattle.kdc_metrics.proofs.numbers.push_version_sample.Goals as goal

pub returns : goal.returns
returns c =
    on_ok_weaker c.push_bytes-3.result (three c.args.text.now.items (codes "kdcd_info{version=\"") c.args.version.now (codes "\"} 1\n")
    c.push_bytes.new.text.items c.push_bytes-2.new.text.items c.push_bytes-3.new.text.items
    c.in_ok-push_bytes.ensures (c.in_ok-push_bytes-2.ensures ∙ ap (λ v. c.push_bytes.new.text.items ++ v) c.as_bytes.ensures.value))
    c.push_bytes-3.ensures
