use Rattle.std.proofs.Common.{◌++◌, ap, ◌∙◌}
use Rattle.std.proofs.lemmas.Result.{on_ok_weaker}
use Rattle.kdc_metrics.specs.Counts.{requests_in}
use Rattle.kdc_metrics.specs.Prometheus.{value_text}
use Rattle.kdc_metrics.specs.CountText.{request_labels, request_sample, requests_name}
use Rattle.kdc_metrics.proofs.Appended.{three}
use Rattle.kdc_metrics.proofs.count_text.push_request.Goals as goal

pub returns : goal.returns
unfolding request_sample
returns c =
    on_ok_weaker c.push_value.result (λ value. three c.args.text.now.items requests_name (request_labels c.args.kind)
    (value_text (requests_in c.args.counts.now c.args.kind)) c.push_str.new.text.items c.push_request_labels.new.text.items c.push_value.new.text.items
    c.in_ok-push_str.ensures c.in_ok-push_request_labels.ensures (value ∙ ap (λ n. c.push_request_labels.new.text.items ++ value_text n) c.requests.ensures))
    c.push_value.ensures
