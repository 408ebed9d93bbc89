use Rattle.std.specs.List.{flat_map}
use Rattle.std.proofs.lemmas.Result.{on_ok_weaker}
use Rattle.kdc_metrics.specs.Places.{kinds}
use Rattle.kdc_metrics.specs.CountText.{request_sample, replies_text, requests_head}
use Rattle.kdc_metrics.proofs.Appended.{three}
use Rattle.kdc_metrics.proofs.counts.Counts.push_text.Goals as goal

pub returns : goal.returns
returns c =
    let samples = flat_map (request_sample c.args.self.now) kinds in
    on_ok_weaker c.push_replies.result (three c.args.text.now.items requests_head samples (replies_text c.args.self.now) c.push_head.new.text.items c.push_all_requests.new.text.items
    c.push_replies.new.text.items c.in_ok-push_head.ensures c.in_ok-push_all_requests.ensures)
    c.push_replies.ensures
