use Rattle.std.proofs.Common.{rules, ◌≡◌, ◌++◌, OnOk, codes, ap, ◌∙◌}
use Rattle.std.proofs.lemmas.Result.{on_ok_weaker}
use Rattle.kdc_metrics.specs.CountText.{exchange_word, outcome_word, rule_word}
use Rattle.kdc_metrics.proofs.Appended.{four}
use Rattle.kdc_metrics.proofs.count_text.push_request_labels.Goals as goal

pub returns : goal.returns
returns c =
    let end : OnOk c.extend_from_slice.result (c.extend_from_slice.new.self.items ≡ c.push_pair-3.new.text.items ++ codes "\"}") = search rules in
    on_ok_weaker c.extend_from_slice.result (λ is. four c.args.text.now.items (codes "{exchange=\"" ++ exchange_word c.args.kind) (codes "\",outcome=\"" ++ outcome_word c.args.kind)
    (codes "\",rule=\"" ++ rule_word c.args.kind) (codes "\"}") c.push_pair.new.text.items c.push_pair-2.new.text.items c.push_pair-3.new.text.items c.extend_from_slice.new.self.items
    (c.in_ok-push_pair.ensures ∙ ap (λ w. c.args.text.now.items ++ (codes "{exchange=\"" ++ w)) c.exchange_word.ensures)
    (c.in_ok-push_pair-2.ensures ∙ ap (λ w. c.push_pair.new.text.items ++ (codes "\",outcome=\"" ++ w)) c.outcome_word.ensures)
    (c.in_ok-push_pair-3.ensures ∙ ap (λ w. c.push_pair-2.new.text.items ++ (codes "\",rule=\"" ++ w)) c.rule_word.ensures) is)
    end
