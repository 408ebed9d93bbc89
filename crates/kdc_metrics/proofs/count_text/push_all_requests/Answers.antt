use Rattle.std.proofs.Common.{rules, ◌≡◌, ◌++◌, ap, sym, ◌∙◌}
use Rattle.std.specs.List.{flat_map}
use Rattle.std.proofs.lemmas.Result.{on_ok_weaker}
use Rattle.ap_req.specs.Refusal as ap_refusals
use Rattle.as_exchange.specs.Refusal as as_refusals
use Rattle.tgs_opening.specs.Refusal as tgs_refusals
use Rattle.tgs_opening.specs.declared.refusal.TgsRefusal.TheVariants.{Ap}
use Rattle.kdc_metrics.specs.Places.{before_rules, between_rules}
use Rattle.kdc_metrics.specs.CountText.{ap_sample, as_sample, request_sample, tgs_sample}
use Rattle.kdc_metrics.specs.declared.kind.Kind.TheVariants.{AsRefused, TgsRefused}
use Rattle.kdc_metrics.proofs.Appended.{five}
use Rattle.kdc_metrics.proofs.Parts.{parts}
use Rattle.kdc_metrics.proofs.count_text.push_all_requests.Goals as goal

pub returns : goal.returns
returns c =
    let counts = c.args.counts.now in
    let before = flat_map (request_sample counts) before_rules in
    let as_rules = flat_map (as_sample counts) as_refusals.all_refusals in
    let between = flat_map (request_sample counts) between_rules in
    let tgs_rules = flat_map (tgs_sample counts) tgs_refusals.own_refusals in
    let ap_rules = flat_map (ap_sample counts) ap_refusals.all_refusals in
    let first : c.as_slice.result.now ≡ before_rules = search rules in
    let second : c.as_slice-2.result.now ≡ as_refusals.all_refusals = search rules in
    let third : c.as_slice-3.result.now ≡ between_rules = search rules in
    let fourth : c.as_slice-4.result.now ≡ tgs_refusals.own_refusals = search rules in
    let fifth : c.as_slice-5.result.now ≡ ap_refusals.all_refusals = search rules in
    on_ok_weaker c.push_ap_rules.result (λ is. five c.args.text.now.items before as_rules between tgs_rules ap_rules
    c.push_requests.new.text.items c.push_as_rules.new.text.items c.push_requests-2.new.text.items c.push_tgs_rules.new.text.items c.push_ap_rules.new.text.items
    (c.in_ok-push_requests.ensures ∙ ap (λ ks. c.args.text.now.items ++ flat_map (request_sample counts) ks) first)
    (c.in_ok-push_as_rules.ensures ∙ ap (λ rs. c.push_requests.new.text.items ++ flat_map (as_sample counts) rs) second)
    (c.in_ok-push_requests-2.ensures ∙ ap (λ ks. c.push_as_rules.new.text.items ++ flat_map (request_sample counts) ks) third)
    (c.in_ok-push_tgs_rules.ensures ∙ ap (λ rs. c.push_requests-2.new.text.items ++ flat_map (tgs_sample counts) rs) fourth)
    (is ∙ ap (λ rs. c.push_tgs_rules.new.text.items ++ flat_map (ap_sample counts) rs) fifth)
    ∙ ap (λ t. c.args.text.now.items ++ t) (sym (parts (request_sample counts) before_rules between_rules AsRefused as_refusals.all_refusals
    TgsRefused tgs_refusals.own_refusals Ap ap_refusals.all_refusals)))
    c.push_ap_rules.ensures
