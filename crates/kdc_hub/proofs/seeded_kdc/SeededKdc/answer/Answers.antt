use Rattle.std.proofs.Common.{rules, ◌≡◌, ℕ, List, IfOk, ap, subst, ◌∙◌}
use Rattle.rand_core.specs.Stream.{fill_bytes}
use Rattle.kdc_core.specs.Answer.{after_request}
use Rattle.kdc_core.specs.View.{view}
use Rattle.kdc_hub.specs.Audits.{ReplyHolds}
use Rattle.kdc_hub.specs.Issuing.{after, reply_by, reply_of}
use Rattle.kdc_hub.proofs.Auditing.{all_after, all_hold, all_made, then_ok}
use Rattle.kdc_hub.proofs.seeded_kdc.SeededKdc.answer.Goals as goal

pub returns-clause-reply : goal.returns-clause-reply
unfolding reply_of
returns-clause-reply g c =
    let random : c.fill_bytes.new.dst ≡ (fill_bytes 64 (g.R.Rng.stream c.args.self.now.rng)).0 = search rules in
    let octets = c.args.request.now in
    let v = view c.args.self.now.kdc octets in
    subst (λ (w : List ℕ). IfOk c.answer.result (λ reply. reply ≡ reply_by c.args.self.now.keeps_audits v c.args.at w c.args.room octets))
    random
    (all_made c.args.self.now.keeps_audits c.args.self.now.kdc c.answer.new.self c.args.at c.fill_bytes.new.dst c.args.room octets
    c.answer.result c.answer.ensures.answered)

pub returns-clause-holds : goal.returns-clause-holds
returns-clause-holds g c =
    let random : c.fill_bytes.new.dst ≡ (fill_bytes 64 (g.R.Rng.stream c.args.self.now.rng)).0 = search rules in
    let octets = c.args.request.now in
    let v = view c.args.self.now.kdc octets in
    subst (λ (w : List ℕ). IfOk c.answer.result (λ reply. ReplyHolds v c.args.at w octets reply))
    random
    (all_hold c.args.self.now.keeps_audits c.args.self.now.kdc c.answer.new.self c.args.at c.fill_bytes.new.dst c.args.room octets
    c.answer.result c.answer.ensures.answered)

pub returns-clause-after : goal.returns-clause-after
unfolding after
returns-clause-after g c =
    let random : c.fill_bytes.new.dst ≡ (fill_bytes 64 (g.R.Rng.stream c.args.self.now.rng)).0 = search rules in
    let rest : g.R.Rng.stream c.fill_bytes.new.self ≡ (fill_bytes 64 (g.R.Rng.stream c.args.self.now.rng)).1 = search rules in
    let octets = c.args.request.now in
    then_ok c.answer.result _ _
    (all_after c.args.self.now.keeps_audits c.args.self.now.kdc c.answer.new.self c.args.at c.fill_bytes.new.dst c.args.room octets
    c.answer.result c.answer.ensures.answered)
    (λ state. λ i. record {
      kdc = (state ∙ ap (λ (w : List ℕ). after_request c.args.self.now.kdc c.args.at w c.args.room octets) random) i;
      random = rest i;
      audits = c.args.self.now.keeps_audits;
    })
