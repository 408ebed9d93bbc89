use Rattle.std.proofs.Common.{rules, ◌≡◌, ap, ◌∙◌, arith, SFits, w64}
use Rattle.std.proofs.lemmas.Int.{to_z-of_z}
use Rattle.std.proofs.lemmas.Iterator.Consumers.{count_from_yields_List, YieldsList-from_rest}
use Rattle.std.specs.FinMap.{retain_keys}
use Rattle.replay.specs.Stamp.{is_from}
use Rattle.rule_lists.proofs.Ordered.{popped}
use Rattle.replay.proofs.Before.{forgotten}
use Rattle.replay.proofs.Raising.{one_off, all_off}
use Rattle.replay.proofs.pairs.Pairs.drop_first.Goals as goal

pub loop-preserved : goal.loop-preserved
loop-preserved g c =
    let start : SFits w64 c.args.start = c.ranges.start in
    let floor : SFits w64 c.args.floor = c.ranges.floor in
    let made : SFits w64 c.raised_if-above.result = search rules in
    simp to_z-of_z (
      popped c.pop_first.result c.self.inside.kept.entries c.loop.self-inside.kept.entries c.pop_first.new.self.entries c.loop.counter c.loop.invariant.0 c.pop_first.ensures.variant c.pop_first.ensures.removal c.pop_first.ensures.unchanged,
      one_off c.args.start c.args.floor _ c.raised_if-above.result c.pop_first.result c.self.inside.kept.entries c.loop.self-inside.kept.entries c.pop_first.new.self.entries (simp to_z-of_z at c.loop.invariant.1) (simp to_z-of_z at c.raised_if-above.ensures) c.pop_first.ensures.removal c.pop_first.ensures.unchanged,
    )

pub invariant_of-self : goal.invariant_of-self
invariant_of-self g c =
    let fits : SFits w64 c.args.start = c.ranges.start in
    let between = simp to_z-of_z at (c.range.ensures.between tt) in
    let all : c.loop.counter ≡ c.count-before.result = omega (arith, c.loop.auto.counter-end, c.loop-test.false) in
    (forgotten c.args.start c.self.inside.kept.entries c.loop.self-inside.kept.entries c.loop.counter c.self.invariant
    (all ∙ count_from_yields_List c.range.result c.count-before.result c.count-before.ensures.ran (YieldsList-from_rest _ between)) c.loop.invariant.0).0

pub returns-clause-pairs : goal.returns-clause-pairs
returns-clause-pairs g c =
    let fits : SFits w64 c.args.start = c.ranges.start in
    let between = simp to_z-of_z at (c.range.ensures.between tt) in
    let all : c.loop.counter ≡ c.count-before.result = omega (arith, c.loop.auto.counter-end, c.loop-test.false) in
    (forgotten c.args.start c.self.inside.kept.entries c.loop.self-inside.kept.entries c.loop.counter c.self.invariant
    (all ∙ count_from_yields_List c.range.result c.count-before.result c.count-before.ensures.ran (YieldsList-from_rest _ between)) c.loop.invariant.0).1
    ∙ ap (λ m. retain_keys m (is_from c.args.start)) c.self.view_is

pub returns-clause-floor : goal.returns-clause-floor
returns-clause-floor g c =
    let fits : SFits w64 c.args.start = c.ranges.start in
    let floor : SFits w64 c.args.floor = c.ranges.floor in
    let between = simp to_z-of_z at (c.range.ensures.between tt) in
    let all : c.loop.counter ≡ c.count-before.result = omega (arith, c.loop.auto.counter-end, c.loop-test.false) in
    all_off c.args.start c.args.floor _ c.self.inside.kept.entries c.loop.self-inside.kept.entries c.args.self.now c.loop.counter c.self.invariant c.self.view_is
    (all ∙ count_from_yields_List c.range.result c.count-before.result c.count-before.ensures.ran (YieldsList-from_rest _ between)) c.loop.invariant.0 (simp to_z-of_z at c.loop.invariant.1)
