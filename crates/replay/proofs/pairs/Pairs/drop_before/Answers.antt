use Rattle.std.proofs.Common.{rules, pos, ◌+ℤ◌, ◌∙◌, SFits, w64}
use Rattle.std.proofs.lemmas.Int.{to_z-of_z}
use Rattle.replay.proofs.Emptied.{all_gone, is_before, nothing_there}
use Rattle.replay.proofs.pairs.Pairs.drop_before.Goals as goal

pub returns-in_default-clause-pairs : goal.returns-in_default-clause-pairs
returns-in_default-clause-pairs g c =
    (nothing_there c.args.start c.args.floor c.self.inside.kept.entries c.args.self.now c.self.invariant c.self.view_is c.in_default.ensures.variant.1).0

pub returns-in_default-clause-floor : goal.returns-in_default-clause-floor
returns-in_default-clause-floor g c =
    let floor : SFits w64 c.args.floor = c.ranges.floor in
    simp to_z-of_z ((nothing_there c.args.start c.args.floor c.self.inside.kept.entries c.args.self.now c.self.invariant c.self.view_is c.in_default.ensures.variant.1).1)

pub returns-clause-pairs : goal.returns-clause-pairs
returns-clause-pairs g c =
    let start : SFits w64 c.args.start = c.ranges.start in
    let last : SFits w64 c.in-Some.field-0-0.now.0 = search rules in
    let old = is_before c.in-Some.field-0-0.now.0 c.args.start (simp to_z-of_z at c.if-last-start.false) in
    (all_gone c.args.start c.args.floor c.in-Some.field-0-0.now old c.in-Some.field-0-1.now c.self.inside.kept.entries c.set_aside.new.kept.entries c.args.self.now c.self.invariant c.self.view_is
    c.in-Some.ensures.value c.in-Some.ensures.all_up_to c.set_aside.ensures).0

pub returns-clause-floor : goal.returns-clause-floor
returns-clause-floor g c =
    let start : SFits w64 c.args.start = c.ranges.start in
    let floor : SFits w64 c.args.floor = c.ranges.floor in
    let last : SFits w64 c.in-Some.field-0-0.now.0 = search rules in
    let next : SFits w64 (c.in-Some.field-0-0.now.0 +ℤ pos 1) = search rules in
    let above : SFits w64 c.max-above.result = search rules in
    let old = is_before c.in-Some.field-0-0.now.0 c.args.start (simp to_z-of_z at c.if-last-start.false) in
    simp to_z-of_z ((simp to_z-of_z at c.max-above.ensures.value)
    ∙ (all_gone c.args.start c.args.floor c.in-Some.field-0-0.now old c.in-Some.field-0-1.now c.self.inside.kept.entries c.set_aside.new.kept.entries c.args.self.now c.self.invariant c.self.view_is
    c.in-Some.ensures.value c.in-Some.ensures.all_up_to c.set_aside.ensures).1)
