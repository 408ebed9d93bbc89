use Rattle.std.proofs.Common.{rules, true, false, subst, ◌≤◌, pos, ◌-ℤ◌, arith, sym, ◌∙◌, SFits, w64}
use Rattle.std.proofs.lemmas.Int.{to_z-of_z, ints}
use Rattle.krb_fields.specs.Skew.{skew}
use Rattle.replay.proofs.Verdicts.{judged}
use Rattle.replay.proofs.cache.ReplayCache.check.Goals as goal

pub returns-then-has_from-clause-verdict : goal.returns-then-has_from-clause-verdict
returns-then-has_from-clause-verdict g c =
    let floor : SFits w64 c.args.self.now.floor = search rules in
    let ctime : SFits w64 c.args.ctime = search rules in
    let now : SFits w64 c.args.at.sec = search rules in
    let start : SFits w64 (c.args.at.sec -ℤ pos skew) = omega (arith, ints) in
    let raised : SFits w64 c.max.result = search rules in
    judged c.args.self.now c.args.at.sec c.args.ctime c.max.result c.args.cusec c.args.limit c.abs_diff.result true
    (simp to_z-of_z at c.abs_diff.ensures) (subst (λ n. c.abs_diff.result ≤ n) c.unsigned_abs.ensures.value c.if-abs_diff-unsigned_abs.false) (simp to_z-of_z at c.if-ctime-self.false) (simp to_z-of_z at c.in_default.ensures) (simp to_z-of_z at c.max.ensures.value) (sym c.if-has_from.true ∙ simp to_z-of_z at c.has_from.ensures)

pub returns-clause-verdict : goal.returns-clause-verdict
returns-clause-verdict g c =
    let floor : SFits w64 c.args.self.now.floor = search rules in
    let ctime : SFits w64 c.args.ctime = search rules in
    let now : SFits w64 c.args.at.sec = search rules in
    let start : SFits w64 (c.args.at.sec -ℤ pos skew) = omega (arith, ints) in
    let raised : SFits w64 c.max.result = search rules in
    judged c.args.self.now c.args.at.sec c.args.ctime c.max.result c.args.cusec c.args.limit c.abs_diff.result false
    (simp to_z-of_z at c.abs_diff.ensures) (subst (λ n. c.abs_diff.result ≤ n) c.unsigned_abs.ensures.value c.if-abs_diff-unsigned_abs.false) (simp to_z-of_z at c.if-ctime-self.false) (simp to_z-of_z at c.in_default.ensures) (simp to_z-of_z at c.max.ensures.value) (sym c.if-has_from.false ∙ simp to_z-of_z at c.has_from.ensures)
