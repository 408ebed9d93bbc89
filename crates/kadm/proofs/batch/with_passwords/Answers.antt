use Rattle.std.proofs.Common.{◌≡◌, ◌∙◌, ◌∷◌, ap, arith, length, refl, sym}
use Rattle.std.specs.Vec.Iter.{into_iter_items}
use Rattle.kadm.proofs.InputLines.{all_moved, moved_on, nothing_left}
use Rattle.kadm.proofs.Reading.{line_added}
use Rattle.kadm.proofs.batch.with_passwords.Goals as goal

pub loop-line-preserved : goal.loop-line-preserved
loop-line-preserved g c =
    let at = c.loop-line in
    let steps : into_iter_items at.line-iterator ≡ c.in-Some.line ∷ into_iter_items c.next.new.self = c.in-Some.ensures.steps.0 in
    let pushed = c.in_ok-push.ensures.items in (
      c.in_ok-password.ensures.unchanged ∙ at.invariant.0,
      line_added _ _ at.all.items _ _ at.invariant.0 at.invariant.1 c.in_ok-password.ensures.found pushed,
      moved_on _ at.all.items _ _ _ c.in-Some.line _ at.invariant.2 steps pushed refl,
      let was = at.invariant.3 in
          let gone = c.in-Some.ensures.steps.1 in
          let short = ap length steps in
          omega arith,
    )

pub returns-clause-same : goal.returns-clause-same
returns-clause-same g c =
    let at = c.loop-line in
    let none = c.in-None.ensures.steps in
    all_moved _ at.all.items _ at.invariant.2 (nothing_left (into_iter_items at.line-iterator) (sym at.invariant.3 ∙ none.0))
