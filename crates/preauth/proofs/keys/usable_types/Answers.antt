use Rattle.std.proofs.Common.{rules, sym, ap, ◌∙◌, SFits, w32}
use Rattle.std.proofs.lemmas.Int.{to_z-of_z}
use Rattle.preauth.specs.Keys.{is_new}
use Rattle.preauth.proofs.TypesOf.{begins, takes, passes_over, ends, at_most_four}
use Rattle.preauth.proofs.keys.usable_types.Goals as goal

pub loop-number-init : goal.loop-number-init
loop-number-init c = begins _ _ _ _ c.new-found.ensures.items (c.into_iter-number-iterator.ensures.into_iter_gives ∙ c.iter-number-items.ensures)

pub loop-number-preserved-in-Continue-1 : goal.loop-number-preserved-in-Continue-1
loop-number-preserved-in-Continue-1 c =
    let fits : SFits w32 c.in-Some.number = search rules in
    let tested = simp to_z-of_z at c.is_new.ensures in
    takes c.args.keys.now c.loop-number.found.items _ _ c.in-Some.number _ _ c.in-Some.ensures.steps
    (ap (λ f. is_new c.args.keys.now f c.in-Some.number) (sym c.deref.ensures.value) ∙ sym tested ∙ c.if-is_new.true)
    (simp to_z-of_z at c.in_ok-push.ensures.items) c.loop-number.invariant

pub loop-number-preserved : goal.loop-number-preserved
loop-number-preserved c =
    let fits : SFits w32 c.in-Some.number = search rules in
    let tested = simp to_z-of_z at c.is_new.ensures in
    passes_over c.args.keys.now c.loop-number.found.items _ c.in-Some.number _ _ c.in-Some.ensures.steps
    (ap (λ f. is_new c.args.keys.now f c.in-Some.number) (sym c.deref.ensures.value) ∙ sym tested ∙ c.if-is_new.false) c.loop-number.invariant

pub returns-clause-few : goal.returns-clause-few
returns-clause-few c = at_most_four c.args.keys.now _ c.args.types.now (ends c.args.keys.now _ _ _ c.in-None.ensures.steps.0 c.loop-number.invariant)
