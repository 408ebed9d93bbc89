use Rattle.std.proofs.Common.{rules, ◌≡◌, ◌∙◌, [], Some, ap, arith, drop, drop_of_length-le, subst, sym}
use Rattle.std.specs.FinMap.{get}
use Rattle.kadm_changes.specs.Granting.{IsOlderDropped, older_numbers}
use Rattle.kadm_changes.proofs.Older.{dropped, older_dropped}
use Rattle.kadm_changes.proofs.granting.drop_older.Goals as goal

pub returns : goal.returns
returns c =
    let who = c.args.who.now.components in
    let found : get c.args.draft.now.database.rows who ≡ Some c.in-Some.row.now = search rules in
    let none : drop c.loop-number.number-index c.deref-number-items.result.now ≡ [] =
    drop_of_length-le c.deref-number-items.result.now (omega (arith, c.loop-number-test.false)) in
    let all =
    sym (ap (λ left. dropped who left c.loop-number.draft.database) none) ∙ c.loop-number.invariant
    ∙ ap (λ left. dropped who left c.args.draft.now.database) c.deref-number-items.ensures.value in
    let same : c.in_ok-numbers.numbers.items ≡ older_numbers c.as_slice.result.now = c.in_ok-numbers.ensures in
    let numbers = same ∙ ap older_numbers c.as_slice.ensures.versions in
    subst (IsOlderDropped who c.args.draft.now.database) (sym (all ∙ ap (λ numbers. dropped who numbers c.args.draft.now.database) numbers)) (older_dropped who c.args.draft.now.database c.in-Some.row.now found c.in-Some.ensures.valid)
