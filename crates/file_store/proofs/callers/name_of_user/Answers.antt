use Rattle.std.proofs.Common.{◌∙◌, ◌<◌, arith, length, sym}
use Rattle.std.proofs.lemmas.Bool.Decides.{nat_tests}
use Rattle.file_store.proofs.UserNames.{named_first, named_later}
use Rattle.file_store.proofs.callers.name_of_user.Goals as goal

pub returns-then-is_line_of : goal.returns-then-is_line_of
returns-then-is_line_of c =
    let some : 0 < length c.loop-rest.rest.now = grind (arith, nat_tests) in
    named_first _ _ _ _ some c.first_line-line.ensures (sym c.is_line_of.ensures ∙ c.if-is_line_of.true) c.first_field.ensures
    ∙ c.loop-rest.invariant

pub loop-rest-preserved : goal.loop-rest-preserved
loop-rest-preserved c =
    let some : 0 < length c.loop-rest.rest.now = grind (arith, nat_tests) in
    named_later _ _ _ _ some c.first_line-line.ensures (sym c.is_line_of.ensures ∙ c.if-is_line_of.false) c.after_line-rest.ensures
    ∙ c.loop-rest.invariant
