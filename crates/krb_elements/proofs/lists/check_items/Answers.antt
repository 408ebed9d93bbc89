use Rattle.std.proofs.Common.{◌<◌, length, sym, ◌∙◌, ◌++◌, ◌∷◌, []}
use Rattle.std.proofs.lemmas.Result.{err_from_is_err_and}
use Rattle.std.proofs.lemmas.Bool.{eqb-true}
use Rattle.krb_elements.specs.Format.{items_of}
use Rattle.krb_elements.proofs.Loop.{goes_on, fails, is_done, is_some, is_ok_at, begins}
use Rattle.krb_elements.specs.declared.fault.Fault.TheVariants.{Der}
use Rattle.krb_elements.proofs.lists.check_items.Goals as goal

pub returns-in_err-_item-clause-err : goal.returns-in_err-_item-clause-err
returns-in_err-_item-clause-err g c =
    let p = err_from_is_err_and c.from_residual.result c.from_residual.ensures.1 in
    rw (p.1, p.2) (fails g.T.Coded.codec.at c.loop-rest.invariant.0 c.loop-rest.rest (items_of g.T.Coded.codec.at c.args.contents.now) (Der c.in_err-_item.field-0.0) (is_some c.loop-rest.rest (sym c.is_empty.ensures ∙ c.loop-rest-test.true)) c.in_err-_item.ensures c.loop-rest.invariant.1)

pub loop-rest-preserved : goal.loop-rest-preserved
loop-rest-preserved g c =
    let after : length c.look.new.reader < length c.loop-rest.rest = g.T.Coded.codec.laws.element.shorter c.loop-rest.rest c.in_ok-_item._item c.look.new.reader c.in_ok-_item.ensures in
    (c.loop-rest.invariant.0 ++ c.in_ok-_item._item ∷ [], goes_on g.T.Coded.codec.at c.loop-rest.invariant.0 c.loop-rest.rest (items_of g.T.Coded.codec.at c.args.contents.now) c.in_ok-_item._item c.look.new.reader (is_some c.loop-rest.rest (sym c.is_empty.ensures ∙ c.loop-rest-test.true)) after c.in_ok-_item.ensures c.loop-rest.invariant.1)

pub returns-clause-ok : goal.returns-clause-ok
returns-clause-ok g c = is_ok_at _ c.loop-rest.invariant.0 (is_done g.T.Coded.codec.at c.loop-rest.invariant.0 c.loop-rest.rest (items_of g.T.Coded.codec.at c.args.contents.now) (eqb-true _ _ (sym c.is_empty.ensures ∙ c.loop-rest-test.false)) c.loop-rest.invariant.1)

pub loop-rest-init : goal.loop-rest-init
loop-rest-init g c = rw c.new-rest.ensures ([], begins g.T.Coded.codec.at c.args.contents.now)
