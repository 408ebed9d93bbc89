use Rattle.std.proofs.Common.{◌<◌, length, sym, ◌∙◌}
use Rattle.std.proofs.lemmas.Result.{err_from_is_err_and}
use Rattle.std.proofs.lemmas.Bool.{eqb-true}
use Rattle.krb_elements.specs.Format.{items_of}
use Rattle.krb_elements.proofs.Loop.{goes_on, fails, is_done, is_some}
use Rattle.krb_elements.proofs.owned_lists.read_items.Goals as goal

pub returns-in_err-item : goal.returns-in_err-item
returns-in_err-item g c =
    let p = err_from_is_err_and c.from_residual.result c.from_residual.ensures.1 in
    rw (p.1, p.2)
    (fails g.T.Coded.codec.at c.loop-rest.items c.loop-rest.rest (items_of g.T.Coded.codec.at c.args.contents.now)
    c.in_err-item.field-0.0 (is_some c.loop-rest.rest (sym c.is_empty.ensures ∙ c.loop-rest-test.true))
    c.in_err-item.ensures c.loop-rest.invariant)

pub loop-rest-preserved : goal.loop-rest-preserved
loop-rest-preserved g c =
    let after : length c.take_parts.new.reader < length c.loop-rest.rest =
    g.T.Coded.codec.laws.element.shorter c.loop-rest.rest c.in_ok-item.item c.take_parts.new.reader c.in_ok-item.ensures in
    rw c.in_ok-push.ensures.ok
    (goes_on g.T.Coded.codec.at c.loop-rest.items c.loop-rest.rest (items_of g.T.Coded.codec.at c.args.contents.now)
    c.in_ok-item.item c.take_parts.new.reader
    (is_some c.loop-rest.rest (sym c.is_empty.ensures ∙ c.loop-rest-test.true)) after c.in_ok-item.ensures
    c.loop-rest.invariant)

pub returns : goal.returns
returns g c =
    is_done g.T.Coded.codec.at c.loop-rest.items c.loop-rest.rest (items_of g.T.Coded.codec.at c.args.contents.now)
    (eqb-true _ _ (sym c.is_empty.ensures ∙ c.loop-rest-test.false)) c.loop-rest.invariant
