use Rattle.std.proofs.Common.{◌+◌, arith}
use Rattle.ap_accept.proofs.Putting.{all_put, none_put, one_put}
use Rattle.ap_accept.proofs.saved.put_all.Goals as goal

pub loop-value-init : goal.loop-value-init
loop-value-init g c = none_put g.T.Saved.at c.args.values.now c.args.out.now.items

pub loop-value-preserved : goal.loop-value-preserved
loop-value-preserved g c =
    one_put g.T.Saved.at c.args.values.now c.loop-value.value-index (c.loop-value.value-index + 1) c.value-item.result c.args.out.now.items c.loop-value.out.items c.put.new.out.items (omega arith) c.value-item.is c.loop-value-test.true c.in_ok-put.ensures c.loop-value.invariant

pub returns : goal.returns
returns g c =
    all_put g.T.Saved.at c.args.values.now c.loop-value.value-index c.args.out.now.items c.loop-value.out.items (omega (arith, c.loop-value-test.false)) c.loop-value.invariant
