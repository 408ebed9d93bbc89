use Rattle.std.proofs.Common.{◌-◌, ◌+◌, suc, ◌≡◌, arith}
use Rattle.std.proofs.lemmas.Result.{err_from_is_err_and}
use Rattle.cred_files.specs.Form.{several}
use Rattle.cred_files.proofs.Loops.{fails, goes_on, is_done}
use Rattle.ap_accept.proofs.saved.take_several.Goals as goal

pub returns-in_err-value : goal.returns-in_err-value
returns-in_err-value g c =
    let at = g.T.Saved.at in
    let p = err_from_is_err_and c.from_residual.result c.from_residual.ensures.1 in
    let more : c.args.count - c.loop.counter ≡ suc (c.args.count - (c.loop.counter + 1)) = omega (arith, c.loop-test.true) in
    rw (p.1, p.2) (fails at c.loop.values.items (c.args.count - c.loop.counter) (c.args.count - (c.loop.counter + 1)) c.loop.reader (several at c.args.count c.args.reader.now) c.in_err-value.field-0.0 more c.in_err-value.ensures c.loop.invariant)

pub loop-preserved : goal.loop-preserved
loop-preserved g c =
    let at = g.T.Saved.at in
    let more : c.args.count - c.loop.counter ≡ suc (c.args.count - (c.loop.counter + 1)) = omega (arith, c.loop-test.true) in
    rw c.in_ok-push.ensures.items (goes_on at c.loop.values.items (c.args.count - c.loop.counter) (c.args.count - (c.loop.counter + 1)) c.loop.reader (several at c.args.count c.args.reader.now) c.in_ok-value.value c.take.new.reader more c.in_ok-value.ensures c.loop.invariant)

pub returns : goal.returns
returns g c =
    let at = g.T.Saved.at in
    is_done at c.loop.values.items (c.args.count - c.loop.counter) c.loop.reader (several at c.args.count c.args.reader.now) (omega (arith, c.loop-test.false)) c.loop.invariant
