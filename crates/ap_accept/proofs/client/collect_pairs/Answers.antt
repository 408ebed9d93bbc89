use Rattle.std.proofs.Common.{◌+◌, arith}
use Rattle.ap_accept.proofs.Listed.{listing_from, listing_at, listing_done}
use Rattle.ap_accept.proofs.client.collect_pairs.Goals as goal

pub loop-stamp-init : goal.loop-stamp-init
loop-stamp-init c = listing_from c.new-pairs.result c.args.stamps.now c.new-pairs.ensures

pub loop-stamp-preserved : goal.loop-stamp-preserved
loop-stamp-preserved c =
    listing_at c.loop-stamp.pairs c.put_stamp.new.pairs c.args.stamps.now c.loop-stamp.stamp-index (c.loop-stamp.stamp-index + 1) _ (omega arith) c.loop-stamp-test.true c.in_ok-put_stamp.ensures c.loop-stamp.invariant

pub returns : goal.returns
returns c = listing_done c.loop-stamp.pairs c.args.stamps.now c.loop-stamp.stamp-index (omega (arith, c.loop-stamp-test.false)) c.loop-stamp.invariant
