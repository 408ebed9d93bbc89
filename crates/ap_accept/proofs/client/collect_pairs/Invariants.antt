use Rattle.std.proofs.Common.{drop}
use Rattle.ap_accept.proofs.Listed.{Listing}
use Rattle.ap_accept.proofs.client.collect_pairs.Given as goal

abbrev pub invariant-loop-stamp : goal.invariant-loop-stamp
invariant-loop-stamp l = Listing l.pairs (drop l.stamp-index l.stamps) l.stamps
