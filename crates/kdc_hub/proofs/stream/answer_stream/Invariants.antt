use Rattle.std.proofs.Common.{length}
use Rattle.framing.specs.Splitting.{handed_out}
use Rattle.kdc_hub.specs.Issuing.{issuing}
use Rattle.kdc_hub.proofs.Streams.{IsOnTheWay}
use Rattle.kdc_hub.proofs.stream.answer_stream.Given as goal

abbrev pub invariant-loop-request : goal.invariant-loop-request
invariant-loop-request g l = IsOnTheWay l.at l.conn (issuing g.R.Rng.stream l.fn.seeded_kdc) l.fn.stream l.actions.items (issuing g.R.Rng.stream l.seeded_kdc) l.stream

abbrev pub decreases-loop-request : goal.decreases-loop-request
decreases-loop-request g l = length (handed_out l.stream).messages
