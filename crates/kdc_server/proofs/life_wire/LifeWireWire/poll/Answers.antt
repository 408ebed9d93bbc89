use Rattle.std.proofs.Math.Logic.{∥∥₁_map}
use Rattle.std.proofs.Common.{ap}
use Rattle.kdc_hub.specs.Wire.{polled}
use Rattle.kdc_server.proofs.Asked.{asked_more, polls_ask}
use Rattle.kdc_server.proofs.life_wire.LifeWireWire.poll.Goals as goal

pub invariant_of-self : goal.invariant_of-self
invariant_of-self g c =
    let old = c.args.self.now in
    let state = g.H.Journal.JournalWriter.state in
    let new = c.poll.new.self in
    record {
      asked = ∥∥₁_map old.asked
          (asked_more (polled c.poll.result) g.B.Begun.journal (state old.wire.journal) (state new.journal) (g.H.Tally.Tally.recorded old.wire.tally) (g.H.Tally.Tally.recorded new.tally)
          c.poll.ensures.records (polls_ask c.poll.result (state old.wire.journal) (state new.journal) (ap state c.poll.ensures.journal)));
    }
