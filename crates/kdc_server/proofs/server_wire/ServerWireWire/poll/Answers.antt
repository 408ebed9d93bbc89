use Rattle.std.proofs.Math.Logic.{∥∥₁_map}
use Rattle.std.proofs.Common.{◌∙◌, ap}
use Rattle.kdc_hub.specs.Wire.{polled}
use Rattle.kdc_server.proofs.Serving.{arrived_at, by_poll}
use Rattle.kdc_server.proofs.server_wire.ServerWireWire.poll.Goals as goal

pub invariant_of-self : goal.invariant_of-self
invariant_of-self g c =
    let old = c.args.self.now in
    let polled_now = c.poll-polled.result in
    record {
      served = ∥∥₁_map old.served
          (by_poll polled_now (g.H.Tally.Tally.recorded old.tally) (g.H.Tally.Tally.recorded c.add_poll.new.self)
          (g.H.Sockets.Wire.recorded old.sockets) (g.H.Sockets.Wire.recorded c.poll-polled.new.self)
          (g.H.Journal.JournalWriter.handed old.journal) (g.H.Log.LogWriter.logged old.log) old.came.at c.arrival_after-self.result.at
          c.add_poll.ensures.records c.poll-polled.ensures.records
          (ap (λ came. came.at) c.arrival_after-self.ensures ∙ arrived_at (g.H.Sockets.Peers.peer_of c.poll-polled.new.self) old.came (polled polled_now)));
    }
