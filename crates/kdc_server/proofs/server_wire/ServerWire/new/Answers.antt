use Rattle.kdc_server.proofs.Serving.{new_serves}
use Rattle.kdc_server.proofs.server_wire.ServerWire.new.Goals as goal

pub invariant_of-result : goal.invariant_of-result
invariant_of-result g c = record {
  served = ∣ new_serves (g.H.Tally.Tally.recorded c.args.tally) (g.H.Sockets.Wire.recorded c.args.sockets) (g.H.Journal.JournalWriter.handed c.args.journal)
      (g.H.Log.LogWriter.logged c.args.log) c.args.times.at c.requires.tally c.requires.sockets c.requires.journal c.requires.log ∣₁;
}
