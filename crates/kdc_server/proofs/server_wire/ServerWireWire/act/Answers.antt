use Rattle.std.proofs.Math.Logic.{∥∥₁_map}
use Rattle.std.proofs.Common.{subst}
use Rattle.kdc_files.specs.Keeping.{AsksFor}
use Rattle.kdc_hub.specs.Rounds.{action_connection}
use Rattle.request_log.specs.Log.{entries_of}
use Rattle.kdc_server.proofs.Serving.{by_act, ends_record, logs_all}
use Rattle.kdc_server.proofs.server_wire.ServerWireWire.act.Goals as goal

pub invariant_of-self : goal.invariant_of-self
invariant_of-self g c =
    let old = c.args.self.now in
    let handed = g.H.Journal.JournalWriter.handed in
    let logged = g.H.Log.LogWriter.logged in
    record {
      served = ∥∥₁_map old.served (λ s.
          by_act c.args.action.now old.came (g.H.Tally.Tally.recorded old.tally) (g.H.Tally.Tally.recorded c.add_act.new.self) (g.H.Sockets.Wire.recorded old.sockets) (g.H.Sockets.Wire.recorded c.send-outcome.new.sockets)
          (handed old.journal) (handed c.keep_action-is_kept.new.journal) (logged old.log) (logged c.log_action.new.log) c.keep_action-is_kept.ensures.handed s
          c.send-outcome.result c.if-is_kept.send c.is_ok.result c.is_ok.ensures.value c.add_act.ensures.records c.send-outcome.ensures.sent
          (λ no. (ends_record g.H.Sockets.Wire.recorded g.H.Sockets.ServerSockets.HangsUp g.met.H.Sockets.ServerSockets.keeps_record old.sockets c.send-outcome.new.sockets (action_connection c.args.action.now) (c.send-outcome.ensures.withheld no).0, (c.send-outcome.ensures.withheld no).1))
          (logs_all logged g.H.Log.LogWriter.Logs g.met.H.Log.LogWriter.records old.log c.log_action.new.log (entries_of old.came c.args.action.now c.is_ok.result) c.log_action.ensures));
    }

pub returns-clause-asked : goal.returns-clause-asked
returns-clause-asked g c =
    subst (λ kept. AsksFor c.args.action.now kept (g.H.Journal.JournalWriter.state c.args.self.now.journal) (g.H.Journal.JournalWriter.state c.keep_action-is_kept.new.journal))
    c.keep_action-is_kept.ensures.kept c.keep_action-is_kept.ensures.asks
