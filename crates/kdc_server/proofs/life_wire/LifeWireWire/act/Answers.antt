use Rattle.std.proofs.Math.Logic.{∥∥₁_map}
use Rattle.kdc_hub.specs.Wire.{acted}
use Rattle.kdc_files.specs.Journal.{is_kept}
use Rattle.kdc_server.specs.Quiet.{quiet_withholds}
use Rattle.kdc_server.proofs.Asked.{acts_ask, asked_more}
use Rattle.kdc_server.proofs.life_wire.LifeWireWire.act.Goals as goal

pub invariant_of-self : goal.invariant_of-self
invariant_of-self g c =
    let old = c.args.self.now in
    let state = g.H.Journal.JournalWriter.state in
    let new = c.act.new.self in
    let action = c.args.action.now in
    record {
      asked = ∥∥₁_map old.asked
          (asked_more (acted action c.act.result) g.B.Begun.journal (state old.wire.journal) (state new.journal) (g.H.Tally.Tally.recorded old.wire.tally) (g.H.Tally.Tally.recorded new.tally)
          c.act.ensures.records
          (acts_ask action c.act.result (is_kept g.H.Journal.JournalWriter.is_whole new.journal action) (quiet_withholds old.wire.quiet_until old.wire.came.at action) (state old.wire.journal) (state new.journal)
          c.act.ensures.asked (λ no. (c.act.ensures.withheld no).1)));
    }
