use Rattle.std.proofs.Common.{List, ◌++◌, ◌∷◌, [], subst}
use Rattle.std.proofs.Math.Logic.{∥∥₁_map}
use Rattle.kdc_metrics.specs.Counts.{AreCountsOf, Asked}
use Rattle.kdc_metrics.specs.Counts.{asked_by}
use Rattle.kdc_metrics.proofs.Counted.{one_counted}
use Rattle.kdc_metrics.proofs.counted_log.CountedLogLogWriter.write_entry.Goals as goal

pub invariant_of-self : goal.invariant_of-self
invariant_of-self g c =
    let old = c.args.self.now in
    let entry = c.args.entry.now in
    let more : (asked : List Asked) → AreCountsOf old.counts asked → AreCountsOf c.count.new.self (asked ++ asked_by entry ∷ [])
    = subst (λ e. (asked : List Asked) → AreCountsOf old.counts asked → AreCountsOf c.count.new.self (asked ++ asked_by e ∷ [])) c.entry.view_is c.count.ensures.all in
    record {
      counted = ∥∥₁_map old.counted
          (one_counted old.counts c.count.new.self entry more (g.L.LogWriter.logged old.log) (g.L.LogWriter.logged c.write_entry.new.self)
          (g.met.L.LogWriter.records old.log entry c.write_entry.new.self c.write_entry.ensures));
    }
