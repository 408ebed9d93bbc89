use Rattle.kdc_metrics.proofs.Counted.{none_counted}
use Rattle.kdc_metrics.proofs.counted_log.CountedLog.new.Goals as goal

pub invariant_of-result : goal.invariant_of-result
invariant_of-result g c = record {
  counted = ∣ none_counted c.new.result (g.L.LogWriter.logged c.args.log) c.requires c.new.ensures ∣₁;
}
