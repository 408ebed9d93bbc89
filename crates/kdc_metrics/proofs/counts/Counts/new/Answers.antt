use Rattle.std.proofs.Common.{refl}
use Rattle.kdc_metrics.specs.Places.{kind_count}
use Rattle.kdc_metrics.proofs.Counting.{none_counted}
use Rattle.kdc_metrics.proofs.counts.Counts.new.Goals as goal

pub returns : goal.returns
returns c = none_counted _ kind_count 4 refl refl
