use Rattle.std.proofs.Common.{◌≡◌, ◌++◌, length}
use Rattle.std.specs.List.{flat_map}
use Rattle.kdc_metrics.specs.CountText.{tgs_sample}
use Rattle.kdc_metrics.proofs.count_text.push_tgs_rules.Given as goal

-- what was appended, with what is still to be appended, is all
abbrev pub invariant-loop-rest : goal.invariant-loop-rest
invariant-loop-rest l =
    l.text.items ++ flat_map (tgs_sample l.fn.counts) l.rest
    ≡ l.fn.text.items ++ flat_map (tgs_sample l.fn.counts) l.fn.rules

abbrev pub decreases-loop-rest : goal.decreases-loop-rest
decreases-loop-rest l = length l.rest
