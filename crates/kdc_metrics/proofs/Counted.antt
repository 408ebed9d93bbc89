-- The counts of a log's entries stay those of its record.
use Rattle.std.proofs.Common.{List, [], ◌∷◌, ◌++◌, map, Option, Some, None, sym, ap, subst, ◌∙◌}
use Rattle.std.specs.Prelude.{IfSome}
use Rattle.std.proofs.lemmas.List.{map-append}
use Rattle.kdc_hub.specs.Wire.{Records}
use Rattle.kdc_metrics.specs.Counts.{AreCountsOf, Asked}
use Rattle.kdc_metrics.specs.declared.counts.Counts.{Counts}
use Rattle.request_log.specs.Entry.{LogEntry}
use Rattle.kdc_metrics.specs.Counts.{asked_by}
use Rattle.kdc_files.specs.Recorded.{IsNew}

module _ (counts : Counts) where
  pub none_counted : (log : Option (List LogEntry)) → IsNew log → AreCountsOf counts [] → IfSome log (λ entries. AreCountsOf counts (map asked_by entries))
  none_counted None new are = tt
  none_counted (Some entries) new are = subst (λ es. AreCountsOf counts (map asked_by es)) (sym new) are

module _ (old new : Counts) (entry : LogEntry) (more : (asked : List Asked) → AreCountsOf old asked → AreCountsOf new (asked ++ asked_by entry ∷ [])) where
  pub one_counted : (log log_new : Option (List LogEntry)) → Records log (entry ∷ []) log_new
      → IfSome log (λ entries. AreCountsOf old (map asked_by entries)) → IfSome log_new (λ entries. AreCountsOf new (map asked_by entries))
  one_counted log None records are = tt
  one_counted None (Some later) records are = absurd records
  one_counted (Some entries) (Some later) records are =
      subst (AreCountsOf new) (sym (ap (map asked_by) records ∙ map-append asked_by entries (entry ∷ []))) (more (map asked_by entries) are)
