-- The record of a log that may be absent grows by each entry, if that of the log does.
use Rattle.std.proofs.Common.{List, [], ◌∷◌, Option, Some, None, sym, subst}
use Rattle.kdc_hub.specs.Wire.{Records}
use Rattle.request_log.specs.Entry.{LogEntry}
use Rattle.request_log.specs.Log.{LogsIf}
use Rattle.kdc_files.specs.Recorded.{record_of}

pub log_if_records : {L : Type 0} (logged : L → Option (List LogEntry)) (Logs : L → LogEntry → L → Type 0)
    → ((log : L) (entry : LogEntry) (new : L) → Logs log entry new → Records (logged log) (entry ∷ []) (logged new))
    → (log : Option L) (entry : LogEntry) (new : Option L) → LogsIf Logs log entry new → Records (record_of logged log) (entry ∷ []) (record_of logged new)
log_if_records logged Logs grows None entry new is = subst (λ n. Records None (entry ∷ []) (record_of logged n)) (sym is) tt
log_if_records logged Logs grows (Some log) entry new (later, is, logs) =
    subst (λ n. Records (logged log) (entry ∷ []) (record_of logged n)) (sym is) (grows log entry later logs)
