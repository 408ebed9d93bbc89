-- The text of a server's numbers.
use Rattle.std.specs.Prelude.{ℕ, List, ◌++◌, codes}
use Rattle.kdc_state.specs.declared.sizes.CacheSizes.{CacheSizes}
use Rattle.kdc_metrics.specs.Prometheus.{head, sample, single}
use Rattle.kdc_metrics.specs.CountText.{counts_text}
use Rattle.kdc_metrics.specs.declared.counts.Counts.{Counts}
use Rattle.kdc_metrics.specs.declared.prometheus.NumberType.TheVariants.{Counter, Gauge}
use Rattle.kdc_metrics.specs.declared.numbers.Numbers.{Numbers}

abbrev pub version_sample : List ℕ → List ℕ
version_sample version = codes "kdcd_info{version=\"" ++ version ++ codes "\"} 1\n"

abbrev pub version_text : List ℕ → List ℕ
version_text version = head (codes "kdcd_info") Gauge (codes "The version of the server.") ++ version_sample version

abbrev pub start_text : Numbers → List ℕ
start_text n =
    single (codes "kdcd_start_time_seconds") Gauge (codes "When the server started, in seconds since 1970.") n.started
    ++ single (codes "kdcd_refused_until_seconds") Gauge
    (codes "Until when all TGS-REQs are refused after the start, in seconds since 1970, or 0.") n.refused_until

abbrev pub served_text : Numbers → List ℕ
served_text n =
    single (codes "kdcd_events_total") Counter
    (codes "Datagrams, new connections, pieces of what comes on them, and their ends.") n.events
    ++ single (codes "kdcd_faults_total") Counter
    (codes "Calls of the sockets that failed, and replies that were withheld.") n.faults
    ++ single (codes "kdcd_memory_faults_total") Counter (codes "Events that ran out of memory.") n.memory_faults
    ++ single (codes "kdcd_log_lost_lines_total") Counter
    (codes "Lines of the log that could not be written.") n.lost_lines

abbrev pub database_text : Numbers → List ℕ
database_text n =
    single (codes "kdcd_database_rows") Gauge (codes "Rows that are served.") n.rows
    ++ single (codes "kdcd_database_taken_seconds") Gauge
    (codes "When these rows were taken, in seconds since 1970.") n.rows_taken
    ++ single (codes "kdcd_database_behind") Gauge
    (codes "1 if there is a newer database that is refused or could not be read, otherwise 0.") n.rows_behind

abbrev pub caches_text : CacheSizes → List ℕ
caches_text n =
    single (codes "kdcd_replay_clients") Gauge (codes "Clients with a replay cache.") n.clients
    ++ single (codes "kdcd_replay_authenticators") Gauge (codes "Authenticators in the replay caches.") n.authenticators
    ++ single (codes "kdcd_replay_kept_bytes") Gauge
    (codes "Bytes of the requests and replies that are kept with them.") n.kept_bytes

abbrev pub withheld_text : Numbers → List ℕ
withheld_text n =
    head (codes "kdcd_withheld_total") Counter (codes "Replies that were withheld, and why.")
    ++ sample (codes "kdcd_withheld_total") (codes "{for=\"journal\"}") n.withheld_by_journal
    ++ sample (codes "kdcd_withheld_total") (codes "{for=\"quiet-start\"}") n.withheld_by_quiet_start

abbrev pub journal_text : Numbers → List ℕ
journal_text n =
    single (codes "kdcd_journal_bytes") Gauge (codes "Bytes of the journal's two files.") n.journal_bytes
    ++ withheld_text n

abbrev pub numbers_text : List ℕ → Numbers → Counts → List ℕ
numbers_text version n counts =
    version_text version
    ++ (start_text n ++ (served_text n
    ++ (database_text n ++ (caches_text n.caches ++ (journal_text n ++ counts_text counts)))))
