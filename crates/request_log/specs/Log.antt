-- The entries of a server's log, and their lines.
use Rattle.std.specs.Prelude.{◌≡◌, ◌⊎◌, ◌+◌, ◌-◌, ◌^◌, ℕ, Bool, min, decimal, codes, nat_lt, if◌then◌else◌, List, []}
use Rattle.std.specs.Prelude.{◌∷◌, ◌++◌, map, Option, Some, None, Result, Ok, Err}
use Rattle.std.specs.Io.KnownBytes.{Appends}
use Rattle.std.specs.declared.net.socket_addr.SocketAddr.{SocketAddr}
use Rattle.krb_fields.specs.declared.moment.Moment.{Moment}
use Rattle.kdc_core.specs.Audit.{AuditRecord}
use Rattle.kdc_core.specs.declared.audit.AuditRecord.TheVariants.{NoRequest as NothingAsked}
use Rattle.kdc_hub.specs.declared.event.Action.{Action}
use Rattle.kdc_hub.specs.declared.event.Action.TheVariants.{SendTo, Pass, Write, Close}
use Rattle.kdc_hub.specs.declared.event.CloseReason.{CloseReason}
use Rattle.kdc_hub.specs.declared.event.CloseReason.TheVariants.{NoRequest, BadLength, Full, OutOfMemory}
use Rattle.kdc_hub.specs.declared.event.Event.{Event}
use Rattle.kdc_hub.specs.declared.event.Event.TheVariants.{Datagram, Opened, Bytes, Closed}
use Rattle.kdc_hub.specs.declared.wires.WireCall.{WireCall}
use Rattle.kdc_hub.specs.declared.wires.WireCall.TheVariants.{Polled, Waited, Missed, Acted, Failed}
use Rattle.request_log.specs.Entry.{LogEntry, entry_fields}
use Rattle.request_log.specs.Field.{Field}
use Rattle.request_log.specs.Lines.{json_line, text_line}
use Rattle.request_log.specs.declared.asker.Asker.{Asker}
use Rattle.request_log.specs.declared.asker.Transport.TheVariants.{Udp, Tcp}
use Rattle.request_log.specs.declared.logging.Arrival.{Arrival}
use Rattle.request_log.specs.declared.request_lines.LogFormat.{LogFormat}
use Rattle.request_log.specs.declared.request_lines.LogFormat.TheVariants.{Text, Json}
use Rattle.request_log.specs.declared.request_lines.RequestLines.{RequestLines}

-- ---- the entries for an action

-- when the last event came, after something that a Wire did
abbrev pub moment_after : Moment → WireCall → Moment
moment_after at (Polled came event) = came
moment_after at (Waited now) = at
moment_after at Missed = at
moment_after at (Acted action) = at
moment_after at (Failed action) = at

-- the address that the connection of an event came from, if it is known
abbrev pub source_of : (ℕ → Option SocketAddr) → Event → Option SocketAddr
source_of peer_of (Datagram peer request) = None
source_of peer_of (Opened conn) = peer_of conn
source_of peer_of (Bytes conn piece) = peer_of conn
source_of peer_of (Closed conn) = peer_of conn

-- the last event, after something that a Wire did
abbrev pub arrival_after : (ℕ → Option SocketAddr) → Arrival → WireCall → Arrival
arrival_after peer_of came (Polled at event) = record { at = at; source = source_of peer_of event }
arrival_after peer_of came (Waited at) = came
arrival_after peer_of came Missed = came
arrival_after peer_of came (Acted action) = came
arrival_after peer_of came (Failed action) = came

-- what an action that answers says of the request; a length that is too large is no request
abbrev pub reports : Option AuditRecord → List (Option AuditRecord)
reports (Some audit) = Some audit ∷ []
reports None = []

abbrev pub closing_reports : CloseReason → List (Option AuditRecord)
closing_reports NoRequest = Some NothingAsked ∷ []
closing_reports BadLength = Some NothingAsked ∷ []
closing_reports Full = []
closing_reports OutOfMemory = None ∷ []

abbrev pub reported : Action → List (Option AuditRecord)
reported (SendTo peer reply) = reports reply.audit
reported (Pass peer) = Some NothingAsked ∷ []
reported (Write conn reply) = reports reply.audit
reported (Close conn reason) = closing_reports reason

-- who sent the request that an action answers, by the address that the connection of its event came from
abbrev pub asker_of : Option SocketAddr → Action → Asker
asker_of source (SendTo peer reply) = record { transport = Udp; peer = Some peer.address }
asker_of source (Pass peer) = record { transport = Udp; peer = Some peer.address }
asker_of source (Write conn reply) = record { transport = Tcp; peer = source }
asker_of source (Close conn reason) = record { transport = Tcp; peer = source }

-- one entry for each
abbrev pub entries_by : Moment → Asker → Bool → List (Option AuditRecord) → List LogEntry
entries_by at asker is_sent audits =
    map (λ audit. record { at = at; asker = asker; audit = audit; is_sent = is_sent }) audits

-- an action has one entry for the request that it answers, if it answers one
abbrev pub entries_of : Arrival → Action → Bool → List LogEntry
entries_of came action is_sent = entries_by came.at (asker_of came.source action) is_sent (reported action)

-- entries written one after another
abbrev pub LogsAll : {L : Type 0} → (L → LogEntry → L → Type 0) → L → List LogEntry → L → Type 0
LogsAll {L} Logs log [] new = new ≡ log
LogsAll {L} Logs log (entry ∷ entries) new = (middle : L) × Logs log entry middle × LogsAll Logs middle entries new

-- an entry, where there is a log
abbrev pub LogsIf : {L : Type 0} → (L → LogEntry → L → Type 0) → Option L → LogEntry → Option L → Type 0
LogsIf Logs None entry new = new ≡ None
LogsIf {L} Logs (Some log) entry new = (later : L) × (new ≡ Some later) × Logs log entry later

-- ---- the line of an entry

abbrev pub written : LogFormat → List Field → List ℕ
written Text fields = text_line fields
written Json fields = json_line fields

abbrev pub entry_line : LogFormat → LogEntry → List ℕ
entry_line format entry = written format (entry_fields entry)

-- ---- lines that are lost

-- what is written in front of a line: how many were lost before it, if any were
abbrev pub lost_text : ℕ → List ℕ
lost_text n = if nat_lt 0 n then codes "kdcd: log: " ++ decimal n ++ codes " lines are lost\n" else []

module _ {W : Type 0} (contents : W → Option (List ℕ)) (log : RequestLines W) (new : RequestLines W) where
  -- the line stands behind what was written before
  pub record WritesLine (line : List ℕ) : Type 0 where
    pub appends : Appends (contents log.lines) (contents new.lines) (lost_text log.unreported ++ line)
    pub format : new.format ≡ log.format
    pub lost : new.lost ≡ log.lost
    pub unreported : new.unreported ≡ 0

  -- the line is counted as lost. That others were lost may still be reported
  pub record LosesLine : Type 0 where
    pub format : new.format ≡ log.format
    pub lost : new.lost ≡ min (log.lost + 1) (2 ^ 64 - 1)
    pub unreported : (new.unreported ≡ min (log.unreported + 1) (2 ^ 64 - 1)) ⊎ (new.unreported ≡ 1)

  -- it is reported how many lines were lost, if any were
  pub record ReportsLost : Type 0 where
    pub appends : Appends (contents log.lines) (contents new.lines) (lost_text log.unreported)
    pub format : new.format ≡ log.format
    pub lost : new.lost ≡ log.lost
    pub unreported : new.unreported ≡ 0

  -- the line was not written. That others were lost may have been reported
  pub record FailsLine : Type 0 where
    pub format : new.format ≡ log.format
    pub lost : new.lost ≡ log.lost
    pub unreported : (new.unreported ≡ log.unreported) ⊎ (new.unreported ≡ 0)

  abbrev pub TriesLost : {T E : Type 0} → Result T E → Type 0
  TriesLost (Ok done) = ReportsLost
  TriesLost (Err error) = FailsLine

  abbrev pub TriesLine : {T E : Type 0} → List ℕ → Result T E → Type 0
  TriesLine line (Ok done) = WritesLine line
  TriesLine line (Err error) = FailsLine

-- the line of the entry is written, or counted as lost
abbrev pub LogsLine : {W : Type 0} → (W → Option (List ℕ)) → RequestLines W → LogEntry → RequestLines W → Type 0
LogsLine contents log entry new =
    WritesLine contents log new (entry_line log.format entry) ⊎ LosesLine contents log new
