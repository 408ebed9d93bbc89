-- What the sockets, the journal and the log of a server have recorded, by all that its tally has.
use Rattle.std.specs.Prelude.{◌≡◌, Bool, true, false, not, List, [], ◌∷◌, ◌++◌, map, Option, IfSome}
use Rattle.std.specs.List.{filter}
use Rattle.krb_fields.specs.declared.moment.Moment.{Moment}
use Rattle.kdc_core.specs.Audit.{AuditRecord}
use Rattle.kdc_hub.specs.declared.wires.WireCall.{WireCall}
use Rattle.kdc_hub.specs.declared.wires.WireCall.TheVariants.{Polled, Waited, Missed, Acted, Failed}
use Rattle.kdc_hub.specs.Wire.{is_fault}
use Rattle.kdc_files.specs.Journal.{Handed, handed_by}
use Rattle.request_log.specs.Entry.{LogEntry}
use Rattle.request_log.specs.Log.{moment_after, reported}

-- what comes of all that was polled and tried, one after the other, each with the moment of the last event before it
abbrev pub in_order : {X : Type 0} → (Moment → WireCall → List X) → Moment → List WireCall → List X
in_order each at [] = []
in_order each at (did ∷ others) = each at did ++ in_order each (moment_after at did) others

-- when the last event came
abbrev pub last_came : Moment → List WireCall → Moment
last_came at [] = at
last_came at (did ∷ others) = last_came (moment_after at did) others

-- what is handed to a journal: for an act that was withheld too, which has failed
abbrev pub handed_of : Moment → WireCall → List Handed
handed_of at (Polled came event) = []
handed_of at (Waited now) = []
handed_of at Missed = []
handed_of at (Acted action) = handed_by at action
handed_of at (Failed action) = handed_by at action

abbrev pub handed_in : Moment → List WireCall → List Handed
handed_in = in_order handed_of

-- an entry of the log, but for who asked
pub record Said : Type 0 where
  pub at : Moment
  pub audit : Option AuditRecord
  pub is_sent : Bool

abbrev pub said : LogEntry → Said
said entry = record { at = entry.at; audit = entry.audit; is_sent = entry.is_sent }

abbrev pub says : Moment → Bool → List (Option AuditRecord) → List Said
says at is_sent audits = map (λ audit. record { at = at; audit = audit; is_sent = is_sent }) audits

-- what the log says
abbrev pub said_of : Moment → WireCall → List Said
said_of at (Polled came event) = []
said_of at (Waited now) = []
said_of at Missed = []
said_of at (Acted action) = says at true (reported action)
said_of at (Failed action) = says at false (reported action)

abbrev pub succeeded : List WireCall → List WireCall
succeeded did = filter (λ d. not (is_fault d)) did

-- Since a server started, this was polled and tried. Its sockets have recorded the same, but for what failed: so an act
-- that was withheld is not there. Its journal was handed all that the acts hand over, and its log has an entry for each
-- request that they answer; neither has anything else.
pub record HasServed (tried : List WireCall) (sockets : Option (List WireCall)) (journal : Option (List Handed))
    (log : Option (List LogEntry)) (at : Moment) : Type 0 where
  pub start : Moment
  pub last : at ≡ last_came start tried
  pub sent : IfSome sockets (λ did. succeeded did ≡ succeeded tried)
  pub handed : IfSome journal (λ handed. handed ≡ handed_in start tried)
  pub entries : IfSome log (λ entries. map said entries ≡ in_order said_of start tried)

-- if its tally keeps a record
abbrev pub Serves : Option (List WireCall) → Option (List WireCall) → Option (List Handed) → Option (List LogEntry)
    → Moment → Type 0
Serves tally sockets journal log at = IfSome tally (λ tried. HasServed tried sockets journal log at)
