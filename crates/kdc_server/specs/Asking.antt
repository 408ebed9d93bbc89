-- What a server's wire asks of its journal.
use Rattle.std.specs.Prelude.{◌≡◌, Bool, true, List, [], ◌∷◌, Option, Some}
use Rattle.kdc_hub.specs.Wire.{Records}
use Rattle.kdc_hub.specs.declared.wires.WireCall.{WireCall}
use Rattle.kdc_hub.specs.declared.wires.WireCall.TheVariants.{Polled, Waited, Missed, Acted, Failed}
use Rattle.journal.specs.Life.{JournalState}
use Rattle.kdc_files.specs.Keeping.{AsksFor}

-- What each poll and act asks of the journal: an act that succeeded asked it first, and it had kept all.
abbrev pub Asks : WireCall → JournalState → JournalState → Type 0
Asks (Polled at event) old new = new ≡ old
Asks (Waited at) old new = new ≡ old
Asks Missed old new = new ≡ old
Asks (Acted action) old new = AsksFor action true old new
Asks (Failed action) old new = (is_kept : Bool) × AsksFor action is_kept old new

abbrev pub AskAll : List WireCall → JournalState → JournalState → Type 0
AskAll [] old new = new ≡ old
AskAll (did ∷ others) old new = (next : JournalState) × Asks did old next × AskAll others next new

-- Since the journal began so, the tally has recorded these polls and acts, and the journal was asked what they ask.
pub record HasAsked (begun : JournalState) (tally : Option (List WireCall)) (now : JournalState) : Type 0 where
  pub did : List WireCall
  pub recorded : Records (Some []) did tally
  pub asked : AskAll did begun now
