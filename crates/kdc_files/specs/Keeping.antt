-- What a server's journal does with its files: at a start, and for each reply.
use Rattle.std.specs.Prelude.{◌≡◌, Bool, true, false, Option, Some, None, Result, is_ok}
use Rattle.replay.specs.declared.seen.Seen.{Seen}
use Rattle.kdc_hub.specs.declared.event.Action.{Action}
use Rattle.kdc_hub.specs.declared.event.Action.TheVariants.{SendTo, Pass, Write, Close}
use Rattle.journal.specs.Life.{Call, IsBegun, IsCall, JournalState}
use Rattle.journal.specs.Life.Call.{Keep, Mend}
use Rattle.journal.specs.World.{World}
use Rattle.journal.specs.declared.journal_file.NotKept.{NotKept}
use Rattle.kdc_files.specs.declared.journals.JournalBeginning.{JournalBeginning}

-- what keeps no record of its files, or has none
abbrev pub unrecorded : JournalState
unrecorded = record { files = None; tail = None; floor = None }

abbrev pub unrecorded_in : {J : Type 0} → J → JournalState
unrecorded_in journal = unrecorded

-- a journal that may be absent
abbrev pub state_if : {J : Type 0} → (J → JournalState) → Option J → JournalState
state_if state (Some journal) = state journal
state_if state None = unrecorded

-- ---- at a start

-- a journal before its start, over files that hold this
abbrev pub before_start : JournalBeginning → Option World → JournalState
before_start beginning files = record { files = files; tail = None; floor = Some beginning.floor }

-- over these files the journal began, or failed to
abbrev pub BeginsOver : JournalBeginning → Bool → Option World → JournalState → Type 0
BeginsOver beginning ok files new =
    IsBegun beginning.at beginning.journals.found.newer beginning.start ok (before_start beginning files) new

-- one that failed left these files
abbrev pub FailsOver : JournalBeginning → Option World → Option World → Type 0
FailsOver beginning files left = BeginsOver beginning false files (before_start beginning left)

-- ---- for a reply

-- the authenticator that the reply makes the server remember is handed over, or nothing new is
abbrev pub call_for : Option Seen → Result Unit NotKept → Call
call_for (Some seen) result = Keep seen result
call_for None result = Mend result

-- for a reply with this authenticator one call is made, and this is whether it kept all
pub record IsAskedFor (seen : Option Seen) (is_kept : Bool) (old new : JournalState) : Type 0 where
  pub result : Result Unit NotKept
  pub is : is_ok result ≡ is_kept
  pub call : IsCall (call_for seen result) old new

-- an action without a reply asks nothing of the journal
abbrev pub AsksFor : Action → Bool → JournalState → JournalState → Type 0
AsksFor (SendTo peer reply) is_kept old new = IsAskedFor reply.newly_seen is_kept old new
AsksFor (Pass peer) is_kept old new = new ≡ old
AsksFor (Write conn reply) is_kept old new = IsAskedFor reply.newly_seen is_kept old new
AsksFor (Close conn reason) is_kept old new = new ≡ old
