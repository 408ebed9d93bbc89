-- What a run does with the files of its journal.
use Rattle.std.specs.Prelude.{◌≡◌, ◌⊎◌, ℤ, Bool, true, List, Option, Some, IfSome}
use Rattle.std.specs.Option.{option_copied}
use Rattle.krb_fields.specs.declared.moment.Moment.{Moment}
use Rattle.principals.specs.Database.{Principals}
use Rattle.kdc_hub.specs.Hub.{HubState}
use Rattle.kdc_hub.specs.declared.rows.Look.{Look}
use Rattle.kdc_hub.specs.declared.totals.Totals.{Totals}
use Rattle.kdc_hub.specs.declared.wires.WireCall.{WireCall}
use Rattle.journal.specs.Finding.{AreFound, AreReadOut, MayFinish}
use Rattle.journal.specs.Life.{JournalState}
use Rattle.journal.specs.World.{World}
use Rattle.kdc_files.specs.Keeping.{BeginsOver}
use Rattle.kdc_files.specs.declared.journals.JournalBeginning.{JournalBeginning}
use Rattle.kdc_files.specs.declared.journals.Journals.{Journals}
use Rattle.kdc_server.specs.Asking.{HasAsked}
use Rattle.kdc_server.specs.Resuming.{AreAt, IsDecided, known_before}
use Rattle.kdc_server.specs.Server.{HasRun, IsStarted}
use Rattle.kdc_server.specs.Starting.{HostDid, opened_by}
use Rattle.kdc_server.specs.declared.host.StartNews.{StartNews}
use Rattle.kdc_server.specs.declared.options.ServeOptions.{ServeOptions}

-- ---- a start

-- These journals were found in the files. A turn that was cut was finished before, and nothing else was done.
pub record HasFound (journals : Journals) (old read : Option World) : Type 0 where
  pub finished : MayFinish old read
  pub found : IfSome read (AreFound journals.found)
  pub shown : IfSome read (AreReadOut journals.found)

-- The journal began over what was found, or failed to.
pub record HasBegunOver (beginning : JournalBeginning) (ok : Bool) (old : Option World)
    (new : JournalState) : Type 0 where
  pub read : Option World
  pub reads : HasFound beginning.journals old read
  pub begins : BeginsOver beginning ok read new

-- A start decided what to make of the journals that it found. Its journal began or failed to, and nothing was kept.
pub record HasOnlyBegun (options : ServeOptions) (old new : Option World) : Type 0 where
  pub rows : Principals
  pub beginning : JournalBeginning
  pub ok : Bool
  pub last : JournalState
  pub begins : HasBegunOver beginning ok old last
  pub left : IfSome new (λ w. last.files ≡ Some w)
  pub found : AreAt (option_copied options.journal) beginning.journals
  pub decided : IsDecided rows beginning.journals beginning.at beginning.start
  pub floor : beginning.floor ≡ (known_before (opened_by options.is_first beginning.at) beginning.start).floor

-- what a start that failed did with the files: it read them, or its journal began, or failed to
abbrev pub HasFailedOver : ServeOptions → Option World → Option World → Type 0
HasFailedOver options old new = MayFinish old new ⊎ HasOnlyBegun options old new

-- A start as `IsStarted` says, whose journal began over these files, and left these.
pub record IsStartedOver (options : ServeOptions) (before after : Option (List HostDid)) (hub : HubState) (at : Moment)
    (floor : ℤ) (news : StartNews) (files left : Option World) (journal : JournalState) : Type 0 where
  pub started : IsStarted options before after hub at floor news
  pub begins : HasBegunOver started.beginning true files journal
  pub left_is : IfSome left (λ w. journal.files ≡ Some w)

-- ---- a run

-- It has run, its journal began over these files, and in its life the journal was asked what it is asked, and nothing
-- else.
pub record HasRunOver (options : ServeOptions) (before after : Option (List HostDid)) (news : StartNews)
    (tally_after : Option (List WireCall)) (rows_after : Option (List Look)) (totals : Totals) (new : HubState)
    (files : Option World) (last : JournalState) : Type 0 where
  pub run : HasRun options before after news tally_after rows_after totals new
  pub begun : JournalState
  pub begins : HasBegunOver run.started.beginning true files begun
  pub asked : ∥ HasAsked begun tally_after last ∥₁
