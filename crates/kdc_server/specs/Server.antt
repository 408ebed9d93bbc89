-- How a server starts and runs.
use Rattle.std.specs.Prelude.{◌≡◌, ◌-◌, ◌^◌, ℕ, ℤ, Bool, true, false, List, [], ◌∷◌, Option, Some, None, is_some}
use Rattle.std.specs.Option.{option_copied}
use Rattle.krb_fields.specs.declared.moment.Moment.{Moment}
use Rattle.kdc_hub.specs.declared.wires.WireCall.{WireCall}
use Rattle.kdc_hub.specs.Hub.{HubState}
use Rattle.kdc_hub.specs.Wire.{Records}
use Rattle.kdc_hub.specs.declared.rows.Look.{Look}
use Rattle.kdc_hub.specs.declared.totals.Totals.{Totals}
use Rattle.kdc_hub.specs.Life.{IsLife, periods_of}
use Rattle.server_notices.specs.Clocks.{refused_at_start}
use Rattle.kdc_server.specs.Resuming.{IsReady, began, found_at}
use Rattle.kdc_files.specs.Recorded.{IsNew}
use Rattle.kdc_server.specs.Starting.{HostDid, TookRows}
use Rattle.kdc_server.specs.declared.options.ServeOptions.{ServeOptions}
use Rattle.kdc_files.specs.declared.journals.JournalBeginning.{JournalBeginning}
use Rattle.kdc_server.specs.declared.host.StartNews.{StartNews}

-- a start as the options say, with the host's record before and afterwards, the hub, the moment and the floor that it
-- began with, and its news
pub record IsStarted (options : ServeOptions) (before after : Option (List HostDid)) (hub : HubState) (at : Moment)
    (floor : ℤ) (news : StartNews) : Type 0 where
  pub beginning : JournalBeginning
  pub middle : Option (List HostDid)
  pub ready : IsReady options before middle hub beginning news.row_count
  pub begins : Records middle (began (is_some (option_copied options.journal)) beginning) after
  pub moment : at ≡ beginning.at
  pub floor_is : floor ≡ beginning.floor
  pub found : news.journal ≡ found_at (option_copied options.journal) beginning.start beginning.at
  pub refused : news.refused ≡ refused_at_start floor at.sec

-- the rounds that the options ask for, or as many as no process serves
abbrev pub rounds_of : Option ℕ → ℕ
rounds_of (Some rounds) = rounds
rounds_of None = 2 ^ 64 - 1

-- what is asked of the host for the rows after the start: their source, unless they are fixed
abbrev pub taking : Bool → List HostDid
taking true = []
taking false = TookRows ∷ []

-- A start, the source of the rows, and then a life over the hub of that start. Nothing was polled, tried or looked at
-- before. Each change that the source gives replaces the rows; if they are fixed, no look finds any.
pub record HasRun (options : ServeOptions) (before after : Option (List HostDid)) (news : StartNews)
    (tally_after : Option (List WireCall)) (rows_after : Option (List Look)) (totals : Totals)
    (new : HubState) : Type 0 where
  pub hub : HubState
  pub at : Moment
  pub floor : ℤ
  pub middle : Option (List HostDid)
  pub tally : Option (List WireCall)
  pub rows : Option (List Look)
  pub started : IsStarted options before middle hub at floor news
  pub took : Records middle (taking options.is_fixed) after
  pub tried : IsNew tally
  pub looks : IsNew rows
  pub life : IsLife tally options.is_fixed rows hub
      (periods_of (rounds_of options.rounds)) totals tally_after rows_after new
