-- A start, what the host is asked then, and the life over it are a run.
use Rattle.std.proofs.Common.{◌≡◌, ◌∙◌, ℕ, ℤ, Bool, List, Option, subst, sym}
use Rattle.krb_fields.specs.declared.moment.Moment.{Moment}
use Rattle.kdc_files.specs.Recorded.{IsNew}
use Rattle.kdc_hub.specs.Hub.{HubState}
use Rattle.kdc_hub.specs.Life.{IsLife, periods_of}
use Rattle.kdc_hub.specs.Wire.{Records}
use Rattle.kdc_hub.specs.declared.rows.Look.{Look}
use Rattle.kdc_hub.specs.declared.totals.Totals.{Totals}
use Rattle.kdc_hub.specs.declared.wires.WireCall.{WireCall}
use Rattle.kdc_server.specs.Server.{HasRun, IsStarted, rounds_of, taking}
use Rattle.kdc_server.specs.Starting.{HostDid}
use Rattle.kdc_server.specs.declared.host.StartNews.{StartNews}
use Rattle.kdc_server.specs.declared.options.ServeOptions.{ServeOptions}
use Rattle.kdc_server.proofs.Fixed.{life_of_option}

-- `taken` is the host's record once it handed over the rows, `fixed` whether these never change, and `n` how many rounds
-- were served
abbrev pub has_run : (options : ServeOptions) (before middle taken after : Option (List HostDid)) (hub : HubState) (at : Moment) (floor : ℤ) (news : StartNews)
    (tally : Option (List WireCall)) (fixed : Bool) (rows : Option (List Look)) (n : ℕ) (totals : Totals) (tally_after : Option (List WireCall)) (rows_after : Option (List Look)) (new : HubState)
    → IsStarted options before middle hub at floor news → Records middle (taking options.is_fixed) taken → after ≡ taken → IsNew tally → IsNew rows
    → fixed ≡ options.is_fixed → n ≡ rounds_of options.rounds → IsLife tally fixed rows hub (periods_of n) totals tally_after rows_after new
    → HasRun options before after news tally_after rows_after totals new
has_run options before middle taken after hub at floor news tally fixed rows n totals tally_after rows_after new started took same tried looks is many life = record {
  hub = hub;
  at = at;
  floor = floor;
  middle = middle;
  tally = tally;
  rows = rows;
  started = started;
  took = subst (Records middle (taking options.is_fixed)) (sym same) took;
  tried = tried;
  looks = looks;
  life = life_of_option fixed options.is_fixed (λ option. is ∙ option) tally rows hub _ _ tally_after rows_after new
      (subst (λ k. IsLife tally fixed rows hub (periods_of k) totals tally_after rows_after new) many life);
}
