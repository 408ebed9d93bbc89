-- Which actions a server withholds.
use Rattle.std.specs.Prelude.{◌≡◌, ℕ, ℤ, Bool, true, false, not, ◌&&◌, Option, Some, None}
use Rattle.krb_fields.specs.declared.moment.Moment.{Moment}
use Rattle.kdc_hub.specs.declared.event.Action.{Action}
use Rattle.kdc_files.specs.Journal.{is_kept}
use Rattle.server_notices.specs.Unanswered.{plus}
use Rattle.kdc_server.specs.Quiet.{quiet_withholds}
use Rattle.kdc_server.specs.declared.withheld.Withheld.{Withheld}

-- An action may be done once the journal has kept all that it was handed, unless a quiet start withholds it.
abbrev pub may_send : {J : Type 0} → (J → Bool) → J → Option ℤ → Moment → Action → Bool
may_send is_whole journal quiet_until at action =
    is_kept is_whole journal action && not (quiet_withholds quiet_until at action)

-- What becomes of the sockets where an action is withheld: the connection that it was for ends, and nothing else is
-- done.
abbrev pub EndsOnly : {S : Type 0} → (S → ℕ → S → Type 0) → S → Option ℕ → S → Type 0
EndsOnly HangsUp old None new = new ≡ old
EndsOnly HangsUp old (Some conn) new = HangsUp old conn new

-- How many replies were withheld, after an action: for the journal, if it has not kept all, or else for the quiet
-- start.
abbrev pub withheld_after : Withheld → Bool → Bool → Withheld
withheld_after w false is_withheld = record { by_journal = plus w.by_journal 1; by_quiet_start = w.by_quiet_start }
withheld_after w true true = record { by_journal = w.by_journal; by_quiet_start = plus w.by_quiet_start 1 }
withheld_after w true false = w
