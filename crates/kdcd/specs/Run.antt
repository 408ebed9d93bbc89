-- What the lines of a script do.
use Rattle.std.specs.Prelude.{◌≡◌, ℕ, List, Option, Some, None}
use Rattle.std.specs.FinMap.{get}
use Rattle.krb_fields.specs.PrincipalName.{Name}
use Rattle.krb_fields.specs.NameLimits.{IsComponent}
use Rattle.principal_rows.specs.Policy.{default_policy}
use Rattle.principal_rows.specs.declared.policy.Policy.{Policy}
use Rattle.principal_rows.specs.declared.row.Row.{Row}
use Rattle.principals.specs.declared.change.Change.{Change as PrincipalChange}
use Rattle.principals.specs.declared.change.RowChange.{RowChange}
use Rattle.principals.specs.declared.change.RowChange.TheVariants as changes
use Rattle.principals.specs.declared.change.ChangeFault.{ChangeFault}
use Rattle.principals.specs.declared.change.ChangeFault.TheVariants.{BadName}
use Rattle.principals.specs.Change.{refusal, changed}
use Rattle.principals.specs.Database.{first_database}
use Rattle.replay.specs.declared.opening.Opening.TheVariants.{First}
use Rattle.kdc_state.specs.declared.state.State.{State}
use Rattle.kdc_state.specs.State.{opened_state, restarted}
use Rattle.kdc_core.specs.View.{view}
use Rattle.kdc_core.specs.Answer.{answer, after_request}
use Rattle.text_fields.specs.Settings.{with_setting}
use Rattle.kdcd.specs.declared.answer.Answer.{Answer}
use Rattle.kdcd.specs.declared.answer.Answer.TheVariants.{Done, Refused, Reply, NoReply}
use Rattle.kdcd.specs.declared.line.LineError.{LineError}
use Rattle.kdcd.specs.declared.line.LineError.TheVariants.{Form, Memory}
use Rattle.kdcd.specs.declared.script.ScriptError.{ScriptError}
use Rattle.kdcd.specs.declared.script.ScriptError.TheVariants.{Fault, Failed}
use Rattle.kdcd.specs.declared.line.Line.{Line}
use Rattle.kdcd.specs.declared.line.Line.TheVariants.{Open, Change, Request, Restart}
use Rattle.kdcd.specs.declared.line.LineChange.{LineChange}
use Rattle.kdcd.specs.declared.line.LineChange.TheVariants.{Add, NewKeys, DropKeys, Remove, Set}

-- a line in none of the forms is a fault
abbrev pub stop_of : LineError → ScriptError
stop_of Form = Fault
stop_of Memory = Failed

-- this is printed for a reply, or for none
abbrev pub IsReply : Answer → Option (List ℕ) → Type 0
IsReply (Reply octets) (Some reply) = octets.items ≡ reply
IsReply NoReply None = Unit {0}
IsReply printed reply = ⊥

-- the change is made, or refused for this reason without changing the KDC
abbrev pub Changes : State → PrincipalChange → Option ChangeFault → Option State → Answer → Type 0
Changes kdc change None after printed =
    (after ≡ Some (record kdc { database = changed kdc.database change })) × (printed ≡ Done)
Changes kdc change (Some fault) after printed = (after ≡ Some kdc) × (printed ≡ Refused fault)

-- a change for a text that is not a name is refused
abbrev pub IsNotNamed : State → Option State → Answer → Type 0
IsNotNamed kdc after printed = (after ≡ Some kdc) × (printed ≡ Refused BadName)

-- the policy of a row, or that of a new principal if there is none
abbrev pub policy_of : Option Row → Policy
policy_of None = default_policy
policy_of (Some row) = row.policy

-- the change of a principal's row. Fields of the policy that a line doesn't set keep their values
abbrev pub row_change : State → Name → LineChange → RowChange
row_change kdc name (Add keys) = changes.Add keys
row_change kdc name (NewKeys keys) = changes.NewKeys keys
row_change kdc name (DropKeys version) = changes.DropKeys version
row_change kdc name Remove = changes.Remove
row_change kdc name (Set setting) =
    changes.SetPolicy (with_setting setting (policy_of (get kdc.database.rows name.components)))

abbrev pub change_of : State → Name → LineChange → PrincipalChange
change_of kdc name what = record { name = name; what = row_change kdc name what }

-- the KDC before a line, if one was opened; the KDC after it; and what the line prints
abbrev pub Runs : Option State → Line → Option State → Answer → Type 0
Runs before (Open realm limits keys) after printed =
    (after ≡ Some (opened_state (first_database realm keys) limits First)) × (printed ≡ Done)
Runs (Some kdc) (Change (Some name) what) after printed =
    Changes kdc (change_of kdc name what) (refusal kdc.database (change_of kdc name what)) after printed
Runs (Some kdc) (Change None what) after printed = IsNotNamed kdc after printed
Runs (Some kdc) (Request request) after printed =
    (after ≡ Some (after_request kdc request.at request.random request.room request.octets.items))
    × IsReply printed
    (answer (view kdc request.octets.items) request.at request.random request.room request.octets.items).reply
Runs (Some kdc) (Restart at) after printed = (after ≡ Some (restarted kdc at)) × (printed ≡ Done)
Runs None line after printed = ⊥

-- a line that can't run: no KDC is open, or the realm is not valid
abbrev pub CannotRun : Option State → Line → Type 0
CannotRun before (Open realm limits keys) = ¬ IsComponent realm
CannotRun None line = Unit {0}
CannotRun (Some kdc) line = ⊥
