-- Principals that are added with versions of their keys.
use Rattle.std.specs.Prelude.{List, Option}
use Rattle.std.specs.FinMap.{insert}
use Rattle.rule_lists.specs.Refusals.{first_holding}
use Rattle.krb_fields.specs.Name.{Components}
use Rattle.principal_rows.specs.Policy.{default_policy}
use Rattle.principal_rows.specs.declared.row.KeyVersion.{KeyVersion}
use Rattle.principals.specs.Change.{add_rules}
use Rattle.principals.specs.Database.{Principals}
use Rattle.principals.specs.declared.change.ChangeFault.{ChangeFault}

-- a new principal, with these versions and the default policy
abbrev pub imported : Principals → Components → List KeyVersion → Principals
imported p who versions =
    record p { rows = insert p.rows who (record { versions = versions; policy = default_policy }) }

-- why it is refused, if it is: for the same reasons as adding a principal
abbrev pub import_refusal : Principals → Components → Option ChangeFault
import_refusal p who = first_holding (add_rules p who)
