-- Names within the limits.
use Rattle.std.proofs.Common.{◌≡◌, List, ℕ, Bool, true, false, not, Option, Some, None, refl, cond}
use Rattle.std.specs.FinMap.{contains_key}
use Rattle.krb_fields.specs.Name.{Components}
use Rattle.krb_fields.specs.NameLimits.{is_component, is_within_limits, IsComponent, IsWithinLimits}
use Rattle.rule_lists.specs.Refusals.{first_holding}
use Rattle.principals.specs.Change.{add_rules}
use Rattle.principals.specs.Database.{Principals}
use Rattle.krb_fields.specs.Granting.{tgs_principal}
use Rattle.principals.specs.declared.change.ChangeFault.{ChangeFault}
use Rattle.principals.specs.declared.change.ChangeFault.TheVariants.{BadName, Exists}

pub is_within_limits-tgs_principal : (realm : List ℕ) → IsComponent realm → IsWithinLimits (tgs_principal realm)
is_within_limits-tgs_principal realm fits = let e : is_component realm ≡ true = fits in rw e refl

-- a name that is not refused is within the limits
pub within_limits_if_added : (p : Principals) (name : Components) → None ≡ first_holding (add_rules p name) → IsWithinLimits name
within_limits_if_added p name is = at (is_within_limits name) (cond (contains_key p.rows name) (Some Exists) None) is
  where
    at : (b : Bool) (rest : Option ChangeFault) → None ≡ cond (not b) (Some BadName) rest → b ≡ true
    at true rest e = refl
    at false rest e = cc
