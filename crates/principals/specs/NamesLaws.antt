-- A law of a database's names: they are within the limits.
use Rattle.std.proofs.Common.{◌≡◌, Bool, true, false, cond, Some, refl, sym, ap, subst, ◌∙◌, is_some, IsTrue}
use Rattle.std.specs.Ordering.{eq_by_cmp}
use Rattle.std.specs.FinMap.{FinMap, get, contains_key, insert, get-insert}
use Rattle.krb_fields.specs.Name.{Components, name_cmp, name_total, same_name}
use Rattle.krb_fields.specs.NameLimits.{IsWithinLimits}
use Rattle.principal_rows.specs.declared.row.Row.{Row}

-- every name of the map is within the limits
unfoldable pub AllNamesFit : FinMap name_cmp Row → Type 0
AllNamesFit rows = (name : Components) → IsTrue (contains_key rows name) → IsWithinLimits name

-- a map with one more such name
pub names_fit-insert : (rows : FinMap name_cmp Row) (name : Components) (row : Row) → AllNamesFit rows → IsWithinLimits name → AllNamesFit (insert rows name row)
unfolding AllNamesFit
names_fit-insert rows name row fit fits other held = at (eq_by_cmp name_cmp other name) refl (sym (ap is_some (get-insert name_total rows name row other)) ∙ held)
  where
    at : (b : Bool) → eq_by_cmp name_cmp other name ≡ b → IsTrue (is_some (cond b (Some row) (get rows other))) → IsWithinLimits other
    at true same held = subst IsWithinLimits (sym (same_name other name same)) fits
    at false apart held = fit other held
