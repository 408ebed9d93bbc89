-- Changes of a database.
use Rattle.std.specs.Prelude.{ℕ, not, ◌==◌, List, [], ◌∷◌, Option, Some, None, is_none}
use Rattle.std.specs.Ordering.{eq_by_cmp}
use Rattle.std.specs.FinMap.{get, contains_key, insert, remove}
use Rattle.rule_lists.specs.Optional.{holds_of}
use Rattle.rule_lists.specs.Refusals.{Rule, first_holding}
use Rattle.krb_fields.specs.Name.{Components, name_cmp}
use Rattle.krb_fields.specs.NameLimits.{is_within_limits}
use Rattle.principal_rows.specs.Row.{first_row}
use Rattle.principal_rows.specs.Versions.{current, version_of, with_keys, without}
use Rattle.principal_rows.specs.declared.row.Row.{Row}
use Rattle.principals.specs.declared.change.Change.{Change}
use Rattle.principals.specs.declared.change.RowChange.{RowChange}
use Rattle.principals.specs.declared.change.RowChange.TheVariants.{Add, Remove, NewKeys, DropKeys, SetPolicy}
use Rattle.principals.specs.declared.change.ChangeFault.{ChangeFault}
use Rattle.principals.specs.declared.change.ChangeFault.TheVariants.{BadName, Exists, Protected, Absent, LastVersion}
use Rattle.principals.specs.declared.change.ChangeFault.TheVariants.{CurrentKeys}
use Rattle.principals.specs.Database.{Principals}
use Rattle.krb_fields.specs.Granting.{tgs_principal}

abbrev pub add_rules : Principals → Components → List (Rule ChangeFault)
add_rules p name = (not (is_within_limits name), BadName) ∷ (contains_key p.rows name, Exists) ∷ []

abbrev pub remove_rules : Principals → Components → List (Rule ChangeFault)
remove_rules p name =
    (eq_by_cmp name_cmp name (tgs_principal p.realm), Protected) ∷ (not (contains_key p.rows name), Absent) ∷ []

abbrev pub new_keys_rules : Option Row → List (Rule ChangeFault)
new_keys_rules row =
    (is_none row, Absent)
    ∷ (holds_of (λ r. (current r.versions).number == 4294967295) row, LastVersion)
    ∷ []

abbrev pub drop_keys_rules : ℕ → Option Row → List (Rule ChangeFault)
drop_keys_rules version row =
    (is_none row, Absent)
    ∷ (holds_of (λ r. is_none (version_of r.versions version)) row, Absent)
    ∷ (holds_of (λ r. (current r.versions).number == version) row, CurrentKeys)
    ∷ []

abbrev pub set_policy_rules : Option Row → List (Rule ChangeFault)
set_policy_rules row = (is_none row, Absent) ∷ []

-- the conditions under which a change of a name's row is refused, in order
abbrev pub rules : Principals → Components → RowChange → List (Rule ChangeFault)
rules p name (Add keys) = add_rules p name
rules p name Remove = remove_rules p name
rules p name (NewKeys keys) = new_keys_rules (get p.rows name)
rules p name (DropKeys version) = drop_keys_rules version (get p.rows name)
rules p name (SetPolicy policy) = set_policy_rules (get p.rows name)

abbrev pub row_refusal : Principals → Components → RowChange → Option ChangeFault
row_refusal p name what = first_holding (rules p name what)

-- replaces a name's row by the result of this function
abbrev pub with_row : Principals → Components → (Row → Row) → Option Row → Principals
with_row p name change None = p
with_row p name change (Some row) = record p { rows = insert p.rows name (change row) }

abbrev pub row_changed : Principals → Components → RowChange → Principals
row_changed p name (Add keys) = record p { rows = insert p.rows name (first_row keys) }
row_changed p name Remove = record p { rows = remove p.rows name }
row_changed p name (NewKeys keys) =
    with_row p name (λ row. record row { versions = with_keys keys row.versions }) (get p.rows name)
row_changed p name (DropKeys version) =
    with_row p name (λ row. record row { versions = without version row.versions }) (get p.rows name)
row_changed p name (SetPolicy policy) = with_row p name (λ row. record row { policy = policy }) (get p.rows name)

-- ---- a change

-- why it is refused, if it is
abbrev pub refusal : Principals → Change → Option ChangeFault
refusal p change = row_refusal p change.name.components change.what

-- its result if it is not refused
abbrev pub changed : Principals → Change → Principals
changed p change = row_changed p change.name.components change.what
