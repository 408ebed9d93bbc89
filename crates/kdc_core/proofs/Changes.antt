-- A change is refused because of the row of its name alone, and changes only that row.
use Rattle.std.proofs.Common.{◌≡◌, ℕ, Bool, true, false, cond, not, List, [], ◌∷◌, Option, Some, None, option_map}
use Rattle.std.proofs.Common.{is_some, refl, ap, sym, ◌∙◌}
use Rattle.std.specs.FinMap as map
use Rattle.std.specs.FinMap.{get-insert, get-remove}
use Rattle.std.specs.Ordering.{eq_by_cmp}
use Rattle.rule_lists.specs.Refusals.{Rule, first_holding}
use Rattle.krb_fields.specs.Name.{Components, name_cmp, name_total, same_name}
use Rattle.krb_fields.specs.NameLimits.{is_within_limits}
use Rattle.principal_rows.specs.Row.{first_row}
use Rattle.principal_rows.specs.Versions.{with_keys, without}
use Rattle.principal_rows.specs.declared.row.Row.{Row}
use Rattle.principals.specs.Change.{changed, refusal, row_changed, row_refusal, with_row}
use Rattle.principals.specs.Change.{new_keys_rules, drop_keys_rules, set_policy_rules}
use Rattle.principals.specs.Database.{Principals}
use Rattle.krb_fields.specs.Granting.{tgs_principal}
use Rattle.principals.specs.declared.change.Change.{Change}
use Rattle.principals.specs.declared.change.RowChange.{RowChange}
use Rattle.principals.specs.declared.change.RowChange.TheVariants.{Add, Remove, NewKeys, DropKeys, SetPolicy}
use Rattle.principals.specs.declared.change.ChangeFault.{ChangeFault}
use Rattle.principals.specs.declared.change.ChangeFault.TheVariants.{BadName, Exists, Protected, Absent}

-- the rules for a change, given the realm and the row of its name
abbrev rules_by : List ℕ → Components → RowChange → Option Row → List (Rule ChangeFault)
rules_by realm name (Add keys) row = (not (is_within_limits name), BadName) ∷ (is_some row, Exists) ∷ []
rules_by realm name Remove row =
    (eq_by_cmp name_cmp name (tgs_principal realm), Protected) ∷ (not (is_some row), Absent) ∷ []
rules_by realm name (NewKeys keys) row = new_keys_rules row
rules_by realm name (DropKeys version) row = drop_keys_rules version row
rules_by realm name (SetPolicy policy) row = set_policy_rules row

refused_by : (p : Principals) (name : Components) (what : RowChange)
    → row_refusal p name what ≡ first_holding (rules_by p.realm name what (map.get p.rows name))
refused_by p name (Add keys) = refl
refused_by p name Remove = refl
refused_by p name (NewKeys keys) = refl
refused_by p name (DropKeys version) = refl
refused_by p name (SetPolicy policy) = refl

pub same_refusal : (p q : Principals) (change : Change) → q.realm ≡ p.realm
    → map.get q.rows change.name.components ≡ map.get p.rows change.name.components
    → refusal q change ≡ refusal p change
same_refusal p q change realm row =
    refused_by q change.name.components change.what
    ∙ (λ i. first_holding (rules_by (realm i) change.name.components change.what (row i)))
    ∙ sym (refused_by p change.name.components change.what)

-- the row of its name after a change
abbrev row_by : RowChange → Option Row → Option Row
row_by (Add keys) row = Some (first_row keys)
row_by Remove row = None
row_by (NewKeys keys) row = option_map (λ (r : Row). record r { versions = with_keys keys r.versions }) row
row_by (DropKeys version) row = option_map (λ (r : Row). record r { versions = without version r.versions }) row
row_by (SetPolicy policy) row = option_map (λ (r : Row). record r { policy = policy }) row

row_exchanged : (p : Principals) (name n : Components) (change : Row → Row) (row : Option Row)
    → map.get p.rows name ≡ row
    → map.get (with_row p name change row).rows n
    ≡ cond (eq_by_cmp name_cmp n name) (option_map change row) (map.get p.rows n)
row_exchanged p name n change (Some row) e = get-insert name_total p.rows name (change row) n
row_exchanged p name n change None e = by_test (eq_by_cmp name_cmp n name) refl
  where
    by_test : (b : Bool) → eq_by_cmp name_cmp n name ≡ b → map.get p.rows n ≡ cond b None (map.get p.rows n)
    by_test true same = ap (map.get p.rows) (same_name n name same) ∙ e
    by_test false apart = refl

row_after : (p : Principals) (name : Components) (what : RowChange) (n : Components)
    → map.get (row_changed p name what).rows n
    ≡ cond (eq_by_cmp name_cmp n name) (row_by what (map.get p.rows name)) (map.get p.rows n)
row_after p name (Add keys) n = get-insert name_total p.rows name (first_row keys) n
row_after p name Remove n = get-remove name_total p.rows name n
row_after p name (NewKeys keys) n =
    row_exchanged p name n (λ r. record r { versions = with_keys keys r.versions }) (map.get p.rows name) refl
row_after p name (DropKeys version) n =
    row_exchanged p name n (λ r. record r { versions = without version r.versions }) (map.get p.rows name) refl
row_after p name (SetPolicy policy) n =
    row_exchanged p name n (λ r. record r { policy = policy }) (map.get p.rows name) refl

-- if two databases share a row and the row of the change's name, they still share it after the change
pub same_row_after : (p q : Principals) (change : Change) (n : Components)
    → map.get q.rows change.name.components ≡ map.get p.rows change.name.components
    → map.get q.rows n ≡ map.get p.rows n
    → map.get (changed q change).rows n ≡ map.get (changed p change).rows n
same_row_after p q change n own row =
    row_after q change.name.components change.what n
    ∙ (λ i. cond (eq_by_cmp name_cmp n change.name.components) (row_by change.what (own i)) (row i))
    ∙ sym (row_after p change.name.components change.what n)

-- the rows of other names are unchanged
pub other_row : (p : Principals) (change : Change) (n : Components)
    → eq_by_cmp name_cmp n change.name.components ≡ false → map.get (changed p change).rows n ≡ map.get p.rows n
other_row p change n apart =
    row_after p change.name.components change.what n
    ∙ ap (λ b. cond b (row_by change.what (map.get p.rows change.name.components)) (map.get p.rows n)) apart

realm_exchanged : (p : Principals) (name : Components) (change : Row → Row) (row : Option Row)
    → (with_row p name change row).realm ≡ p.realm
realm_exchanged p name change (Some row) = refl
realm_exchanged p name change None = refl

realm_after : (p : Principals) (name : Components) (what : RowChange) → (row_changed p name what).realm ≡ p.realm
realm_after p name (Add keys) = refl
realm_after p name Remove = refl
realm_after p name (NewKeys keys) =
    realm_exchanged p name (λ r. record r { versions = with_keys keys r.versions }) (map.get p.rows name)
realm_after p name (DropKeys version) =
    realm_exchanged p name (λ r. record r { versions = without version r.versions }) (map.get p.rows name)
realm_after p name (SetPolicy policy) =
    realm_exchanged p name (λ r. record r { policy = policy }) (map.get p.rows name)

pub realm_stays : (p : Principals) (change : Change) → (changed p change).realm ≡ p.realm
realm_stays p change = realm_after p change.name.components change.what
