-- The standing of a principal by its row.
use Rattle.std.specs.Prelude.{ℕ, ℤ, Bool, false, not, ◌&&◌, int_le, List, Option, Some, None}
use Rattle.std.specs.Ordering.{eq_by_cmp}
use Rattle.krb_fields.specs.Name.{Components, name_cmp}
use Rattle.principal_rows.specs.declared.row.Row.{Row}
use Rattle.krb_fields.specs.Granting.{tgs_principal}
use Rattle.rule_lists.specs.Optional.{holds_of}

-- a time has come
abbrev pub has_come : Option ℤ → ℤ → Bool
has_come (Some time) now = int_le time now
has_come None now = false

abbrev pub is_disabled : Option Row → Bool
is_disabled = holds_of (λ row. row.policy.disabled)

abbrev pub is_expired : Option Row → ℤ → Bool
is_expired row now = holds_of (λ row. has_come row.policy.expires now) row

-- the name is that of the realm's ticket-granting service
abbrev pub is_tgs : List ℕ → Option Components → Bool
is_tgs realm = holds_of (λ name. eq_by_cmp name_cmp name (tgs_principal realm))

-- No tickets may be issued for the principal with this name and row. The ticket-granting service is always a service,
-- whatever its row says.
abbrev pub denies_tickets : List ℕ → Option Components → Option Row → Bool
denies_tickets realm name row = holds_of (λ row. not row.policy.service) row && not (is_tgs realm name)
