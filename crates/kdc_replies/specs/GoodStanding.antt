-- The standing that the client and the service of a ticket need.
use Rattle.std.specs.Prelude.{◌≡◌, ℕ, ℤ, true, false, List, Option, is_some}
use Rattle.krb_fields.specs.Name.{Components}
use Rattle.kdc_replies.specs.Standing.{denies_tickets, is_disabled, is_expired}
use Rattle.principal_rows.specs.declared.row.Row.{Row}

-- Both have rows, neither is disabled or expired at that second, and tickets may be issued for the service, by its name
-- and its row.
pub record AreInGoodStanding (realm : List ℕ) (name : Option Components) (client service : Option Row)
    (now : ℤ) : Type 0 where
  pub client_known : is_some client ≡ true
  pub client_enabled : is_disabled client ≡ false
  pub client_current : is_expired client now ≡ false
  pub service_known : is_some service ≡ true
  pub service_allowed : denies_tickets realm name service ≡ false
  pub service_enabled : is_disabled service ≡ false
  pub service_current : is_expired service now ≡ false
