-- Good standing, by the conditions of the rules.
use Rattle.std.proofs.Common.{◌≡◌, ℕ, ℤ, true, false, List, Option, Some, None, refl}
use Rattle.std.specs.Prelude.{is_none, is_some}
use Rattle.kdc_replies.specs.GoodStanding.{AreInGoodStanding}
use Rattle.kdc_replies.specs.Standing.{denies_tickets, is_disabled, is_expired}
use Rattle.krb_fields.specs.Name.{Components}
use Rattle.principal_rows.specs.declared.row.Row.{Row}

is_there : {A : Type 0} (found : Option A) → is_none found ≡ false → is_some found ≡ true
is_there (Some x) e = refl
is_there None e = absurd cc

-- none of these conditions holds
pub in_good_standing : (realm : List ℕ) (name : Option Components) (client service : Option Row) (now : ℤ)
    → is_none client ≡ false
    → is_disabled client ≡ false → is_expired client now ≡ false → is_none service ≡ false
    → denies_tickets realm name service ≡ false → is_disabled service ≡ false → is_expired service now ≡ false
    → AreInGoodStanding realm name client service now
in_good_standing realm name client service now c disabled expired s denied s_disabled s_expired = record {
  client_known = is_there client c;
  client_enabled = disabled;
  client_current = expired;
  service_known = is_there service s;
  service_allowed = denied;
  service_enabled = s_disabled;
  service_current = s_expired;
}
