-- The clock in a KDC's error (RFC 4120, section 7.5.9: KRB_AP_ERR_SKEW).
use Rattle.std.specs.Prelude.{◌≡◌, ℤ, unsigned_abs, nat_le, Bool, true, is_some}
use Rattle.krb_fields.specs.declared.numbers.TheConstants.{KRB_AP_ERR_SKEW}
use Rattle.krb_fields.specs.Skew.{skew}
use Rattle.krb_fields.specs.declared.moment.Moment.{Moment}
use Rattle.client_login.specs.declared.faults.LoginError.{LoginError}
use Rattle.client_login.specs.declared.faults.TicketError.{TicketError}
use Rattle.client_login.specs.declared.faults.LoginError.TheVariants as says

-- clocks that differ by this many seconds don't differ by more than a KDC allows
abbrev pub is_within_skew : ℤ → Bool
is_within_skew ahead = nat_le (unsigned_abs ahead) skew

-- the moment is in the second on the clock of a KDC that refuses because the clocks differ
abbrev pub IsByError : LoginError → Moment → Type 0
IsByError (says.Refused error) at = (error.code ≡ KRB_AP_ERR_SKEW) × (at.sec ≡ error.stime)
IsByError why at = ⊥

-- the same, and the fault names that KDC
abbrev pub IsByClock : TicketError → Moment → Type 0
IsByClock fault at = (is_some fault.kdc ≡ true) × IsByError fault.why at
