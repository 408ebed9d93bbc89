-- What decrypting a ticket needs besides the request.
use Rattle.std.specs.Prelude.{ℕ, List, Option}
use Rattle.principal_rows.specs.declared.row.Row.{Row}

-- the realm, and the rows of the ticket-granting service and of the service that the request names
pub record TicketView : Type 0 where
  pub realm : List ℕ
  pub tgs : Option Row
  pub service : Option Row
