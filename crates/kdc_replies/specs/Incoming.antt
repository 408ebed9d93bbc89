-- An incoming request.
use Rattle.std.specs.Prelude.{ℕ, List}
use Rattle.krb_fields.specs.declared.moment.Moment.{Moment}

-- when it came in, the random bytes for its answer, the maximum length of a reply with a ticket, and its bytes
pub record Incoming : Type 0 where
  pub at : Moment
  pub random : List ℕ
  pub room : ℕ
  pub octets : List ℕ
