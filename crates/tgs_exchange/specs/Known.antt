-- What is known of names that have rows, and of what came in a request.
use Rattle.std.specs.Prelude.{◌<◌, ◌≤◌, length, IfSome}
use Rattle.krb_elements.specs.Codec.{list_of}
use Rattle.krb_fields.specs.NameLimits.{IsWithinLimits}
use Rattle.krb_fields.specs.PrincipalName.{name}
use Rattle.krb_fields.specs.Typed.{typed}
use Rattle.krb_types.specs.ReqBody.{ReqBody}
use Rattle.tgs_opening.specs.declared.presented.Presented.{Presented}
use Rattle.tgs_exchange.specs.View.{TgsView}

-- The realm is short, and names that have rows are within the limits. The service's name and the ticket's authorization
-- data have fewer than 2147483648 bytes of text, as in every request.
pub record IsKnown (v : TgsView) (body : ReqBody) (p : Presented) : Type 0 where
  pub realm : length v.realm ≤ 255
  pub client : IfSome v.client (λ row. IsWithinLimits p.ticket.cname.components)
  pub service : IfSome v.service (λ row. IfSome body.sname (λ n. IsWithinLimits n.components))
  pub sname : IfSome body.sname (λ n. length (name.text n) < 2147483648)
  pub authorization : IfSome p.ticket.authorization_data (λ list. length ((list_of typed).text list) < 2147483648)
