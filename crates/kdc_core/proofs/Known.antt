-- Names that have rows are within the limits.
use Rattle.std.proofs.Common.{◌≡◌, ◌<◌, length, Option, Some, None, refl, ap}
use Rattle.std.specs.Prelude.{IfSome, is_some}
use Rattle.std.specs.FinMap as map
use Rattle.as_exchange.specs.Known.{IsKnown}
use Rattle.tgs_exchange.specs.Known as tgs_exchange
use Rattle.tgs_opening.specs.declared.presented.Presented.{Presented}
use Rattle.krb_elements.specs.Codec.{list_of}
use Rattle.krb_fields.specs.Typed.{typed}
use Rattle.krb_fields.specs.NameLimits.{IsWithinLimits}
use Rattle.krb_fields.specs.NameLimitsLaws.{component_facts}
use Rattle.krb_fields.specs.PrincipalName.{Name, name}
use Rattle.krb_types.specs.declared.kdc_req.Exchange.TheVariants.{As}
use Rattle.krb_types.specs.KdcReq.{Received}
use Rattle.principal_rows.specs.declared.row.Row.{Row}
use Rattle.principals.specs.Database.{IsDatabase}
use Rattle.kdc_state.specs.declared.state.State.{State}
use Rattle.kdc_core.specs.View.{as_view, components_of, presented_view, row_of, tgs_view, message_view}

row_known : (state : State) → IsDatabase state.database → (n : Name) (row : Option Row) → map.get state.database.rows n.components ≡ row → IfSome row (λ r. IsWithinLimits n.components)
row_known state is n (Some r) e = is.names_fit n.components (ap is_some e)
row_known state is n None e = tt

name_known : (state : State) → IsDatabase state.database → (o : Option Name) → IfSome (row_of state (components_of o)) (λ r. IfSome o (λ n. IsWithinLimits n.components))
name_known state is (Some n) = row_known state is n (map.get state.database.rows n.components) refl
name_known state is None = tt

pub known : (state : State) (message : Received) → IsDatabase state.database → IfSome message.body.value.sname (λ n. length (name.text n) < 2147483648)
    → IsKnown (as_view (message_view state As message)) message.body.value
known state message is short = record {
  realm = (component_facts state.database.realm is.realm_fits).1;
  client = name_known state is message.body.value.cname;
  service = name_known state is message.body.value.sname;
  sname = short;
}

pub tgs_known : (state : State) (message : Received) (p : Presented) → IsDatabase state.database → IfSome message.body.value.sname (λ n. length (name.text n) < 2147483648)
    → IfSome p.ticket.authorization_data (λ list. length ((list_of typed).text list) < 2147483648) → tgs_exchange.IsKnown (tgs_view (presented_view state message p)) message.body.value p
tgs_known state message p is short few = record {
  realm = (component_facts state.database.realm is.realm_fits).1;
  client = row_known state is p.ticket.cname (map.get state.database.rows p.ticket.cname.components) refl;
  service = name_known state is message.body.value.sname;
  sname = short;
  authorization = few;
}
