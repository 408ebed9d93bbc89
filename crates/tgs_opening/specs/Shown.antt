-- Whom the ticket of a TGS-REQ is for, and the key that decrypts it (RFC 4120, sections 3.2.3 and 3.3.2).
use Rattle.std.specs.Prelude.{◌≡◌, ◌⊎◌, true, nat_eq, Option, Some}
use Rattle.std.specs.Cmp.Lexicographic.{pointwise}
use Rattle.enctypes.specs.KeyUsage.{usage_number}
use Rattle.enctypes.specs.declared.key.Key.{Key}
use Rattle.enctypes.specs.declared.key_usage.KeyUsage.TheVariants.{Ticket as TicketUsage}
use Rattle.krb_types.specs.ApReq.{ApReq}
use Rattle.krb_fields.specs.PrincipalName.{Name}
use Rattle.krb_types.specs.KdcReq.{Received}
use Rattle.krb_types.specs.ReqBody.{ReqBody}
use Rattle.krb_types.specs.EncTicketPart.{EncTicketPart, enc_ticket_part}
use Rattle.preauth.specs.Keys.{key_named}
use Rattle.principal_rows.specs.declared.row.Row.{Row}
use Rattle.encrypted_data.specs.Parts.{opened_as}
use Rattle.tgs_opening.specs.Tickets.{value_ap_req, is_for_asked, is_for_tgs, tgs_data}
use Rattle.tgs_opening.specs.View.{TicketView}

-- The row is that of the service with this name, which is the ticket-granting service; or the requested one, whose row
-- says that it is a service.
abbrev pub IsServiceRow : TicketView → ReqBody → Name → Row → Type 0
IsServiceRow v body service row =
    ((is_for_tgs v.realm service ≡ true) × (v.tgs ≡ Some row))
    ⊎ ((is_for_asked body service ≡ true) × (v.service ≡ Some row) × (row.policy.service ≡ true))

-- The request presents a ticket of this realm. A key in the row of its service, of the encryption type and the key
-- version that the ticket names, decrypts it to this part.
pub record IsShown (v : TicketView) (message : Received) (part : EncTicketPart) : Type 0 where
  pub ap : ApReq
  pub presents : value_ap_req (tgs_data message) ≡ Some ap
  pub of_realm : pointwise nat_eq ap.ticket.realm v.realm ≡ true
  pub row : Row
  pub of_service : IsServiceRow v message.body.value ap.ticket.sname row
  pub key : Key
  pub of_row : key_named (Some row) ap.ticket.enc_part.etype ap.ticket.enc_part.kvno ≡ Some key
  pub opens : opened_as enc_ticket_part key.etype key.bytes (usage_number TicketUsage) ap.ticket.enc_part.cipher
      ≡ Some part
