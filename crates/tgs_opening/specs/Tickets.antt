-- The ticket that a TGS-REQ presents, and the key that decrypts it (RFC 4120, sections 3.2.3 and 3.3.2). Each rule has
-- its section beside it.
use Rattle.std.specs.Prelude.{ℕ, ℤ, pos, Bool, true, false, not, ◌&&◌, nat_eq, if◌then◌else◌, is_none}
use Rattle.std.specs.Prelude.{List, [], ◌∷◌, Option, Some, None, Result}
use Rattle.std.specs.List.{list_any}
use Rattle.std.specs.Ordering.{int_eq, eq_by_cmp}
use Rattle.std.specs.Cmp.Lexicographic.{pointwise}
use Rattle.rule_lists.specs.Optional.{holds_of}
use Rattle.rule_lists.specs.Refusals.{Rule, decided}
use Rattle.krb_elements.specs.Format.{whole}
use Rattle.krb_fields.specs.declared.numbers.TheConstants.{PVNO, TGS_REQ, PA_TGS_REQ}
use Rattle.krb_fields.specs.EncryptedData.{EncryptedData}
use Rattle.krb_fields.specs.Name.{name_cmp}
use Rattle.krb_fields.specs.PrincipalName.{Name}
use Rattle.krb_types.specs.ApReq.{ApReq, ap_req}
use Rattle.krb_types.specs.EncTicketPart.{EncTicketPart}
use Rattle.krb_types.specs.KdcReq.{Received}
use Rattle.krb_types.specs.ReqBody.{ReqBody}
use Rattle.krb_types.specs.Ticket.{Ticket}
use Rattle.enctypes.specs.declared.key.Key.{Key}
use Rattle.encrypted_data.specs.Parts.{ok_of}
use Rattle.preauth.specs.Keys.{has_key, key_named}
use Rattle.preauth.specs.Timestamp.{first_of}
use Rattle.principal_rows.specs.declared.row.KeyVersion.{KeyVersion}
use Rattle.principal_rows.specs.declared.row.Row.{Row}
use Rattle.krb_fields.specs.Granting.{tgs_principal}
use Rattle.ticket_times.specs.Asked.{keeps_ticket}
use Rattle.ap_req.specs.Authenticators.{is_same}
use Rattle.ap_req.specs.HeldKey.{HeldKey}
use Rattle.ap_req.specs.Tickets.{shown_ticket as shown}
use Rattle.tgs_opening.specs.Refusal.{by_ap}
use Rattle.tgs_opening.specs.View.{TicketView}
use Rattle.tgs_opening.specs.declared.refusal.TgsRefusal.{TgsRefusal}
use Rattle.tgs_opening.specs.declared.refusal.TgsRefusal.TheVariants.{BadVersion, BadMessageType, NoApReq}
use Rattle.tgs_opening.specs.declared.refusal.TgsRefusal.TheVariants.{MalformedApReq}
use Rattle.tgs_opening.specs.declared.tickets.Addressee.{Addressee}
use Rattle.tgs_opening.specs.declared.tickets.Addressee.TheVariants.{Tgs, AskedFor, Other}

-- ---- the AP-REQ

-- the value of the first PA-TGS-REQ
abbrev pub tgs_data : Received → Option (List ℕ)
tgs_data message = first_of PA_TGS_REQ message.padata

abbrev pub value_ap_req : Option (List ℕ) → Option ApReq
value_ap_req (Some value) = ok_of (whole ap_req.at value)
value_ap_req None = None

abbrev pub request_rules : Received → List (Rule TgsRefusal)
request_rules message =
    (not (int_eq message.pvno PVNO), BadVersion)  -- 5.4.1
    ∷ (not (int_eq message.msg_type (pos TGS_REQ)), BadMessageType)  -- 5.4.1
    ∷ (is_none (tgs_data message), NoApReq)  -- 3.3.2
    ∷ []

-- the AP-REQ in the request (section 5.2.7.1)
abbrev pub ap_req_of : Received → Result ApReq TgsRefusal
ap_req_of message = decided (request_rules message) (value_ap_req (tgs_data message)) MalformedApReq

-- ---- the service that the ticket is for

-- the ticket-granting service (section 3.3.2)
abbrev pub is_for_tgs : List ℕ → Name → Bool
is_for_tgs realm ticket_service = eq_by_cmp name_cmp ticket_service.components (tgs_principal realm)

abbrev pub is_named : Option Name → Name → Bool
is_named (Some name) service = is_same name service
is_named None service = false

-- the requested service, which counts if the ticket is to be renewed or validated (section 3.3.2)
abbrev pub is_for_asked : ReqBody → Name → Bool
is_for_asked body ticket_service = keeps_ticket body && is_named body.sname ticket_service

abbrev pub addressee : List ℕ → ReqBody → Name → Addressee
addressee realm body ticket_service =
    if is_for_tgs realm ticket_service then Tgs
    else if is_for_asked body ticket_service then AskedFor
    else Other

-- the row, if tickets are issued for its principal
abbrev pub if_service : Option Row → Option Row
if_service (Some row) = if row.policy.service then Some row else None
if_service None = None

-- The row whose keys may have encrypted the ticket. The ticket-granting service is always a service. Any other
-- principal is one only if its row says so: otherwise a user, who knows a password, could make tickets in any client's
-- name.
abbrev pub row_of : TicketView → Addressee → Option Row
row_of v Tgs = v.tgs
row_of v AskedFor = if_service v.service
row_of v Other = None

abbrev pub is_ours : Addressee → Bool
is_ours Tgs = true
is_ours AskedFor = true
is_ours Other = false

-- it is of this realm, for one of those services
abbrev pub is_for_us : TicketView → ReqBody → Ticket → Bool
is_for_us v body ticket = pointwise nat_eq ticket.realm v.realm && is_ours (addressee v.realm body ticket.sname)

-- ---- the key that encrypts it

-- the key of the ticket's encryption type in the version that it names, or else in the current one
abbrev pub ticket_key : Option Row → EncryptedData → Option Key
ticket_key row sealed = key_named row sealed.etype sealed.kvno

-- whether any version has a key of this encryption type
abbrev pub holds_type : List KeyVersion → ℤ → Bool
holds_type versions etype = list_any (λ v. has_key v.keys etype) versions

-- what a row holds for a ticket
abbrev pub held_by : Bool → Option Row → EncryptedData → HeldKey
held_by is_for_us row sealed = record {
  is_for_us = is_for_us;
  has_type = holds_of (λ row. holds_type row.versions sealed.etype) row;
  key = ticket_key row sealed;
}

-- ---- the ticket

-- the row of the service that the ticket is for
abbrev pub holder : TicketView → ReqBody → Ticket → Option Row
holder v body ticket = row_of v (addressee v.realm body ticket.sname)

abbrev pub held_key : TicketView → ReqBody → Ticket → HeldKey
held_key v body ticket = held_by (is_for_us v body ticket) (holder v body ticket) ticket.enc_part

-- the ticket's encrypted part, decrypted, or the first rule that refuses it (section 3.2.3)
abbrev pub shown_ticket : TicketView → ReqBody → ApReq → Result EncTicketPart TgsRefusal
shown_ticket v body ap = by_ap (shown (held_key v body ap.ticket) ap)
