-- The result holds the decrypted ticket, or names its client if the request is refused after that.
use Rattle.std.proofs.Common.{◌≡◌, Option, Some, None, Result, Ok, Err, refl, ap}
use Rattle.krb_fields.specs.PrincipalName.{Name}
use Rattle.krb_types.specs.KdcReq.{Received}
use Rattle.rule_lists.specs.StageLaws.{ok_is}
use Rattle.ap_req.specs.declared.authenticated.Authenticated.{Authenticated}
use Rattle.tgs_opening.specs.Opening.{authenticated, by_authenticated, by_ticket, opened_ticket, presented}
use Rattle.tgs_opening.specs.Opening.{presented_as}
use Rattle.tgs_opening.specs.View.{TicketView}
use Rattle.tgs_opening.specs.declared.opened.OpenedTicket.{OpenedTicket}
use Rattle.tgs_opening.specs.declared.presented.Presented.{Presented}
use Rattle.tgs_opening.specs.declared.refusal.TgsRefusal.{TgsRefusal}
use Rattle.tgs_opening.specs.declared.rejection.OpeningRefusal.{OpeningRefusal}

module _ (v : TicketView) (message : Received) (p : Presented) where
  part_of : (o : OpenedTicket) (r : Result Authenticated TgsRefusal) → by_authenticated o r ≡ Ok p → o.part ≡ p.ticket
  part_of o (Ok a) e = λ i. (ok_is {R = OpeningRefusal} (presented_as o a) p e i).ticket
  part_of o (Err rule) e = absurd cc

  ticket_of : (r : Result OpenedTicket TgsRefusal) → opened_ticket v message ≡ r → by_ticket v message r ≡ Ok p
      → (o : OpenedTicket) × (opened_ticket v message ≡ Ok o) × (o.part ≡ p.ticket)
  ticket_of (Ok o) opens e = (o, opens, part_of o (authenticated v message o) e)
  ticket_of (Err rule) opens e = absurd cc

  pub ticket_opened : presented v message ≡ Ok p
      → (o : OpenedTicket) × (opened_ticket v message ≡ Ok o) × (o.part ≡ p.ticket)
  ticket_opened e = ticket_of (opened_ticket v message) refl e

-- the client of a decrypted ticket
abbrev pub client_of : Result OpenedTicket TgsRefusal → Option Name
client_of (Ok o) = Some o.part.cname
client_of (Err rule) = None

module _ (v : TicketView) (message : Received) (rejected : OpeningRefusal) where
  client_shown : (o : OpenedTicket) (r : Result Authenticated TgsRefusal) → by_authenticated o r ≡ Err rejected
      → Some o.part.cname ≡ rejected.client
  client_shown o (Ok a) e = absurd cc
  client_shown o (Err rule) e = ap (λ (r : Result Presented OpeningRefusal). again r) e
    where
      again : Result Presented OpeningRefusal → Option Name
      again (Ok p) = None
      again (Err r) = r.client

  client_opened : (r : Result OpenedTicket TgsRefusal) → by_ticket v message r ≡ Err rejected
      → client_of r ≡ rejected.client
  client_opened (Ok o) e = client_shown o (authenticated v message o) e
  client_opened (Err rule) e = ap (λ (r : Result Presented OpeningRefusal). again r) e
    where
      again : Result Presented OpeningRefusal → Option Name
      again (Ok p) = None
      again (Err r) = r.client

  -- a refusal names the client of the decrypted ticket, or none if the ticket could not be decrypted
  pub rejected_client : presented v message ≡ Err rejected → client_of (opened_ticket v message) ≡ rejected.client
  rejected_client e = client_opened (opened_ticket v message) e
