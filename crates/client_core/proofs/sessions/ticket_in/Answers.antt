use Rattle.std.proofs.Common.{◌<◌, length, sym, subst, arith}
use Rattle.krb_types.specs.Ticket.{Ticket, ticket}
use Rattle.client_core.proofs.Tickets.{shorter}
use Rattle.client_core.proofs.sessions.ticket_in.Goals as goal

pub returns-in_ok-to_ticket-in-Ok-clause-short : goal.returns-in_ok-to_ticket-in-Ok-clause-short
returns-in_ok-to_ticket-in-Ok-clause-short c =
    subst (λ (t : Ticket). length (ticket.text t) < length c.args.octets.now) (sym c.in_ok-to_ticket-in-Ok.ensures)
    (shorter c.in-Ok.found c.args.octets.now (λ i. omega (arith, c.type_inv.octets i)) c.in-Ok.ensures.found)
