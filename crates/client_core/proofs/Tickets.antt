-- A ticket is shorter than the bytes that encode it.
use Rattle.std.proofs.Common.{ℕ, ◌<◌, List, length, arith}
use Rattle.krb_der.specs.Spelling.{IsBytes}
use Rattle.krb_types.specs.Ticket.{Ticket, ticket}
use Rattle.krb_types.specs.TicketLaws.{ticket_inside}

pub shorter : (t : Ticket) (octets : List ℕ) → IsBytes octets → ticket.Spells t octets → length (ticket.text t) < length octets
shorter t octets fits s = omega (arith, ticket_inside.is t octets fits s)
