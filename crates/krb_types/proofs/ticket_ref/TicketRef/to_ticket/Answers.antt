use Rattle.std.proofs.Common.{◌≡◌, subst}
use Rattle.std.specs.Prelude.{IfOk}
use Rattle.krb_types.specs.Ticket.{Ticket}
use Rattle.krb_types.specs.CopyLaws.{ticket_copied}
use Rattle.krb_types.proofs.ticket_ref.TicketRef.to_ticket.Goals as goal

pub returns : goal.returns
returns c = subst (λ (x : Ticket). IfOk c.copy.result (λ copy. copy ≡ x)) (ticket_copied c.args.self.now) c.copy.ensures
