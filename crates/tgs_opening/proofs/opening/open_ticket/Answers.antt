use Rattle.std.proofs.Common.{rules, ◌≡◌, ◌<◌, length, Ok}
use Rattle.std.specs.Prelude.{IfSome}
use Rattle.krb_types.specs.EncTicketPart.{enc_ticket_part}
use Rattle.encrypted_data.specs.Parts.{IsSpelledWithin}
use Rattle.tgs_opening.specs.Tickets.{ap_req_of, tgs_data}
use Rattle.tgs_opening.proofs.Presenting.{few_presented}
use Rattle.tgs_opening.proofs.opening.open_ticket.Goals as goal

pub returns-in-Ok-2-clause-authorization : goal.returns-in-Ok-2-clause-authorization
returns-in-Ok-2-clause-authorization c =
    let ap = c.in-Ok.ap in
    let part = c.in-Ok-2.part in
    let read : ap_req_of c.args.message.now ≡ Ok ap = search rules in
    let short : IfSome (tgs_data c.args.message.now) (λ value. length ap.ticket.enc_part.cipher < length value) = search rules in
    let within : IsSpelledWithin enc_ticket_part part ap.ticket.enc_part.cipher = search rules in
    few_presented c.args.message.now ap part read c.requires short within
