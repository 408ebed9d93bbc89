use Rattle.std.proofs.Common.{IfOk, IfSome, subst}
use Rattle.krb_types.specs.EncTicketPart.{enc_ticket_part}
use Rattle.encrypted_data.specs.Parts.{IsSpelledWithin}
use Rattle.ap_req.proofs.tickets.open_ticket_part.Goals as goal

pub returns-in-Some-clause-within : goal.returns-in-Some-clause-within
returns-in-Some-clause-within c =
    subst (λ cipher. IfOk c.open_by.result (λ found. IfSome found (λ part. IsSpelledWithin enc_ticket_part part cipher)))
    c.as_slice.ensures c.open_by.ensures.within
