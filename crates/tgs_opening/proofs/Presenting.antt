-- A ticket's authorization data are few, since its cipher is shorter than the request.
use Rattle.std.proofs.Common.{◌≡◌, ◌<◌, ℕ, List, length, Option, Some, None, Ok, arith}
use Rattle.std.specs.Prelude.{IfSome}
use Rattle.rule_lists.specs.RefusalLaws.{decided_found}
use Rattle.krb_types.specs.ApReq.{ApReq}
use Rattle.krb_types.specs.EncTicketPart.{EncTicketPart, enc_ticket_part}
use Rattle.krb_types.specs.KdcReq.{Received}
use Rattle.encrypted_data.specs.Parts.{IsSpelledWithin}
use Rattle.tgs_opening.specs.PartLaws.{AreFew, few_data}
use Rattle.tgs_opening.specs.Tickets.{value_ap_req, ap_req_of, request_rules, tgs_data}
use Rattle.tgs_opening.specs.declared.refusal.TgsRefusal.TheVariants.{MalformedApReq}

-- the cipher is shorter than the value that contains it
cipher_short : (message : Received) (ap : ApReq) → ap_req_of message ≡ Ok ap
    → IfSome (tgs_data message) (λ value. length value < 2147483648)
    → IfSome (tgs_data message) (λ value. length ap.ticket.enc_part.cipher < length value)
    → length ap.ticket.enc_part.cipher < 2147483648
cipher_short message ap read few short =
    at (tgs_data message)
    (decided_found (request_rules message) (value_ap_req (tgs_data message)) MalformedApReq ap read) few short
  where
    at : (o : Option (List ℕ)) → value_ap_req o ≡ Some ap → IfSome o (λ value. length value < 2147483648)
        → IfSome o (λ value. length ap.ticket.enc_part.cipher < length value)
        → length ap.ticket.enc_part.cipher < 2147483648
    at (Some value) e few short = omega (arith, few, short)
    at None e few short = absurd cc

pub few_presented : (message : Received) (ap : ApReq) (part : EncTicketPart) → ap_req_of message ≡ Ok ap
    → IfSome (tgs_data message) (λ value. length value < 2147483648)
    → IfSome (tgs_data message) (λ value. length ap.ticket.enc_part.cipher < length value)
    → IsSpelledWithin enc_ticket_part part ap.ticket.enc_part.cipher → AreFew 2147483648 part.authorization_data
few_presented message ap part read few short within =
    few_data 2147483648 part ap.ticket.enc_part.cipher (cipher_short message ap read few short) within
