-- The ticket in a reply is short enough to encode.
use Rattle.std.proofs.Common.{ℕ, ◌^◌, ◌<◌, List, length, Some, arith}
use Rattle.std.specs.Prelude.{IfOk}
use Rattle.std.proofs.Common.{Result, Ok, Err}
use Rattle.krb_der.specs.Spelling.{IsBytes}
use Rattle.krb_elements.specs.Codec.{sequence, list_of, string}
use Rattle.krb_elements.specs.InsideLaws.{IsInside, in_contents, in_field, past_field, past_optional}
use Rattle.krb_elements.specs.WrittenLaws.{inside_fits}
use Rattle.krb_fields.specs.EncryptedData.{encrypted_data}
use Rattle.krb_fields.specs.PaData.{pa_data}
use Rattle.krb_fields.specs.PrincipalName.{name}
use Rattle.krb_types.specs.Ticket.{ticket}
use Rattle.krb_types.specs.TicketLaws.{ticket_size, ticket_inside}
use Rattle.krb_types.specs.KdcRep.{KdcRep, kdc_rep, kdc_rep_form}

ticket_in : (type : ℕ) → IsInside ticket_size
    (sequence (kdc_rep_form type (list_of pa_data) string name ticket encrypted_data)).Spells
    (λ (x : KdcRep type). Some x.ticket)
unfolding kdc_rep_form
ticket_in type =
    let form = kdc_rep_form type (list_of pa_data) string name ticket encrypted_data in
    in_contents ticket_size 48 form.fields.Spells (λ y. Some y.1.1.1.1.1.0) form.fields.of
    (past_field ticket_size 160 _ _ (λ y. Some y.1.1.1.1.0)
    (past_field ticket_size 161 _ _ (λ y. Some y.1.1.1.0)
    (past_optional ticket_size 162 _ _ (λ y. Some y.1.1.0)
    (past_field ticket_size 163 _ _ (λ y. Some y.1.0)
    (past_field ticket_size 164 _ _ (λ y. Some y.0)
    (in_field ticket_size 165 _ _ (λ t. Some t) ticket_inside))))))

pub ticket_short : (type : ℕ) (x : KdcRep type) (bytes : List ℕ) → IsBytes bytes → (kdc_rep type).Spells x bytes
    → length (ticket.text x.ticket) < 2 ^ 32
ticket_short type x bytes fits s = omega (arith, s.1, (ticket_in type).is x s.0 (inside_fits _ bytes s.0 fits s.3) s.2)

pub short_if_read : {E : Type 0} (type : ℕ) (r : Result (KdcRep type) E) (bytes : List ℕ) → IsBytes bytes
    → IfOk r (λ x. (kdc_rep type).Spells x bytes) → IfOk r (λ x. length (ticket.text x.ticket) < 2 ^ 32)
short_if_read type (Ok x) bytes fits h = ticket_short type x bytes fits h
short_if_read type (Err e) bytes fits h = tt
