-- A ticket has one encoding, so it is no longer than the bytes from which it was read.
use Rattle.std.proofs.Common.{ℕ, ◌+◌, length, Some, refl, ap, arith}
use Rattle.krb_elements.specs.InsideLaws.{IsInside}
use Rattle.krb_elements.specs.OneSpellingLaws.{HasOneSpelling}
use Rattle.krb_elements.specs.WrittenLaws.{tlv_longer}
use Rattle.krb_fields.specs.EncryptedData.{encrypted_data_form}
use Rattle.krb_fields.specs.PrincipalName.{name_form}
use Rattle.krb_types.specs.Ticket.{Ticket, ticket, ticket_form}

pub ticket_one : HasOneSpelling ticket.Spells ticket.tag ticket.text
unfolding ticket_form name_form encrypted_data_form
ticket_one = ticket.laws.one refl

abbrev pub ticket_size : Ticket → ℕ
ticket_size t = length (ticket.text t) + 1

-- its text is shorter than the bytes that encode it
pub ticket_inside : IsInside ticket_size ticket.Spells (λ t. Some t)
ticket_inside = record {
  is = λ t bytes fits s. omega (arith, ap length (ticket_one.is t bytes fits s), tlv_longer 97 (ticket.text t));
}
