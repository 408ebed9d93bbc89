-- The numbers of an AP-REQ, as C reads them.
use Rattle.std.specs.Prelude.{pos, false, is_some, Option, Some, None, option_map}
use Rattle.std.specs.Option.{unwrap_or}
use Rattle.enctypes.specs.Etype.{number}
use Rattle.ticket_times.specs.TicketTerms.{start_of_ticket, renewal_of_ticket}
use Rattle.ap_accept.specs.declared.accepted.Accepted.{Accepted}
use Rattle.ap_accept.specs.declared.label.TicketLabel.{TicketLabel}
use Rattle.ap_accept_c.specs.declared.last.Last.{Last}
use Rattle.ap_accept_c.specs.declared.numbers.Numbers.{Numbers}

-- those of what was accepted
abbrev pub numbers_of : Accepted → Numbers
numbers_of accepted = record {
  authtime = accepted.ticket.authtime;
  starttime = start_of_ticket accepted.ticket;
  endtime = accepted.ticket.endtime;
  renew_till = renewal_of_ticket accepted.ticket;
  seq_number = unwrap_or accepted.seq_number (pos 0);
  ticket_key_version = pos 0;
  flags = accepted.ticket.flags;
  session_key_type = number accepted.session_key.etype;
  subkey_type = unwrap_or (option_map (λ k. number k.etype) accepted.subkey) (pos 0);
  checksum_type = unwrap_or (option_map (λ c. c.number) accepted.cksum) (pos 0);
  ticket_key_type = pos 0;
  has_seq_number = is_some accepted.seq_number;
  has_checksum = is_some accepted.cksum;
  has_ap_rep = is_some accepted.ap_rep;
  has_ticket_key_version = false;
}

-- all are zero if nothing was accepted
abbrev pub numbers_if : Option Accepted → Numbers
numbers_if (Some accepted) = numbers_of accepted
numbers_if None = record {
  authtime = pos 0;
  starttime = pos 0;
  endtime = pos 0;
  renew_till = pos 0;
  seq_number = pos 0;
  ticket_key_version = pos 0;
  flags = 0;
  session_key_type = pos 0;
  subkey_type = pos 0;
  checksum_type = pos 0;
  ticket_key_type = pos 0;
  has_seq_number = false;
  has_checksum = false;
  has_ap_rep = false;
  has_ticket_key_version = false;
}

-- with those of the key that encrypts the ticket
abbrev pub labeled : Option TicketLabel → Numbers → Numbers
labeled (Some label) numbers = record numbers {
  ticket_key_version = unwrap_or label.kvno (pos 0);
  ticket_key_type = label.etype;
  has_ticket_key_version = is_some label.kvno;
}
labeled None numbers = numbers

abbrev pub numbers_in : Last → Numbers
numbers_in last = labeled last.label (numbers_if last.accepted)
