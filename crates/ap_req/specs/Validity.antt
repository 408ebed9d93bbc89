-- Whether a ticket is valid at a second, by its times (RFC 4120, section 3.2.3).
use Rattle.std.specs.Prelude.{ℤ, pos, ◌+ℤ◌, ◌-ℤ◌, Bool, int_lt}
use Rattle.krb_fields.specs.Skew.{skew}
use Rattle.krb_types.specs.EncTicketPart.{EncTicketPart}
use Rattle.ticket_times.specs.TicketTerms.{start_of_ticket}
use Rattle.ticket_times.specs.declared.ticket_terms.TicketTerms.{TicketTerms}

-- the flags and times of a ticket
abbrev pub ticket_terms : EncTicketPart → TicketTerms
ticket_terms part = record {
  flags = part.flags;
  authtime = part.authtime;
  starttime = part.starttime;
  endtime = part.endtime;
  renew_till = part.renew_till;
}

-- it starts later than the clock skew allows
abbrev pub has_not_started : TicketTerms → ℤ → Bool
has_not_started ticket now = int_lt (now +ℤ pos skew) (start_of_ticket ticket)

-- it ended before the clock skew
abbrev pub has_ended : TicketTerms → ℤ → Bool
has_ended ticket now = int_lt ticket.endtime (now -ℤ pos skew)
