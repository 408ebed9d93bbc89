-- The ticket in a reply has an encoding, and a client keeps the ticket in this encoding.
use Rattle.std.specs.Prelude.{◌≡◌, ℕ, List, Ok}
use Rattle.krb_der.specs.Spelling.{IsBytes}
use Rattle.krb_elements.specs.Codec.{written}
use Rattle.krb_elements.specs.Format.{whole}
use Rattle.krb_elements.specs.Laws.{whole_ok}
use Rattle.krb_types.specs.Ticket.{ticket}
use Rattle.krb_types.specs.KdcRep.{KdcRep, kdc_rep, kdc_rep_form}
use Rattle.krb_types.specs.ReplyShortLaws.{ticket_short}

-- the ticket's own bytes encode it
pub ticket_spelled : (type : ℕ) (r : KdcRep type) (bytes : List ℕ) → IsBytes bytes → (kdc_rep type).Spells r bytes
    → ticket.Spells r.ticket (written ticket r.ticket)
unfolding kdc_rep_form
ticket_spelled type r bytes fits s =
    let range = (kdc_rep type).laws.range.fits r bytes fits s in
    ticket.laws.writable.spells r.ticket range.1.1.1.1.1.0 (ticket_short type r bytes fits s)

-- reading these bytes gives the ticket again
pub ticket_again : (type : ℕ) (r : KdcRep type) (bytes : List ℕ) → IsBytes bytes → (kdc_rep type).Spells r bytes
    → whole ticket.at (written ticket r.ticket) ≡ Ok r.ticket
ticket_again type r bytes fits s =
    (whole_ok ticket.Spells ticket.at ticket.laws.element.reading).again r.ticket (written ticket r.ticket)
    (ticket_spelled type r bytes fits s)
